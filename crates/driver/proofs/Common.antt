-- Passes on the names that the proofs of loops import from elsewhere. Declares nothing.
pub use Rattle.std.proofs.Common.{◌+◌, ◌-◌, ◌<◌, ◌≡◌, ◌≤◌, arith, length, map, replicate, take}
pub use Rattle.std.proofs.lemmas.List.{length-map, length-replicate}
pub use Rattle.std.proofs.lemmas.Result.{err_from_is_err_and}
pub use Rattle.events.proofs.Scripting.{press-next, repeat-next}
pub use Rattle.machine.proofs.RunLemmas.{goes_on, Rises-later, so_far_at_first, SoFar, stops}
pub use Rattle.unixmodel.specs.declared.event.Event.TheVariants.{Key}
