-- The names that the lemmas of this crate import from other crates, passed on here. Declares nothing.
pub use Rattle.run_laws.specs.Resting.{IsLeft, Rests}
pub use Rattle.std.proofs.lemmas.Bool.{and_parts, cases_eq, cases_lt}
pub use Rattle.std.proofs.lemmas.List.{get_or-set_other}
pub use Rattle.std.proofs.lemmas.List.Quantifiers.{position-Some}
pub use Rattle.std.proofs.lemmas.Option.{cond_some, same_Some}
pub use Rattle.std.specs.List.{All, range_with_len}
pub use Rattle.unixmodel.specs.Files.{clear, Files, free_slot, Node, put, slot}
pub use Rattle.unixmodel.specs.OpenFiles.{OpenFile, Target}
pub use Rattle.unixmodel.specs.Outcome.Outcome.{Done, Ends, Refused, Waits}
pub use Rattle.unixmodel.specs.Process.{arg, is_child_of, is_running, is_zombie, Process, with_answer, with_mode}
pub use Rattle.unixmodel.specs.State.{change_process, holds, place_limit, process_at, put_process, running, State}
pub use Rattle.unixmodel.specs.declared.call.Call.{Call}
pub use Rattle.unixmodel.specs.declared.event.Event.{Event}
pub use Rattle.unixmodel.specs.declared.event.Event.TheVariants.{Key, Step, Tick}
pub use Rattle.unixmodel.specs.declared.process.Pending.{Pending}
