-- The names that the lemmas of this crate import from other crates, passed on here. Declares nothing.
pub use Rattle.std.proofs.Common.{◌%◌, ◌+◌, ◌++◌, ◌-◌, ◌<◌, [], ap, append-nil, append_assoc, ap₂, arith, drop, get_or}
pub use Rattle.std.proofs.Common.{get_or-set_same, inl, inr, length, length-take, List, min, mod-eq_of_lt, refl}
pub use Rattle.std.proofs.Common.{replicate, set, slice_set, suc, sym, take, zero, ℕ, ◌∙◌, ◌∷◌, ◌≡◌, ◌≤◌}
pub use Rattle.std.proofs.lemmas.Grind.{common_steps}
pub use Rattle.std.proofs.lemmas.List.{drop_min, drop_more, take_min, take_more, take_more_set}
pub use Rattle.ram.specs.Memory.{frame_of}
unfoldable pub use Rattle.ram.specs.Memory.{sized}
pub use Rattle.ring_laws.proofs.RingLemmas.{drop-ring, length-ring, ring-append, ring-around, ring-push, take-ring}
unfoldable pub use Rattle.ring_laws.specs.Ring.{ring}
