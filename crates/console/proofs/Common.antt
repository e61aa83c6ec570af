-- The names that the lemmas of this crate import from other crates, passed on here. Declares nothing.
pub use Rattle.std.proofs.Common.{◌%◌, ◌+◌, ◌++◌, ◌-◌, ◌<◌, [], ap, append-nil, append_assoc, ap₂, arith, Bool, drop}
pub use Rattle.std.proofs.Common.{false, flat_map, get_or, inl, inr, length, List, min, None, Option, refl, rules, set}
pub use Rattle.std.proofs.Common.{slice_get, Some, suc, sym, take, true, zero, ℕ, ◌∙◌, ◌∷◌, ◌≡◌, ◌≢◌, ◌≤◌}
pub use Rattle.std.proofs.KnownBytes.{Appends-nil, Appends-trans}
pub use Rattle.std.proofs.lemmas.Bool.{ne_eqb}
pub use Rattle.std.proofs.lemmas.Grind.{common_steps}
pub use Rattle.std.specs.Io.KnownBytes.{Appends}
pub use Rattle.ring_laws.proofs.RingLemmas.{first-ring, length-ring, none-ring, ring-append, ring-around, ring-push}
pub use Rattle.ring_laws.proofs.RingLemmas.{ring-set_behind, take-ring}
unfoldable pub use Rattle.ring_laws.specs.Ring.{ring}
pub use Rattle.unixmodel.specs.Console.{commit, Console, erase_byte, erase_line, rub_out, Taken, with_byte}
unfoldable pub use Rattle.unixmodel.specs.Console.{key, take_line}
pub use Rattle.console.specs.Line.{behind, keyed_by, line_of, without_last}
unfoldable pub use Rattle.console.specs.Line.{rub_outs}
