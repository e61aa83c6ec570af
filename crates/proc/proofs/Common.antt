-- The names from elsewhere that the lemmas of this crate import, in one file. Declares nothing.
pub use Rattle.std.proofs.Common.{◌%◌, ◌*◌, ◌+◌, ◌-◌, ◌/◌, ◌<◌, ◌==◌, [], ◌^◌, ◌++◌, ap, arith, drop, Bool, false}
pub use Rattle.std.proofs.Common.{get_or, inl, inr, is_some, length, List, map, max, None, Ok, Option, option_map, refl}
pub use Rattle.std.proofs.Common.{slice_set, Some, subst, suc, sym, take, true, w64, zero, ℕ, ◌∙◌, ◌∷◌, ◌≡◌, ◌≢◌, ◌≤◌}
pub use Rattle.std.proofs.lemmas.Bool.{cases_eq, cases_lt, eq-eqb, le-ltb, leb-true, lt-ltb, ne_eqb, true≢false}
pub use Rattle.std.proofs.lemmas.List.{ext_get_or, get_or-set_other, get_or-set_same, set_past, take_all}
pub use Rattle.std.specs.List.{list_any, position_or_len, refill}
pub use Rattle.std.specs.Prelude.{bit_and, bit_or, cond, if◌then◌else◌, nat_le, nat_lt, not, position, ◌||◌}
pub use Rattle.unixmodel.specs.Files.{free_slot, slot}
pub use Rattle.unixmodel.specs.State.{holds}
pub use Rattle.proc.specs.Mask.{is_in, IsFirstFrom, IsNext, NoneFrom, NoneIsIn}
unfoldable pub use Rattle.proc.specs.Mask.{all_in, bits_of}
pub use Rattle.proc.specs.Next.{IsNextOf, lesser}
pub use Rattle.proc.specs.Pick.{Answers, IsFirst, NoneSays, place_in_round}
pub use Rattle.proc.specs.Places.{has_pid, is_child_of, orphaned, place_where, Places, seat_at, seat_of}
pub use Rattle.proc.specs.Waits.{AreWithin, IsFirstWaiting, IsWithin, NoneWaits, waits_so, with_place}
pub use Rattle.proc.specs.declared.process.Process.{Process}
pub use Rattle.proc.specs.declared.table.Table.TheInside.{Inside}
pub use Rattle.proc.specs.declared.waits.WaitPlaces.{WaitPlaces}
