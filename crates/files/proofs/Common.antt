-- The names from elsewhere that the lemmas of this crate import, in one file. Declares nothing.
pub use Rattle.std.proofs.Common.{◌<◌, [], ap, ap₂, arith, get_or-set_other, get_or-set_same, IfSome, inl, inr, length}
pub use Rattle.std.proofs.Common.{length-set, List}
pub use Rattle.std.proofs.lemmas.Option.{none-some}
pub use Rattle.std.proofs.Common.{map, None, Option, option_map, refl, replicate, slice_set, Some, subst, suc, sym}
pub use Rattle.std.proofs.Common.{zero, ℕ, ◌∙◌, ◌∷◌, ◌≡◌}
pub use Rattle.std.proofs.Math.ListN.{get_or-map}
pub use Rattle.std.proofs.lemmas.Bool.{cases_eq, cases_lt, eq-eqb, le-ltb, lt-ltb, ne_eqb}
pub use Rattle.std.proofs.lemmas.List.{length-map, map-set}
pub use Rattle.std.proofs.lemmas.List.Sums.{sum_by-cons, sum_by-set}
pub use Rattle.std.specs.List.{list_any, prefix_len, refill}
pub use Rattle.std.specs.Prelude.{◌+◌, ◌-◌, ◌==◌, Bool, cond, count_by, false, is_none, is_some, nat_lt, not}
pub use Rattle.std.specs.Prelude.{option_and_then, sum_by, true, ◌||◌, ◌≢◌, ◌≤◌}
pub use Rattle.unixmodel.specs.Files.{clear, free_slot, put, slot, taken}
unfoldable pub use Rattle.unixmodel.specs.Files.{free_slots}
pub use Rattle.unixmodel.specs.OpenFiles.{End, is_end, is_pipe}
pub use Rattle.unixmodel.specs.Reap.{is_described, is_same, kept}
unfoldable pub use Rattle.unixmodel.specs.Reap.{without_opens, without_pipes}
pub use Rattle.unixmodel.specs.State.{holds, State}
pub use Rattle.files.specs.Meant.{end_of, file_of, is_slot_end, is_slot_pipe, target_of}
pub use Rattle.files.specs.Places.{closed, count_at, count_in, Counted, counted_of, fewer, file_at, free_count, has_end}
pub use Rattle.files.specs.Places.{has_pipe, IsTable, more, moved, moved_in, moved_to, opened, opens_of, shared}
