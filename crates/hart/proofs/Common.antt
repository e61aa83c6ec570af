-- The names from elsewhere that the lemmas of this crate import, in one file. Declares nothing.
pub use Rattle.std.proofs.Common.{◌%◌, ◌&&◌, ◌*◌, ◌+◌, ◌++◌, ◌-◌, ◌/◌, ◌<◌, ◌==◌, [], ◌^◌, ap, append_assoc, arith}
pub use Rattle.std.proofs.Common.{Bool, cond, drop, Err, false, get_or, get_or-set_other, get_or-set_same, inl, inr}
pub use Rattle.std.proofs.Common.{length, length-set, List, None, Ok, Option, refl, rules, set, slice_index_or}
pub use Rattle.std.proofs.Common.{slice_range, slice_set, Some, subst, suc, sym, take, true, zero, ℕ, ◌∙◌, ◌∷◌, ◌≡◌}
pub use Rattle.std.proofs.Common.{◌≢◌, ◌≤◌, ◌⊎◌}
pub use Rattle.std.proofs.lemmas.Bool.{and_parts, cases_eq, cases_lt, eq-eqb, eqb-true, ne_eqb}
pub use Rattle.ram.proofs.MemoryLemmas.{word_of-frame, word_of-put_beside}
pub use Rattle.std.proofs.lemmas.Option.{get_or_from_slice_get, slice_get-get_or, slice_get-map, slice_get_within}
pub use Rattle.std.specs.Int.{byte_at, bytes_low_first, cast_signed, w128, w64}
pub use Rattle.std.specs.Prelude.{◌*ℤ◌, FitsSigned, IfNone, IfSome, if◌then◌else◌, option_map, pos, slice_get}
pub use Rattle.std.specs.Prelude.{slice_index, unsigned_abs}
pub use Rattle.ram.specs.Memory.{frame_of, IsMemory}
unfoldable pub use Rattle.ram.specs.Memory.{put, put_bytes, word_bytes, word_of}
pub use Rattle.sv39.proofs.WalkLemmas.{walk_page-inside}
pub use Rattle.sv39.specs.Mapping.{allowed, frame_for, Mapped, memory_of, page_in, Shows, WalksTo}
pub use Rattle.unixmodel.specs.Cycle.{act_word, fetched}
unfoldable pub use Rattle.unixmodel.specs.Cycle.{cycle}
pub use Rattle.unixmodel.specs.Meaning.{Change, Computed, Effect, is_taken, load_from, load_size, store_size, store_to}
pub use Rattle.unixmodel.specs.Meaning.{trap}
unfoldable pub use Rattle.unixmodel.specs.Meaning.{act}
pub use Rattle.unixmodel.specs.Meaning.Change.{Bytes, Nothing}
pub use Rattle.unixmodel.specs.Memory.{bytes_at, Memory, overwrite, Page, page_for, permits, permitted, write_from}
unfoldable pub use Rattle.unixmodel.specs.Memory.{write_bytes}
pub use Rattle.unixmodel.specs.Numbers.{extend, le, number, plus}
pub use Rattle.unixmodel.specs.Translation.{Held, HoldsInside, IsAnswer, IsKept, place_in, walk_page}
unfoldable pub use Rattle.unixmodel.specs.Words.{instruction_of}
pub use Rattle.unixmodel.specs.declared.instr.Instr.{Instr}
pub use Rattle.unixmodel.specs.declared.instr.LoadOp.{LoadOp}
pub use Rattle.unixmodel.specs.declared.instr.StoreOp.{StoreOp}
pub use Rattle.unixmodel.specs.declared.trap.Access.{Access}
pub use Rattle.unixmodel.specs.declared.trap.Access.TheVariants.{Fetch, Load, Store}
pub use Rattle.unixmodel.specs.declared.trap.Cause.{Cause}
pub use Rattle.unixmodel.specs.declared.trap.Cause.TheVariants.{IllegalInstruction, InstructionPageFault}
pub use Rattle.unixmodel.specs.declared.trap.Cause.TheVariants.{LoadMisaligned, LoadPageFault, StoreMisaligned}
pub use Rattle.unixmodel.specs.declared.trap.Cause.TheVariants.{StorePageFault}
pub use Rattle.unixmodel.specs.declared.trap.Trap.{Trap}
pub use Rattle.hart.specs.Acts.{Acts, doubleword_of, goes_to, IsLive, KeepsLive, KeepsWords, Leaves, Operates, pc_after}
pub use Rattle.hart.specs.Acts.{seen_in, seen_live, store_of, trap_of, Turns}
pub use Rattle.hart.specs.Answered.{Answers, AreAllowed, fetched_by, given, HasEffect, IsStep, load_by, put_at, seen}
pub use Rattle.hart.specs.Answered.{Sight, store_by, stored, word_by}
unfoldable pub use Rattle.hart.specs.Answered.{act_by, cycle_by}
pub use Rattle.hart.specs.Checked.{AreChecked, AreNow, StayLive}
pub use Rattle.hart.specs.Changes.{changed, IsAlone, IsSound, IsStore, put_in, Stores, WritesOnly, WritesPage}
pub use Rattle.hart.specs.Follows.{Follows}
pub use Rattle.hart.specs.Operations.{AreOps, IsOp}
unfoldable pub use Rattle.hart.specs.Operations.{op_by}
pub use Rattle.hart.specs.Stops.{AreFree, EndsAt, IsBehind, IsClear, IsFree, IsPast, is_stop, pc_at}
pub use Rattle.hart.specs.Runs.{Goes, GoesOn, MovesOn, Point, point_at, point_of, StaysWhole, word_in}
unfoldable pub use Rattle.hart.specs.Runs.{Reaches, RunsTo}
pub use Rattle.hart.specs.Sizes.{IsSize}
pub use Rattle.hart.specs.declared.act.Next.{Next}
pub use Rattle.hart.specs.declared.act.Next.TheVariants.{At, Behind, Stop, Stored, Within}
pub use Rattle.hart.specs.declared.operation.Op.{Op}
pub use Rattle.hart.specs.declared.state.Hart.{Hart}
pub use Rattle.hart.proofs.Ram.{Ram}
