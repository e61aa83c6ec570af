-- The names from elsewhere that the lemmas of this crate import, in one file. Declares nothing.
pub use Rattle.std.proofs.Common.{◌%◌, ◌&&◌, ◌*◌, ◌+◌, ◌++◌, ◌-◌, ◌/◌, ◌<◌, ◌==◌, [], ◌^◌, add-one, ap, append-nil}
pub use Rattle.std.proofs.Common.{append_assoc, arith, Bool, drop, eq-eqb, eqb, false, get_or, get_or-set_other}
pub use Rattle.std.proofs.Common.{get_or-set_same, inl, inr, leb, length, length-append, length-drop, length-set}
pub use Rattle.std.proofs.Common.{length-take, List, ltb, map, min, nat_eq, None, Option, refl, replicate, rules}
pub use Rattle.std.proofs.Common.{slice_set, Some, subst, suc, sym, take, true, unwrap_or, zero, ◌||◌, ℕ, ◌∙◌, ◌∷◌, ◌≡◌}
pub use Rattle.std.proofs.Common.{◌≢◌, ◌≤◌, ◌⊎◌}
pub use Rattle.std.proofs.Math.Seq.{drop-cons, take-add, take-suc, take-suc-set}
pub use Rattle.std.proofs.lemmas.Bool.{and_parts, cases_Bool, cases_eq, cases_lt, eqb-true, le-leb, le-ltb, leb-false}
pub use Rattle.std.proofs.lemmas.Bool.{leb-true, lt-leb, lt-ltb, ne_eqb, or_cases}
pub use Rattle.std.proofs.lemmas.List.{drop-append-le, drop-drop, drop-set-lt, drop_all, drop_at, ext_get_or}
pub use Rattle.std.proofs.lemmas.List.{get_or-drop, get_or_past, map-append, replicate_more, set-get_or}
pub use Rattle.std.proofs.lemmas.List.{take-append-drop, take-append-le, take_all}
pub use Rattle.std.proofs.lemmas.List.FromFn.{get_or-map-range_with_len, length-map-range_with_len}
pub use Rattle.std.proofs.lemmas.List.FromFn.{map-range_with_len_more, take-map-range_with_len}
pub use Rattle.std.proofs.lemmas.List.Sums.{prefix_len-le-length, prefix_len_passes, prefix_len_stops, sum_by-cons}
pub use Rattle.std.proofs.lemmas.List.Sums.{take_while-cons}
pub use Rattle.std.proofs.lemmas.Option.{get_or_from_slice_get, slice_get-get_or, slice_get-map, slice_get_cases}
pub use Rattle.std.proofs.lemmas.Option.{slice_get_past, slice_get_within}
pub use Rattle.std.specs.List.{flat_map, prefix_len, range_with_len, sum_by, take_while}
pub use Rattle.std.specs.Prelude.{if◌then◌else◌, not, option_map, slice_get}
pub use Rattle.frames.proofs.FreeLemmas.{among_first, among_first_not, free_of-same, further-free, IsFreeList-same}
pub use Rattle.frames.proofs.HolderLemmas.{among-none, count-cases, count_of-append, count_of-first, count_of-other}
pub use Rattle.frames.proofs.HolderLemmas.{distinct-count, free-holders, held-count, held-inside, holders-free}
pub use Rattle.frames.proofs.HolderLemmas.{IsShared-trade, none-among, not-free-held, one-holder, one_if-le}
pub use Rattle.frames.proofs.HolderLemmas.{shared-count, single, Trades-beside, Trades-lengths}
pub use Rattle.frames.proofs.TradeLemmas.{holders-table, Trades-give, Trades-none, Trades-twice}
pub use Rattle.frames.specs.Free.{among, free_count, further_at, IsDuplicate, IsFreeList, SameBut}
unfoldable pub use Rattle.frames.specs.Free.{extra_of, free_of}
pub use Rattle.frames.specs.Holders.{count_of, IsShared, one_if, Trades}
unfoldable pub use Rattle.frames.specs.Holders.{holders_of}
pub use Rattle.frames.specs.declared.Frames.{Frames}
pub use Rattle.pagetable.proofs.TreeLemmas.{KeepsTables, IsTree-same, lookup_of-same, table_at-same}
pub use Rattle.pagetable.proofs.ShapeLemmas.{IsEmpty-tables, IsTidy-empty, only-root}
pub use Rattle.pagetable.proofs.AgreeLemmas.{lookup-sound}
pub use Rattle.pagetable.proofs.ShapeLemmas.{length-made, made-is, table_of-some}
pub use Rattle.pagetable.proofs.WriteLemmas.{free-first, free_count-taken, further-same}
pub use Rattle.pagetable.proofs.TreeLemmas.{low_is_node, mid_is_node, missing-is, no_low, root_at, some-unless_none}
pub use Rattle.pagetable.proofs.TreeLemmas.{tree-root}
pub use Rattle.pagetable.specs.Shape.{Adds, IsEmpty, IsLast, IsTidy, IsUsed, Removes, table_of}
unfoldable pub use Rattle.pagetable.specs.Shape.{made}
pub use Rattle.pagetable.specs.Tree.{HasTable, IsLeafMarks, IsNode, IsPaged, IsTree, Keeps, leaf_at, Low, low_node}
pub use Rattle.pagetable.specs.Tree.{Maps, Mid, mid_node, Node, Root, SameMap, SameTables}
unfoldable pub use Rattle.pagetable.specs.Tree.{lookup_of, missing, table_at}
pub use Rattle.ram.proofs.MemoryLemmas.{Ram}
pub use Rattle.ram.specs.Memory.{frame_of, IsMemory}
unfoldable pub use Rattle.ram.specs.Memory.{put, put_bytes, sized, word_bytes, word_of}
pub use Rattle.sv39.specs.Mapping.{allowed, frame_for, IsCoherent, Mapped, memory_of, page_in, WalksTo}
pub use Rattle.unixmodel.specs.Memory.{before_nul, can_write, Memory, overwrite, Page, Perm, permits, permitted}
pub use Rattle.unixmodel.specs.Memory.{shared_marks, shared_memory, shared_page, write_from, zero_page}
unfoldable pub use Rattle.unixmodel.specs.Memory.{reach, string_at, write_bytes, zeros}
pub use Rattle.unixmodel.specs.Translation.{Held, is_canonical, leaf_allows}
pub use Rattle.unixmodel.specs.declared.trap.Access.{Access}
pub use Rattle.unixmodel.specs.declared.trap.Access.TheVariants.{Fetch, Load, Store}
pub use Rattle.vm.specs.Dense.{entries_below, frame_at, frames_for, held, IsDense, IsOpenFrom, mapping_below, marks_at}
pub use Rattle.vm.specs.Dense.{OwnsFrames, page_at, page_with, pages_below, read_at, read_by, SameLeaves}
pub use Rattle.vm.specs.Dense.{SameLeavesUpTo, tables_for, trap_marks, trap_page}
unfoldable pub use Rattle.vm.specs.Dense.{frames_below, read_below, tables_below}
pub use Rattle.vm.specs.Fork.{IsMore, IsPart, IsSoFar}
pub use Rattle.vm.specs.Leaf.{entry_marks, mapped_as, is_open, IsUserLeaf, marks_from, right_marks, user_leaf}
pub use Rattle.vm.specs.Reach.{IsSized, piece_at, rest_of, short_string, written}
unfoldable pub use Rattle.vm.specs.Reach.{run_of}
pub use Rattle.vm.specs.Shares.{all_held, frames_used, FreeAreTheRest, held_at, IsMachine, IsPlace, NewSpaceSettles}
pub use Rattle.vm.specs.Shares.{OnePlaceForks, OnePlaceSpares, OnePlaceSparesOthers, OnePlaceTrades, OthersSpare}
pub use Rattle.vm.specs.Shares.{OthersTrade}
pub use Rattle.vm.specs.Space.{first_pages, GainsHolders, HasFramesOf, HasRights, held_by, holds, IsMapped, IsOnce}
pub use Rattle.vm.specs.Space.{IsRearranged, IsSpace, IsUntouched, mapping_of, page_frame, pages_in, pages_of, Reframes}
pub use Rattle.vm.specs.Space.{registers_of, SameOtherPages, Stands, StaysOpen}
pub use Rattle.vm.specs.declared.Space.{Space}
