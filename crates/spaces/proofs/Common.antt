-- The names from elsewhere that the lemmas of this crate import, in one file. Declares nothing.
pub use Rattle.std.proofs.Common.{◌%◌, ◌&&◌, ◌+◌, ◌++◌, ◌-◌, ◌/◌, ◌<◌, [], ◌^◌, All, ap, append-nil, arith, Bool, cond}
pub use Rattle.std.proofs.Common.{drop, eqb, Err, false, get_or, get_or-set_other, get_or-set_same, IfSome}
pub use Rattle.std.proofs.Common.{if◌then◌else◌, inl, inr, length, length-append, length-set, List, map, nat_le, nat_lt}
pub use Rattle.std.proofs.Common.{None, Ok, Option, option_map, refl, replicate, Result, slice_set, Some, subst, suc}
pub use Rattle.std.proofs.Common.{sym, take, take-append-drop, true, zero, ℕ, ◌∙◌, ◌∷◌, ◌≡◌, ◌≢◌, ◌≤◌, ◌⊎◌}
pub use Rattle.std.proofs.Math.ListN.{get_or-map}
pub use Rattle.std.proofs.lemmas.Bool.{and_parts, cases_Bool, cases_eq, cases_lt}
pub use Rattle.std.proofs.lemmas.List.{get_or_default, length-map, length-replicate, length-take, set-get_or, take_all}
pub use Rattle.std.proofs.lemmas.List.{nil_from_length}
pub use Rattle.std.proofs.lemmas.List.Sums.{sum_by-cons}
pub use Rattle.std.specs.Bool.{OnFalse, OnTrue}
pub use Rattle.std.specs.List.{flat_map, prefix_len, refill}
pub use Rattle.std.specs.Prelude.{IfNone, is_none, is_ok, is_some, IsErrOf, not, OnErr, OnOk, option_and_then}
pub use Rattle.std.specs.Prelude.{slice_get, sum_by, unwrap_or, ◌||◌, ◌↔◌}
pub use Rattle.frames.proofs.HolderLemmas.{count_of-append, count_of-first, held-inside, one_if-le}
pub use Rattle.frames.proofs.TradeLemmas.{Trades-give, Trades-take}
pub use Rattle.frames.specs.Free.{among, free_count, further_at, IsFreeList, SameBut}
unfoldable pub use Rattle.frames.specs.Free.{extra_of, free_of}
pub use Rattle.frames.specs.Holders.{count_of, one_if, Trades}
unfoldable pub use Rattle.frames.specs.Holders.{holders_of}
pub use Rattle.frames.specs.declared.Frames.{Frames}
pub use Rattle.hart.proofs.Again.{Alike, cycle-again, cycle-retries, Narrows}
pub use Rattle.hart.proofs.ChangeLemmas.{memory_of-cycle}
pub use Rattle.hart.specs.Changes.{changed, IsSound, put_in, WritesOnly}
pub use Rattle.hart.specs.declared.state.Hart.{Hart}
pub use Rattle.pipe.specs.Pipe.{bytes_of, Pipe, Stays}
pub use Rattle.ram.specs.Memory.{frame_of, IsMemory}
pub use Rattle.ram.specs.declared.FrameNo.{FrameNo}
pub use Rattle.sv39.proofs.Placed.{coherent-kept, coherent-nothing, shows-coherent}
pub use Rattle.sv39.specs.Mapping.{IsCoherent, Mapped, memory_of, page_in, Shows, WalksTo}
pub use Rattle.unixmodel.specs.Counts.{page_frames}
unfoldable pub use Rattle.unixmodel.specs.Cycle.{cycle}
pub use Rattle.unixmodel.specs.Files.{free_slot, slot, taken}
pub use Rattle.unixmodel.specs.Meaning.{Change, Computed, Effect, trap}
pub use Rattle.unixmodel.specs.Meaning.Change.{Bytes, Nothing}
pub use Rattle.unixmodel.specs.Memory.{before_nul, Memory, Page, page_for, Perm, permits, permitted, shared_memory}
pub use Rattle.unixmodel.specs.Memory.{shared_page, short_path, write_from, zero_page}
unfoldable pub use Rattle.unixmodel.specs.Memory.{path_at, reach, string_at, write_bytes}
pub use Rattle.unixmodel.specs.Next.{memory_after}
pub use Rattle.unixmodel.specs.Numbers.{ceil_div}
pub use Rattle.unixmodel.specs.Shown.{byte_at, is_shared, page_byte, ShowsByte, ShowsMemory, told_page}
pub use Rattle.unixmodel.specs.Translation.{Held, HoldsInside, HoldsNothing, IsKept, Translation, walk}
pub use Rattle.unixmodel.specs.declared.trap.Access.TheVariants.{Fetch, Load, Store}
pub use Rattle.unixmodel.specs.declared.trap.Cause.TheVariants.{StorePageFault}
pub use Rattle.unixmodel.specs.declared.trap.Trap.{Trap}
pub use Rattle.vm.proofs.PageLemmas.{length-mapping, coherent-grown, get-mapping, mapped-page, mapping-is, mapping-past}
pub use Rattle.vm.proofs.PageLemmas.{mapping-within, unmapped-page, walks-entries}
pub use Rattle.vm.proofs.ReachLemmas.{page-there}
pub use Rattle.vm.proofs.SharesLemmas.{fork-machine, free-left, machine-new, none-flat, none-there, one-place}
pub use Rattle.vm.proofs.SharesLemmas.{rest-held, rest-machine, rest-untouched, set-place, trade-machine, trade-others}
pub use Rattle.vm.proofs.SharesLemmas.{trade-rest, Trades-write, two-places, each-set}
pub use Rattle.vm.specs.Dense.{entries_below, frame_at, frames_for, mapping_below, marks_at, pages_below, read_at}
unfoldable pub use Rattle.vm.specs.Dense.{read_below}
pub use Rattle.vm.specs.Leaf.{entry_marks, is_open, IsUserLeaf, mapped_as, marks_from, right_marks, user_leaf}
pub use Rattle.vm.specs.Reach.{IsSized, short_string, string_in}
pub use Rattle.vm.specs.Shares.{frames_used, IsMachine, IsPlace, OthersUntouched}
pub use Rattle.vm.specs.Space.{entries_of, holds, IsMapped, IsOnce, IsRearranged, IsSpace, IsUntouched, mapping_of}
pub use Rattle.vm.specs.Space.{pages_in, pages_of, Reframes, Stands}
pub use Rattle.vm.specs.declared.Space.{Space}
pub use Rattle.vm.specs.declared.VmFault.{VmFault}
pub use Rattle.hart.specs.Runs.{Point, DoesOne, point_of}
pub use Rattle.spaces.specs.Ends.{IsOpen}
pub use Rattle.spaces.specs.Instructions.{Does}
pub use Rattle.hart.specs.Stops.{EndsAt, IsBehind, IsPast, is_stop}
unfoldable pub use Rattle.spaces.specs.Instructions.{Advances}
pub use Rattle.spaces.specs.Spaces.{bytes_in, computed, forked, frames_in, grown, has_pipe, has_space, no_pages, shrunk}
pub use Rattle.spaces.specs.Spaces.{Spaces, SpaceView, taken_frames, Traps, view_at, with_pipe, with_place, with_view}
pub use Rattle.spaces.specs.Spaces.{Executes, copied}
pub use Rattle.spaces.specs.View.{frames_at, IsActive, IsLoaded, IsSpaces, pipe_frames, pipe_shown, Runs, shown}
pub use Rattle.spaces.specs.View.{spaces_of}
pub use Rattle.spaces.specs.View.{view_with}
pub use Rattle.spaces.specs.declared.Spaces.TheInside.{Inside}
pub use Rattle.hart.proofs.Ram.{Ram}
