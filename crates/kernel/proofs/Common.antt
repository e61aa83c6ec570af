-- The names from elsewhere that the lemmas of this crate import, in one file. Declares nothing.
pub use Rattle.std.proofs.Common.{◌%◌, ◌&&◌, ◌+◌, ◌++◌, ◌-◌, ◌<◌, ◌==◌, [], ◌^◌, add-one, ap, append-nil, append_assoc}
pub use Rattle.std.proofs.Common.{ap₂, arith, Bool, cond, drop, drop-cons, eq-eqb, Err, false, inl, inr, is_some}
pub use Rattle.std.proofs.Common.{le_trans, length, List, map, nat_eq, nat_le, nat_lt, negsuc, None, not, Ok, Option}
pub use Rattle.std.proofs.Common.{option_map, refl, rules, slice_set, Some, subst, suc, sym, take, true, unwrap_or}
pub use Rattle.std.proofs.Common.{zero, ◌||◌, ℕ, ℤ, ◌∙◌, ◌∷◌, ◌≡◌, ◌≢◌, ◌≤◌, ◌⊎◌}
pub use Rattle.std.proofs.Math.ListN.{get_or-map}
pub use Rattle.std.proofs.Math.Seq.{map-set_same}
pub use Rattle.std.proofs.lemmas.Bool.{and_parts, cases_eq, cases_lt, eqb-true, le-leb, le-ltb, lt-leb, lt-ltb}
pub use Rattle.std.proofs.lemmas.Bool.{ltb-true, ne_eqb, not-true, or_left, or_right, true≢false}
pub use Rattle.std.proofs.lemmas.Bool.Decides.{nat_tests}
pub use Rattle.std.proofs.lemmas.List.{drop_all, get_or-set_other, get_or-set_same, get_or_past, length-append}
pub use Rattle.std.proofs.lemmas.List.{length-map, length-set, set-get_or, set-set, set_comm, take_all}
pub use Rattle.std.proofs.lemmas.List.Folds.{position_or_len-set, prefix_len-set}
pub use Rattle.std.proofs.lemmas.List.Quantifiers.{position-Some}
pub use Rattle.std.proofs.lemmas.List.Sums.{count_by-le-length, position_or_len_is, get_or-le-sum_by, sum-map}
pub use Rattle.std.proofs.lemmas.List.Sums.{sum_by-append, sum_by-cons, sum_by-set}
pub use Rattle.std.proofs.lemmas.Option.{cond_some, none-some, option_and_then_some, same_Some}
pub use Rattle.std.specs.Borrow.{Bor}
pub use Rattle.std.specs.Fn.{FnReturns, Shared}
pub use Rattle.std.specs.List.{list_any, position_or_len, prefix_len, range_with_len}
pub use Rattle.std.specs.Option.{option_copied, option_eq}
pub use Rattle.std.specs.Prelude.{◌*◌, All, count_by, find, IfErr, IfNone, IfOk, IfSome, if◌then◌else◌, is_none, IsSome}
pub use Rattle.std.specs.Prelude.{OnErr, OnOk, option_and_then, position, Result, slice_get, slice_index, sum, sum_by}
pub use Rattle.std.specs.Prelude.{◌↔◌}
pub use Rattle.blockdev.specs.declared.DeviceFault.{DeviceFault}
pub use Rattle.files.proofs.Whole.{count-closed, count-moved, count-opened, count-shared, count_of, Counts, lt-one}
pub use Rattle.files.proofs.Whole.{lt-sum, names-clear, names-none, names-put, one_at, one_at-self, all-set, file-opens}
pub use Rattle.files.proofs.Whole.{length-opens, slot-opens, table-moved, table-shared, without_opens-same}
pub use Rattle.files.proofs.PipesLemmas.{free-opens, free-place, free-put, free-Some, has_pipe-clear, has_pipe-put}
pub use Rattle.files.proofs.PipesLemmas.{pipes-left, pipes-same, without_pipes-same}
pub use Rattle.files.specs.Counts.{names, one_in}
pub use Rattle.files.specs.Meant.{end_of, file_of, target_of}
pub use Rattle.files.specs.Pipes.{IsPiped}
pub use Rattle.files.specs.Places.{closed, count_at, count_in, Counted, file_at, IsTable, last_target, more, moved}
pub use Rattle.files.specs.Places.{moved_in, moved_to, opened, opens_of, place_from, shared}
pub use Rattle.name_rules.proofs.Finding.{slot-within}
pub use Rattle.name_rules.specs.Rules.{KeepsTree}
pub use Rattle.proc.proofs.Seats.{found-any, next-same}
pub use Rattle.proc.specs.Mask.{is_in}
pub use Rattle.proc.specs.Pick.{Answers, Picks, place_in_round}
pub use Rattle.proc.specs.Places.{changed, changed_at, exited, has_pid, is_zombie_child_of, orphaned, place_where}
pub use Rattle.proc.specs.Places.{Places, reaped_at, reaped_from, seat_of, seated, with_descriptor}
pub use Rattle.proc.specs.Places.{with_directory, with_mark, with_mode, without, woken, zombie_of, zombie_place}
pub use Rattle.proc.specs.declared.process.Process.{Process}
pub use Rattle.proc.specs.declared.table.Seat.{Seat}
pub use Rattle.spaces.proofs.SpacesLemmas.{grown-with_pages, shrunk-with_pages, some-pipe, taken-placed}
pub use Rattle.spaces.specs.Spaces.{copied, forked, frames_in, has_space, no_pages, Spaces, SpaceView, taken_frames}
pub use Rattle.spaces.specs.Spaces.{view_at, with_pipe, with_view}
pub use Rattle.tree.specs.Holding.{holders, with_hold, without_hold}
pub use Rattle.tree.specs.Tree.{FileTree, has_failed, HasFiles, Serves}
pub use Rattle.tree.specs.Whole.{IsWhole}
pub use Rattle.unixmodel.specs.Calls.{end_at, quiet}
pub use Rattle.unixmodel.specs.Console.{Console, Taken}
pub use Rattle.unixmodel.specs.Counts.{is_within, page_frames, process_frames}
unfoldable pub use Rattle.unixmodel.specs.Counts.{blocks_of, frames_of}
pub use Rattle.unixmodel.specs.Failures.{HasCause}
pub use Rattle.unixmodel.specs.Files.{change_node, clear, Files, free_slot, links_of, longest, Node, put, slot, taken}
pub use Rattle.unixmodel.specs.Files.Node.{Directory, File}
pub use Rattle.unixmodel.specs.Meaning.{Computed}
pub use Rattle.unixmodel.specs.Memory.{can_write, Memory, shared_page}
pub use Rattle.unixmodel.specs.Numbers.{ceil_div, low, number_at, round_down}
pub use Rattle.unixmodel.specs.OpenFiles.{End, is_end, is_node, is_pipe}
pub use Rattle.unixmodel.specs.OpenFiles.End.{ReadEnd, WriteEnd}
pub use Rattle.unixmodel.specs.OpenFiles.Target.{OnNode, OnPipe}
pub use Rattle.unixmodel.specs.Outcome.{pending_arg}
unfoldable pub use Rattle.unixmodel.specs.Outcome.{end_process, no_descriptors}
pub use Rattle.unixmodel.specs.Plan.{Loaded, loaded_of, Plan, Stack, stack_marks}
pub use Rattle.unixmodel.specs.Process.{is_running_mode, is_zombie_mode, with_answer}
pub use Rattle.unixmodel.specs.ProcessCalls.{exec_registers, file_bytes, has_child, replaced, status_of, zombie_child}
pub use Rattle.unixmodel.specs.Reap.{is_same, is_used, kept}
unfoldable pub use Rattle.unixmodel.specs.Reap.{reap, without_nodes, without_opens, without_pipes}
pub use Rattle.unixmodel.specs.State.{change_process, has_end, holds, place_limit, place_of_pid, process_at}
pub use Rattle.unixmodel.specs.State.{put_process, running, State}
pub use Rattle.unixmodel.specs.Turn.{can_go_on, is_empty, ready}
unfoldable pub use Rattle.unixmodel.specs.Turn.{round_from, turn}
pub use Rattle.unixmodel.specs.declared.call.Call.{Call}
pub use Rattle.unixmodel.specs.declared.call.Call.TheVariants.{Read, Sleep, Wait, Write}
pub use Rattle.unixmodel.specs.declared.process.Mode.{Mode}
pub use Rattle.unixmodel.specs.declared.process.Mode.TheVariants.{Ready, Running, Waiting, Zombie}
pub use Rattle.unixmodel.specs.declared.process.Pending.{Pending}
pub use Rattle.unixmodel.specs.declared.trap.Trap.{Trap}
pub use Rattle.kernel.specs.Descriptors.{after_close, all_closed, all_shared, closed_in, descriptors_in, IsCounted}
pub use Rattle.kernel.specs.Descriptors.{named_by, names_in, shared_in, standing}
pub use Rattle.kernel.specs.Holding.{all_dropped, AreHeld, dropped, files_on, FitsNode, gone_nodes, home_in, homes_at}
pub use Rattle.kernel.specs.Holding.{IsFolder, IsInUse, last_node, listed, node_in, node_of, node_on}
pub use Rattle.kernel.specs.Kernel.{answered, base, blocked, computed, counting, descriptors_at, ended, halted_by, idle}
pub use Rattle.kernel.specs.Kernel.{Kernel, left_as, lives, loaded, marked, on_hart, picked, Rest, rest_of, started}
pub use Rattle.kernel.specs.Kernel.{started_as, state_of, state_with, waking}
pub use Rattle.kernel.specs.Memory.{drew, reheld, resized, sized, wrote}
pub use Rattle.kernel.specs.Opening.{advanced, duplicated, HasFetched, HasStored}
pub use Rattle.kernel.specs.Processes.{child_of, collected, forked_as, home_at, MayWorkIn, working_in, WorksIn}
pub use Rattle.kernel.specs.Ready.{awaited, awaited_in, has_slept, seen, Stands}
pub use Rattle.kernel.specs.Sound.{CanRun, is_at, is_awaited, is_on_pipe, IsAlive, IsEnded, IsKernel, IsLive, IsMode}
pub use Rattle.kernel.specs.Sound.{IsOpened, IsOpenFile, IsOpenOn, IsPlace, IsPlaced, WaitsWell}
pub use Rattle.kernel.specs.View.{Keeps, kernel_of}
pub use Rattle.kernel.specs.Watch.{awaited_of, IsAsleep, IsAsleepAs, IsWatched, kind_of, waits_as, waits_in, waits_on}
pub use Rattle.kernel.specs.Watch.{Watches, woken_by}
pub use Rattle.kernel.specs.Whole.{space_in, with_space, with_table}
unfoldable pub use Rattle.kernel.specs.Whole.{joined}
pub use Rattle.kernel.specs.declared.channels.Channel.TheVariants.{Bytes, Children, Ticks}
