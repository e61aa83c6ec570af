-- The names from elsewhere that the lemmas of this crate import, in one file. Declares nothing.
pub use Rattle.std.proofs.Common.{◌%◌, ◌&&◌, ◌*◌, ◌+◌, ◌++◌, ◌-◌, ◌/◌, ◌<◌, [], ◌^◌, ap, arith, Bool, drop, eq-eqb, Err}
pub use Rattle.std.proofs.Common.{false, IfSome, inl, inr, is_none, is_some, le_trans, length, List, map, min, nat_eq}
pub use Rattle.std.proofs.Common.{nat_le, nat_lt, negsuc, None, Ok, Option, option_map, pos, refl, Result, rules, Some}
pub use Rattle.std.proofs.Common.{subst, suc, sym, take, true, unwrap_or, zero, ℕ, ℤ, ◌∙◌, ◌∷◌, ◌≡◌, ◌≢◌, ◌≤◌}
pub use Rattle.std.proofs.lemmas.Bool.{and_left, and_parts, and_right, cases_lt, false≢true, le-leb, leb-true, lt-leb}
pub use Rattle.std.proofs.lemmas.Bool.{ne_eqb}
pub use Rattle.std.proofs.lemmas.Int.{of_z-to_z, to_z-of_z}
pub use Rattle.std.proofs.lemmas.List.{get_or-set_other, get_or-set_same, length-drop, length-set, length-take}
pub use Rattle.std.proofs.lemmas.List.{length-take-le, replicate-append-replicate, set-set, set_comm}
pub use Rattle.std.proofs.lemmas.Option.{cond_some, none-some, option_and_then_some, same_Some}
pub use Rattle.std.proofs.lemmas.Result.{err_from_is_err_and}
pub use Rattle.std.specs.Int.{cast_signed, cast_unsigned}
pub use Rattle.std.specs.Io.KnownBytes.{Appends}
pub use Rattle.std.specs.Prelude.{◌+ℤ◌, ◌==◌, count_by, IfOk, if◌then◌else◌, IsSome, not, OnErr, OnOk, option_and_then}
pub use Rattle.std.specs.Prelude.{slice_index, slice_set, sum_by, ◌||◌}
pub use Rattle.std.specs.Result.{IsErr, result_ok}
pub use Rattle.blockdev.specs.declared.DeviceFault.{DeviceFault}
pub use Rattle.file_transfers.specs.Moved.{bytes_given, bytes_of, bytes_read}
pub use Rattle.files.proofs.PipesLemmas.{free-None, free-opens, free-place, free-put}
pub use Rattle.files.proofs.Whole.{file-opens, opens-moved, opens-opened, without_opens-same}
pub use Rattle.files.specs.Meant.{file_of, target_of}
pub use Rattle.files.specs.Places.{Counted, file_at, free_count}
pub use Rattle.files.specs.declared.file.Target.{Target}
pub use Rattle.inode.specs.declared.InodeStat.{InodeStat}
pub use Rattle.kernel.proofs.Current.{current-is, has-current}
pub use Rattle.kernel.proofs.Holding.{home-folder, used-is}
pub use Rattle.kernel.proofs.Releasing.{is_by, kept-cong}
pub use Rattle.kernel.proofs.Readies.{busy-state, idle-turn, running-state, stands-open, turn-alive, frames-state}
pub use Rattle.kernel.proofs.Steps.{ends-at, ends-run, stops-run, waits-run, serves-disk}
pub use Rattle.kernel.proofs.Memories.{drew-state, reheld-full, resized-state, wrote-state}
pub use Rattle.kernel.proofs.Joined.{waits-other, waits-reading, waits-writing}
pub use Rattle.kernel.proofs.Reaping.{reap-state, within-state}
pub use Rattle.kernel.proofs.Runs.{home-running, moved-state, process-run, self, set-slot, slot-put, slot-within}
pub use Rattle.kernel.proofs.Turning.{descriptors-run, dup-state, renamed-within, me_of, Runner, runner-of}
pub use Rattle.kernel.proofs.Watching.{kernel-waking, state-but, state-waking}
pub use Rattle.kernel.specs.Descriptors.{descriptors_in}
pub use Rattle.kernel.specs.Disk.{directory_at, directory_in, HasRead, IsLost, IsServed, LeavesDisk, with_tree}
pub use Rattle.kernel.specs.Holding.{FitsFiles, FitsNode, home_in, IsFolder, IsInUse, node_of, node_on}
pub use Rattle.kernel.specs.Kernel.{answered, argument, base, blocked, computed, counting, current, current_space}
pub use Rattle.kernel.specs.Kernel.{descriptors_at, ended}
pub use Rattle.kernel.specs.Kernel.{entered, Kernel, lives, loaded, marked, on_hart, picked, rest_of, started}
pub use Rattle.kernel.specs.Kernel.{started_as, state_of, stopped_at, ticked, typed, waking}
pub use Rattle.kernel.specs.Memory.{drew, resized, sent, wrote}
pub use Rattle.kernel.specs.Processes.{collected, forked_as, WorksIn}
pub use Rattle.kernel.specs.Ready.{has_slept, Stands}
pub use Rattle.kernel.specs.Replacing.{HasReplaced, Replaces}
pub use Rattle.kernel.specs.Sound.{can_answer, file_named, is_on_pipe, IsFresh, IsKernel, IsPending, IsPlaced}
pub use Rattle.kernel.specs.Whole.{with_space, with_table}
pub use Rattle.name_rules.proofs.Finding.{enter-parts, make-parts, unlink-parts}
pub use Rattle.proc.specs.Places.{changed, Places, with_descriptor}
pub use Rattle.proc.specs.declared.process.Process.{Process}
pub use Rattle.spaces.proofs.SpacesLemmas.{held-same, some-pipe, taken-placed}
pub use Rattle.spaces.specs.Spaces.{bytes_in, copied, no_pages, Spaces, SpaceView, taken_frames, view_at}
pub use Rattle.tree.specs.Answers.{Overflows}
pub use Rattle.tree.specs.Calls.{MakesNode}
pub use Rattle.tree.specs.Entering.{made_files}
unfoldable pub use Rattle.tree.specs.Entering.{folder_in, linked_in, made_in}
pub use Rattle.tree.specs.Leaves.{leaf_node}
pub use Rattle.tree.specs.Telling.{Tells, TellsMajor}
pub use Rattle.tree.specs.Tree.{FileTree, has_failed, is_device}
pub use Rattle.tree.specs.Whole.{IsWhole}
pub use Rattle.tree.specs.declared.TreeFault.{TreeFault}
pub use Rattle.unixmodel.specs.Calls.{After, call_of, end_at, end_if_killed, goes_on, outcome_of, quiet, row, settle}
unfoldable pub use Rattle.unixmodel.specs.Calls.{call, resume}
unfoldable pub use Rattle.unixmodel.specs.Console.{key, take_line}
pub use Rattle.unixmodel.specs.Counts.{is_within, page_frames}
unfoldable pub use Rattle.unixmodel.specs.Counts.{blocks_of, frames_of}
pub use Rattle.unixmodel.specs.Failures.{Rises}
pub use Rattle.unixmodel.specs.FileCalls.{pipe_end, read_pipe, read_taken, with_both, write_pipe}
unfoldable pub use Rattle.unixmodel.specs.FileCalls.{
  close_row,
  dup_row,
  fstat_row,
  pipe_row,
  read_on,
  read_row,
  room_for,
  stat_bytes,
  write_on,
  write_row,
}
pub use Rattle.unixmodel.specs.Files.{change_node, clear, Files, free_slot, is_directory, kind_of, links_of, longest}
pub use Rattle.unixmodel.specs.Files.{Node, node_bytes, put, slot, Spot}
unfoldable pub use Rattle.unixmodel.specs.Files.{erase, find, lookup, spot_of}
pub use Rattle.unixmodel.specs.Files.Node.{Directory, File}
pub use Rattle.unixmodel.specs.Memory.{can_write, Memory, read_bytes}
unfoldable pub use Rattle.unixmodel.specs.Memory.{path_at, reach, write_bytes, zeros}
pub use Rattle.unixmodel.specs.NameCalls.{Made}
unfoldable pub use Rattle.unixmodel.specs.NameCalls.{
  chdir_row,
  link_row,
  linked,
  made_at,
  made_directory,
  mkdir_row,
  mknod_row,
  open_row,
  unlink_row,
  unlinked,
}
pub use Rattle.unixmodel.specs.Next.{execute_at, step, take_turn}
unfoldable pub use Rattle.unixmodel.specs.Next.{effect_of, execute, next}
pub use Rattle.unixmodel.specs.Numbers.{has_bit, int_of, le, low, natural, plus}
pub use Rattle.unixmodel.specs.OpenFiles.{pipe_room}
pub use Rattle.unixmodel.specs.OpenFiles.End.{ReadEnd, WriteEnd}
pub use Rattle.unixmodel.specs.OpenFiles.Target.{OnNode}
pub use Rattle.unixmodel.specs.Outcome.{answers, given, limited, minus_one, Outcome, pending_arg, pending_of, provided}
unfoldable pub use Rattle.unixmodel.specs.Outcome.{end_process}
pub use Rattle.unixmodel.specs.Outcome.Outcome.{Done, Refused, Waits}
pub use Rattle.unixmodel.specs.Process.{arg, last_pid, with_answer}
pub use Rattle.unixmodel.specs.ProcessCalls.{file_bytes, fits_beside, has_child, replaced, wait_for, zombie_child}
unfoldable pub use Rattle.unixmodel.specs.ProcessCalls.{args_at, exec_row, sleep_on}
pub use Rattle.unixmodel.specs.Reap.{is_described, is_same, is_used, kept}
unfoldable pub use Rattle.unixmodel.specs.Reap.{reap, without_nodes, without_opens, without_pipes}
unfoldable pub use Rattle.unixmodel.specs.Run.{run}
pub use Rattle.unixmodel.specs.State.{change_process, open_limit, place_of_pid, process_at, put_process, running, State}
unfoldable pub use Rattle.unixmodel.specs.Turn.{turn}
pub use Rattle.unixmodel.specs.declared.call.Call.{Call}
pub use Rattle.unixmodel.specs.declared.call.Call.TheVariants.{Chdir, Close, Dup, Exec, Exit, Fork, Fstat, Getpid, Kill}
pub use Rattle.unixmodel.specs.declared.call.Call.TheVariants.{Link, Mkdir, Mknod, Open, Pipe, Sbrk, Sleep, Unlink}
pub use Rattle.unixmodel.specs.declared.call.Call.TheVariants.{Uptime, Wait}
pub use Rattle.unixmodel.specs.declared.event.Event.TheVariants.{Key, Step, Tick}
pub use Rattle.unixmodel.specs.declared.process.Pending.{Pending}
pub use Rattle.unixmodel.specs.declared.trap.Access.TheVariants.{Load, Store}
pub use Rattle.vm.specs.Reach.{IsSized, piece_at}
pub use Rattle.calls.proofs.Running.{answer-here, answered-here, free-here, Here, here-as, here-in, here-of, held-here}
pub use Rattle.calls.proofs.Running.{me, memory_at, process-here, row_of, runs-now, wanted}
pub use Rattle.std.proofs.KnownBytes.{Appends-nil, Appends-trans}
pub use Rattle.console.proofs.Lines.{begins_more}
pub use Rattle.calls.specs.Acts.{Acts, ActsOnDisk, called, called_by, CanWait, Comes, GoesOn, GoesOnDisk, going_at}
pub use Rattle.calls.specs.Acts.{going_by, IsEnd, marked_by, outcome_at, pending_for, RunsAt, settled_by}
pub use Rattle.calls.specs.Gives.{Dispatches, EventGives, halt_of, IsMade, LeavesTree, Makes}
pub use Rattle.calls.specs.Named.{IsRefused}
pub use Rattle.calls.specs.Opened.{has_seat}
pub use Rattle.calls.specs.Processes.{asked, place_called, with_status}
pub use Rattle.calls.specs.Reads.{path_argument}
unfoldable pub use Rattle.calls.specs.Reads.{stat_told}
pub use Rattle.calls.specs.Replaced.{Reaches}
pub use Rattle.calls.specs.Steps.{Went}
pub use Rattle.calls.specs.Transfers.{IsFront, Transfers, Uses}
pub use Rattle.calls.specs.declared.halt.Halt.{Halt}
pub use Rattle.calls.specs.declared.halt.Halt.TheVariants.{Console, Device}
pub use Rattle.calls.specs.declared.outcome.Came.{Came}
pub use Rattle.calls.specs.declared.outcome.Came.TheVariants.{Answers, Blocks, Exits, KillsItself, Refuses}
