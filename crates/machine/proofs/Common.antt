-- The names from elsewhere that the lemmas of this crate import, in one file. Declares nothing.
pub use Rattle.std.proofs.Common.{◌%◌, ◌*◌, ◌+◌, ◌++◌, ◌-◌, ◌/◌, ◌<◌, [], ◌^◌, ap, append-nil, arith, Bool, drop, Err}
pub use Rattle.std.proofs.Common.{false, is_some, le_refl, le_trans, length, length-append, List, min, None, Ok, Option}
pub use Rattle.std.proofs.Common.{refl, replicate, Result, Some, subst, suc, sym, take, true, zero, ℕ, ℤ, ◌↔◌, ◌∙◌, ◌∷◌}
pub use Rattle.std.proofs.Common.{◌≡◌, ◌≢◌, ◌≤◌, ◌⊎◌}
pub use Rattle.std.proofs.lemmas.Bool.Decides.{nat_tests}
pub use Rattle.std.proofs.lemmas.List.{length-replicate, take-append-drop, take-append-le, take_more}
pub use Rattle.std.proofs.lemmas.List.Folds.{sum_by-replicate}
pub use Rattle.std.proofs.lemmas.List.Sums.{sum_by-cons}
pub use Rattle.std.proofs.lemmas.Option.{none-some, same_Some}
pub use Rattle.std.proofs.lemmas.Result.{err_from_is_err_and}
pub use Rattle.std.specs.Prelude.{◌==◌, IfErr, IfOk, IfSome, IsErrOf, IsSome, nat_lt, OnErr, OnOk, option_and_then}
pub use Rattle.std.specs.Prelude.{option_map, sum_by, ◌||◌}
pub use Rattle.std.specs.Result.{is_err}
pub use Rattle.std.proofs.KnownBytes.{Appends-nil}
pub use Rattle.calls.specs.declared.halt.Halt.{Halt}
pub use Rattle.calls.specs.declared.halt.Halt.TheVariants.{Console, Halted, InitEnded, Device}
pub use Rattle.files.proofs.Whole.{names-free, names-none, slot-opens}
pub use Rattle.files.specs.Counts.{names, one_in}
pub use Rattle.files.specs.Meant.{file_of}
pub use Rattle.files.specs.Places.{count_at, count_in, Counted, opened, opens_of, place_for}
pub use Rattle.imagerules.specs.Content.{image_of}
pub use Rattle.kernel.proofs.Joined.{joined-free_slots, seat_of-first}
pub use Rattle.kernel.proofs.Asleep.{watched-all}
pub use Rattle.kernel.specs.Descriptors.{IsCounted, named_by, names_in}
pub use Rattle.kernel.specs.Holding.{files_on, FitsNode, home_in, homes_at, IsFolder, IsInUse, node_in, node_of}
pub use Rattle.kernel.specs.Holding.{node_on}
pub use Rattle.kernel.specs.Kernel.{begun, Kernel, state_of}
pub use Rattle.kernel.specs.Sound.{IsKernel, IsOpened, IsOpenFile, IsPlace, IsPlaced, WaitsWell}
unfoldable pub use Rattle.kernel.specs.Whole.{joined}
pub use Rattle.mount.specs.Mounted.{AreLinked, IsFlat, IsMounted, IsUnmounted}
pub use Rattle.name_rules.specs.Rules.{KeepsTree}
unfoldable pub use Rattle.proc.specs.Mask.{all_in}
pub use Rattle.proc.specs.Places.{is_running, Places, seat_of, seated}
pub use Rattle.proc.specs.declared.process.Process.{Process}
pub use Rattle.programs.specs.Passed.{PassesOne, plan_with, stacked}
pub use Rattle.spaces.specs.Spaces.{has_space, no_pages, no_spaces, Spaces, SpaceView, taken_frames, with_place}
pub use Rattle.spaces.specs.Spaces.{with_view}
pub use Rattle.tree.specs.Holding.{holders, unheld, with_hold}
pub use Rattle.tree.specs.Tree.{FileTree, Serves}
pub use Rattle.unixmodel.specs.Calls.{After, quiet}
pub use Rattle.unixmodel.specs.Counts.{page_frames}
pub use Rattle.unixmodel.specs.Failures.{Rises}
pub use Rattle.unixmodel.specs.Files.{Files, links_of, Node, slot, taken}
unfoldable pub use Rattle.unixmodel.specs.Files.{find, free_slots}
pub use Rattle.unixmodel.specs.Image.{Denotes}
unfoldable pub use Rattle.unixmodel.specs.Memory.{pages_of, write_bytes, zeros}
unfoldable pub use Rattle.unixmodel.specs.Next.{next}
pub use Rattle.unixmodel.specs.Numbers.{ceil_div, le, number_at, round_down}
pub use Rattle.unixmodel.specs.Plan.{Loaded, loaded_of, Plan, stack_marks}
unfoldable pub use Rattle.unixmodel.specs.Plan.{plan, with_args}
pub use Rattle.unixmodel.specs.Start.{first_process, first_state, if_fits, init_path}
pub use Rattle.unixmodel.specs.State.{holds, open_limit, place_limit, running, State}
pub use Rattle.unixmodel.specs.declared.event.Event.TheVariants.{Key, Step, Tick}
pub use Rattle.machine.specs.Booted.{bare_of, first_of, IsUnbooted}
pub use Rattle.machine.specs.Flat.{alone, first, first_kernel, flat_space}
pub use Rattle.machine.specs.Gives.{ConsoleFails, fails, IsDone, RunGives, StepGives}
pub use Rattle.machine.specs.View.{IsUp, sound_view, View}
pub use Rattle.machine.specs.declared.fault.BootFault.{BootFault}
pub use Rattle.machine.specs.declared.fault.BootFault.TheVariants.{FrameCount, NoInit, NoMemory}
