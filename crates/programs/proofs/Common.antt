-- The names from elsewhere that the lemmas of this crate import, in one file. Declares nothing.
pub use Rattle.std.proofs.Common.{◌%◌, ◌&&◌, ◌*◌, ◌+◌, ◌++◌, ◌-◌, ◌/◌, ◌<◌, [], ◌^◌, ap, append-nil, append_assoc}
pub use Rattle.std.proofs.Common.{arith, Bool, drop, Err, false, get_or-set_same, IsErrAnd, le_trans, length}
pub use Rattle.std.proofs.Common.{length-append, List, None, Ok, Option, refl, replicate, Result, rules, slice_set}
pub use Rattle.std.proofs.Common.{Some, subst, suc, sym, take, true, zero, ℕ, ◌∙◌, ◌∷◌, ◌≡◌, ◌≢◌, ◌≤◌}
pub use Rattle.std.proofs.lemmas.Bool.{le-leb, lt-leb, lt-ltb}
pub use Rattle.std.proofs.lemmas.Bool.Decides.{nat_tests}
pub use Rattle.std.proofs.lemmas.List.{drop-drop, drop-replicate, drop_all, drop_at, length-drop, length-map}
pub use Rattle.std.proofs.lemmas.List.{length-replicate, length-take, length-take-le, replicate-append-replicate}
pub use Rattle.std.proofs.lemmas.List.{set-get_or, set-set, take-replicate, take_all, take_at}
pub use Rattle.std.proofs.lemmas.Option.{cond_some, none-some, same_Some}
pub use Rattle.std.specs.List.{flat_map}
pub use Rattle.std.specs.Prelude.{◌==◌, IfOk, IfSome, if◌then◌else◌, is_some, min, nat_le, nat_lt, not, OnErr, OnOk}
pub use Rattle.std.specs.Prelude.{option_and_then, option_map, slice_range}
pub use Rattle.blockdev.specs.Splice.{part}
pub use Rattle.blockdev.specs.declared.DeviceFault.{DeviceFault}
pub use Rattle.elf.proofs.Plans.{header_in-part, headers_by, loaded_by, loads-header, loads-segment, segment_at-part}
pub use Rattle.elf.specs.Headers.{header_in, header_of, is_within, segment_if, segment_shown, wrong}
pub use Rattle.elf.specs.declared.ElfFault.{ElfFault}
pub use Rattle.elf.specs.declared.ElfFault.TheVariants.{Align, Magic, Overlap, Short, Sizes}
pub use Rattle.elf.specs.declared.FileHeader.{FileHeader}
pub use Rattle.elf.specs.declared.LoadSegment.{LoadSegment}
pub use Rattle.file_transfers.proofs.Pieces.{HasRead, held-there, self-held, read-all, read-end, read-more, read-none}
pub use Rattle.file_transfers.proofs.Pieces.{size-fits, size-whole, space-within}
pub use Rattle.inode.specs.declared.InodeStat.{InodeStat}
pub use Rattle.spaces.specs.Spaces.{frames_in, has_space, no_pages, Spaces, SpaceView, taken_frames, view_at, with_view}
pub use Rattle.spaces.specs.Spaces.{written}
pub use Rattle.tree.specs.Tree.{FileTree, Serves}
pub use Rattle.tree.specs.Written.{IsFile}
pub use Rattle.unixmodel.specs.Counts.{page_frames}
pub use Rattle.unixmodel.specs.Files.{Files, Node, node_bytes, slot}
pub use Rattle.unixmodel.specs.Files.Node.{File}
pub use Rattle.unixmodel.specs.Memory.{Memory, overwrite, Page, Perm, write_from, zero_page}
unfoldable pub use Rattle.unixmodel.specs.Memory.{pages_of, reach, string_at, write_bytes, zeros}
pub use Rattle.unixmodel.specs.Numbers.{ceil_div, le, number_at, round_down}
pub use Rattle.unixmodel.specs.Plan.{finished, load_segment, Loaded, loaded_of, may_follow, nothing_loaded, Plan}
pub use Rattle.unixmodel.specs.Plan.{Segment, segment_marks, Stack, stack_marks, with_segment}
unfoldable pub use Rattle.unixmodel.specs.Plan.{
  load_segments,
  plan,
  push,
  push_pointers,
  push_strings,
  segment_at,
  segment_pages,
  with_args,
  with_stack,
}
pub use Rattle.unixmodel.specs.ProcessCalls.{and_then_strings, file_bytes, strings_at}
unfoldable pub use Rattle.unixmodel.specs.ProcessCalls.{args_at, words_before_zero}
pub use Rattle.unixmodel.specs.Shown.{bytes_or_none}
pub use Rattle.unixmodel.specs.declared.trap.Access.TheVariants.{Load}
pub use Rattle.vm.specs.Reach.{IsSized}
pub use Rattle.programs.specs.Headed.{end_behind, end_by, end_of, file_at, headed, IsRead, program_in, segment_behind}
pub use Rattle.programs.specs.Headed.{TellsProgram, unless_refused}
pub use Rattle.programs.specs.Passed.{Finishes, HasPushed, Passes, PassesOne, plan_with, PushesString, stacked, word_in}
pub use Rattle.programs.specs.Placed.{Follows, HasRoom, IsPaged, Leaves, LoadsSegment, next_in, paged, with_more}
pub use Rattle.programs.specs.Placed.{with_paged}
pub use Rattle.programs.specs.declared.arguments.Arguments.{Arguments}
pub use Rattle.programs.specs.declared.headers.Program.{Program}
