-- The names from elsewhere that the lemmas of this crate import, in one file. Declares nothing.
pub use Rattle.std.proofs.Common.{◌%◌, ◌*◌, ◌+◌, ◌++◌, ◌-◌, ◌/◌, ◌<◌, [], ap, arith, below_more, Bool, cond, drop, Err}
pub use Rattle.std.proofs.Common.{false, get_or, inl, inr, le_refl, length, List, map, min, None, not, Ok, OnOk, Option}
pub use Rattle.std.proofs.Common.{refl, replicate, Result, set, Some, subst, suc, sym, take, true, zero, ℕ, ◌∙◌, ◌∷◌}
pub use Rattle.std.proofs.Common.{◌≡◌, ◌≢◌, ◌≤◌, ◌⊎◌}
pub use Rattle.std.proofs.lemmas.Bool.{and_from, and_left, and_parts, and_right, cases_eq, cases_lt, cond-false}
pub use Rattle.std.proofs.lemmas.Bool.{cond-true, eq-eqb, false≢true, le-leb, le-ltb, leb-false, leb-true, lt-leb}
pub use Rattle.std.proofs.lemmas.Bool.{lt-ltb, ltb-true, ne_eqb, not-true, or_from, or_left, or_parts, or_right}
pub use Rattle.std.proofs.lemmas.Grind.{get_or_default_zero}
pub use Rattle.std.proofs.lemmas.List.{append-nil, append_assoc, drop-drop, drop-take, drop_all, ext_get_or}
pub use Rattle.std.proofs.lemmas.List.{get_or-drop, get_or-set_other, get_or-set_same, get_or_past, length-append}
pub use Rattle.std.proofs.lemmas.List.{length-drop, length-map, length-set, length-take, length-take-le, set-set}
pub use Rattle.std.proofs.lemmas.List.{take-take, take_all, take_rest}
pub use Rattle.std.proofs.lemmas.List.Elements.{All-append, All-cons, All-head, All-nil, All-set, All-tail}
pub use Rattle.std.proofs.lemmas.List.Quantifiers.{position-Some}
pub use Rattle.std.proofs.lemmas.Option.{none-some, option_and_then_some, same_Some}
pub use Rattle.std.specs.List.{list_all, position_or_len}
pub use Rattle.std.specs.Prelude.{◌&&◌, ◌||◌, ◌==◌, All, filter, flat_map, IfErr, IfNone, IfOk, is_none, is_some}
pub use Rattle.std.specs.Prelude.{IsSome, nat_le, nat_lt, OnErr, option_and_then, option_map, position, sum_by}
pub use Rattle.std.specs.Prelude.{unwrap_or}
pub use Rattle.blockdev.specs.Splice.{part, splice}
pub use Rattle.blockdev.specs.declared.DeviceFault.{DeviceFault}
pub use Rattle.imagerules.proofs.Spelling.{length-place_bytes, length-spelling, places_in-back, slot-places_in}
pub use Rattle.imagerules.specs.Places.{IsPlain, place_of_bytes, PlaceFits}
pub use Rattle.inode.specs.Store.{Changes, Follows, IsFull, IsLaidOut, IsLowestFree, IsNode, Keeps, LacksWriting, Looks}
pub use Rattle.inode.specs.Store.{raw_at, Store, TakesLowest, used_by, Writes}
pub use Rattle.inode.specs.declared.InodeFault.TheVariants.{PastEnd, TooLong}
pub use Rattle.inode.specs.declared.InodeStat.{InodeStat}
pub use Rattle.layout.specs.Image.{index_for, RawNode, taken_for}
pub use Rattle.layout.specs.declared.Geometry.{Geometry}
pub use Rattle.name_rules.proofs.Finding.{free-number, IsFree, position-None, slot-set, find-used, follow-used}
pub use Rattle.name_rules.proofs.Finding.{lookup-used, numbers-used, start-used}
pub use Rattle.name_rules.proofs.Spots.{is_part, is_plain, spot-parts}
pub use Rattle.name_rules.proofs.Quiet.{changed-same, emptied-is, kept-gone, kept-here, kept-none, length-kept}
pub use Rattle.name_rules.proofs.Quiet.{releases, writes-over}
pub use Rattle.name_rules.specs.Rules.{KeepsTree}
unfoldable pub use Rattle.unixmodel.specs.Counts.{blocks_of}
pub use Rattle.unixmodel.specs.Files.{blocks_for, change_node, clear, dot, dot_dot, entry_number, Files, follow}
pub use Rattle.unixmodel.specs.Files.{free_slot, has_name, is_directory, is_dot_name, kind_of, links_of, live_places}
pub use Rattle.unixmodel.specs.Files.{live_spot, longest, most_links, Entry, most_places, Node, node_bytes, onto_first}
pub use Rattle.unixmodel.specs.Files.{pieces, place_bytes, put, size_of, slot, split_last, Spot, start_of, taken}
pub use Rattle.unixmodel.specs.Files.{with_entry_at, with_last, with_links, with_places, without_place}
unfoldable pub use Rattle.unixmodel.specs.Files.{
  enter,
  erase,
  find,
  free_number,
  lookup,
  parts,
  place_of,
  spot_of,
  with_entry,
}
pub use Rattle.unixmodel.specs.Files.Node.{Directory, File}
pub use Rattle.unixmodel.specs.Manifest.{data_blocks_of}
unfoldable pub use Rattle.unixmodel.specs.Memory.{zeros}
pub use Rattle.unixmodel.specs.NameCalls.{emptied, fewer_links, has_room_for_link, is_free_name, linked_node, Made}
pub use Rattle.unixmodel.specs.NameCalls.{made_below, may_remove, more_links, new_directory, removed_node, without_name}
unfoldable pub use Rattle.unixmodel.specs.NameCalls.{linked, made_at, made_directory, make_at, unlinked}
pub use Rattle.unixmodel.specs.Numbers.{number_at}
pub use Rattle.tree.specs.Answers.{Overflows}
pub use Rattle.tree.specs.Entering.{fresh, growth, HasGap, HasRoom, IsFullAt, LacksBlocks, made_files, placed, Reaches}
pub use Rattle.tree.specs.Entering.{room_at, room_behind, with_place}
unfoldable pub use Rattle.tree.specs.Entering.{entered, folder_in, linked_in, made_in, room_in}
pub use Rattle.tree.specs.Holding.{holders, stays, unheld}
unfoldable pub use Rattle.tree.specs.Holding.{let_go}
pub use Rattle.tree.specs.Lacking.{LacksFolder, LacksGap, LacksLinking, LacksMaking, LacksUnlinking}
pub use Rattle.tree.specs.Leaves.{leaf_node}
pub use Rattle.tree.specs.Names.{dropped, found_at, is_bare, removal}
unfoldable pub use Rattle.tree.specs.Names.{found_in}
pub use Rattle.tree.specs.Paths.{IsDead, IsNoDirectory, LacksSpot, reach}
unfoldable pub use Rattle.tree.specs.Paths.{above}
pub use Rattle.tree.specs.Scanning.{is_sought, IsFirst, place_in, Scans}
pub use Rattle.tree.specs.Steps.{HasPlace, IsFolder, Reads, Rewrites, TakesNode, Tries, Turns}
pub use Rattle.tree.specs.Stored.{Agrees, FitsPlaces, IsFileSystem, IsRaw, IsStored, node_of, Stores, StoresFiles}
pub use Rattle.tree.specs.Telling.{Tells, TellsAny, TellsMajor}
pub use Rattle.tree.specs.Tree.{Acts, FileTree, IsRefusal, tree_with, Serves, HasFiles, IsInside, tree_of}
pub use Rattle.tree.specs.Unlinks.{IsNaming, LacksName, Unlinks}
unfoldable pub use Rattle.tree.specs.Unlinks.{unlinked_in}
pub use Rattle.tree.specs.Whole.{IsWhole}
pub use Rattle.tree.specs.Written.{count_of, files_after, IsFile, write_to, Written}
unfoldable pub use Rattle.tree.specs.Written.{fitting, written}
pub use Rattle.tree.specs.declared.TreeFault.{TreeFault}
pub use Rattle.tree.specs.declared.TreeFault.TheVariants.{DeadDir, DotName, Exists, Full, NotDir, NotEmpty, NotFound}
pub use Rattle.tree.specs.declared.making.Leaf.{Leaf}
pub use Rattle.tree.specs.declared.place.Found.{Found}
pub use Rattle.tree.specs.declared.place.Sought.TheVariants.{Name, NameOrFree, Taken}
pub use Rattle.tree.specs.declared.tree.Tree.TheInside.{Inside}
