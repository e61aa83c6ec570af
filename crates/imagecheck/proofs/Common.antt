-- The names from elsewhere that the lemmas of this crate import, in one file. Declares nothing.
pub use Rattle.std.proofs.Common.{◌&&◌, ◌*◌, ◌+◌, ◌++◌, ◌-◌, ◌/◌, ◌<◌, ◌==◌, [], All, AllPairs, ap, arith, below_more}
pub use Rattle.std.proofs.Common.{Bool, bytes_eq, cond, count_by, drop, Err, false, filter, flat_map, get_or, IfErr}
pub use Rattle.std.proofs.Common.{IfSome, inl, inr, is_some, IsSome, IsTrue, length, length-append, List, lt-ltb, map}
pub use Rattle.std.proofs.Common.{MatchResult, nat_eq, nat_lt, None, not, Option, option_map, refl, replicate, rules}
pub use Rattle.std.proofs.Common.{set, slice_get, slice_range, slice_set, Some, subst, suc, sym, take, take_at, true}
pub use Rattle.std.proofs.Common.{unwrap_or, zero, ◌||◌, ℕ, ◌↔◌, ◌∙◌, ◌∷◌, ◌≡◌, ◌≢◌, ◌≤◌}
pub use Rattle.std.proofs.lemmas.Bool.{and_right, cases_eq, cases_lt, cond-false, cond-true, cond_both, false≢true}
pub use Rattle.std.proofs.lemmas.Bool.{iff_false, MatchBool-at_false, MatchBool-at_true}
pub use Rattle.std.proofs.lemmas.Bool.Decides.{Decides-at, Decides-eqb, Decides-like, nat_tests, same_from_decides}
pub use Rattle.std.proofs.lemmas.List.{append_assoc, flat_map_more, get_or-drop, get_or-set_other, get_or-set_same}
pub use Rattle.std.proofs.lemmas.List.{get_or_past, length-drop, length-replicate, length-take-le, map-append}
pub use Rattle.std.proofs.lemmas.List.{take_more}
pub use Rattle.std.proofs.lemmas.List.Elements.{All-cons, All-filter, All-head, All-map, All-nil, All-replicate}
pub use Rattle.std.proofs.lemmas.List.Elements.{All-tail, All-take, filter_map-append, filter_passes}
pub use Rattle.std.proofs.lemmas.List.FromFn.{get_or-range_with_len, length-range_with_len}
pub use Rattle.std.proofs.lemmas.List.Sorted.{answers_always}
pub use Rattle.std.proofs.lemmas.List.Sums.{length-filter, sum_by-append, sum_by-cons, sum_by-set, sum_by_more}
pub use Rattle.std.proofs.lemmas.Option.{none-some, same_Some}
pub use Rattle.std.proofs.lemmas.Result.{err_from_is_err_and, on_ok_weaker}
pub use Rattle.std.proofs.lemmas.Slice.{between_to_end}
pub use Rattle.std.proofs.lemmas.Slice.Eq.{bytes_eq-Decides}
pub use Rattle.std.specs.List.{IsAllAdjacentAnswer, list_all, range_with_len}
pub use Rattle.byteorder.specs.Endian.{little_number}
pub use Rattle.imagerules.proofs.Bounds.{bit-inside, bitmap-low, direct-high, direct-low, HasInode-at, HasPlace-at}
pub use Rattle.imagerules.proofs.Bounds.{inodes-least, inodes-most, length-is, size-most, super-is, up_to_more}
pub use Rattle.imagerules.proofs.Spelling.{image_of-blocks, image_of-more, place-free, place-taken, slot-places_in}
pub use Rattle.imagerules.proofs.Denoting.{contents-long, Denotes-from}
pub use Rattle.imagerules.proofs.Paths.{first_named}
pub use Rattle.imagerules.proofs.Marking.{blocks_of-free, blocks_of-used, HasMarks-none, named_before, named_before-all}
pub use Rattle.imagerules.proofs.Marking.{named_before-front, named_before-more, range-split, length-data_blocks}
pub use Rattle.imagerules.proofs.Marking.{unused_more, used_more, All-data_blocks, FitsAddresses-at, HasAddresses-from}
pub use Rattle.imagerules.proofs.Marking.{is_data_block-below}
pub use Rattle.imagerules.proofs.Nodes.{file_in-used, length-block, length-files_in, node_in-directory, slot-files_in}
pub use Rattle.imagerules.proofs.Nodes.{slot-past, slot-zero}
pub use Rattle.imagerules.proofs.Super.{number_at-drop, same_number, number_in-block, number_in-record, count-is}
pub use Rattle.imagerules.proofs.Super.{HasLength-not_few}
pub use Rattle.imagerules.specs.Content.{image_of, IsFront}
pub use Rattle.imagerules.specs.Fields.{HasGeometry, HasSuper-of, is_data_in, SuperRules-of}
pub use Rattle.imagerules.specs.Marks.{HasMarks, IsOnce}
pub use Rattle.imagerules.specs.Pieces.{FitsAddresses, FitsKind, HasMagic}
pub use Rattle.imagerules.specs.Places.{EntriesAt, FitsEntries, HasEntries, HasLinks, IsReached, LinksAt}
pub use Rattle.imagerules.specs.Places.{place_of_bytes, without_zeros}
unfoldable pub use Rattle.imagerules.specs.Places.{files_in, node_in, places_in}
pub use Rattle.imagerules.specs.Rules.{BlockRules-of, HasBlocks, HasBlocks-of}
unfoldable pub use Rattle.imagerules.specs.Rules.{BlockRules}
pub use Rattle.layout.proofs.GrowLemmas.{at_or}
pub use Rattle.layout.specs.Formats.{format_named}
pub use Rattle.layout.specs.declared.Geometry.{Geometry}
pub use Rattle.unixmodel.specs.Files.{dot, dot_dot, Entry, has_name, is_directory, is_dot_name, most_links, name_bytes}
pub use Rattle.unixmodel.specs.Files.{Node, slot, taken}
pub use Rattle.unixmodel.specs.Files.Node.{Directory}
pub use Rattle.unixmodel.specs.Formats.{Format, large, most_bytes, most_data, small}
pub use Rattle.unixmodel.specs.Image.{count_in, data_start, DenotesIn, entries_of, format_of, HasSuper, inode_at}
pub use Rattle.unixmodel.specs.Image.{inodes_in, is_data_block, is_directory_at, is_in_use, is_name, kind_in, length_in}
pub use Rattle.unixmodel.specs.Image.{links_in, major_in, minor_in, names_number, numbers_in_use, size_in}
unfoldable pub use Rattle.unixmodel.specs.Image.{
  all_entries,
  bit_of,
  contents_in,
  data_blocks,
  is_named,
  named_blocks,
  named_by,
  names_of,
  number_in,
  parent_of,
  subdirectories,
}
pub use Rattle.unixmodel.specs.Numbers.{number, number_at}
pub use Rattle.unixmodel.specs.Slots.{Asks, single, taken_blocks, there}
unfoldable pub use Rattle.unixmodel.specs.Slots.{
  address_of,
  asked_slot,
  holder_of,
  in_record,
  index_end,
  level_of,
  place_of,
  slot_at,
}
pub use Rattle.imagecheck.specs.Entries.{entries_in, entries_to, FitsFront, GoodPlace, HasNames, IsGood, name_numbers}
pub use Rattle.imagecheck.specs.Faults.{Begins, Denies, DenotesOwn, Finds, IsOfImage, IsOutside, MarksMore, Tells}
pub use Rattle.imagecheck.specs.Faults.{TellsGeometry}
pub use Rattle.imagecheck.specs.Namings.{CountsNames, CountsSubdirectories, FitsLinks, HasFirsts}
pub use Rattle.imagecheck.specs.Namings.{namings_of, parent_among}
pub use Rattle.imagecheck.specs.Reach.{ancestor, Climbs, first_block, HasClimbed, HasWalked, IsDirectoryIn}
pub use Rattle.imagecheck.specs.Slots.{FitsSlot, IsFound, Lies}
pub use Rattle.imagecheck.specs.Summaries.{IsSummary}
pub use Rattle.imagecheck.specs.declared.namings.Naming.{Naming}
