-- The names from elsewhere that the lemmas of this crate import, in one file. Declares nothing.
pub use Rattle.std.proofs.Common.{◌%◌, ◌&&◌, ◌*◌, ◌+◌, ◌++◌, ◌-◌, ◌/◌, ◌<◌, ◌==◌, [], All, ap, ap₂, arith, Bool, cond}
pub use Rattle.std.proofs.Common.{drop, false, filter, flat_map, get_or, inl, inr, is_some, IsSome, IsTrue, length}
pub use Rattle.std.proofs.Common.{List, map, nat_eq, nat_le, nat_lt, None, not, Option, option_and_then, option_map}
pub use Rattle.std.proofs.Common.{position, refl, replicate, set, slice_get, slice_range, Some, subst, suc, sym, take}
pub use Rattle.std.proofs.Common.{true, unwrap_or, zero, ◌||◌, ℕ, ◌∙◌, ◌∷◌, ◌≡◌, ◌≢◌, ◌≤◌}
pub use Rattle.std.proofs.lemmas.Bool.{and_left, and_parts, and_right, both_ways, cases_Bool, cases_eq, cases_lt}
pub use Rattle.std.proofs.lemmas.Bool.{cond-false, cond-true, cond_both, eq-eqb, eqb-true, false≢true, le-ltb, leb-true}
pub use Rattle.std.proofs.lemmas.Bool.{lt-ltb, ltb-true, ne_eqb, not-false, not-true, or_from, or_right}
pub use Rattle.std.proofs.lemmas.Bool.Decides.{Decides-eqb, Decides-ltb, nat_tests}
pub use Rattle.std.proofs.lemmas.List.{append-nil, append_assoc, drop-drop, drop-take, drop_at, drop_more}
pub use Rattle.std.proofs.lemmas.List.{get_or-append-add, get_or-map, get_or-replicate, get_or-set_other}
pub use Rattle.std.proofs.lemmas.List.{get_or-set_same, get_or_append_left, get_or_at, get_or_default, get_or_past}
pub use Rattle.std.proofs.lemmas.List.{length-map, length-replicate, length-set, length-take, map-append}
pub use Rattle.std.proofs.lemmas.List.{nil_from_length, take-append-drop, take_all, take_at, take_more}
pub use Rattle.std.proofs.lemmas.List.Concat.{flat_map-append}
pub use Rattle.std.proofs.lemmas.List.Elements.{All-append, All-cons, All-filter, All-head, All-map, All-nil, All-tail}
pub use Rattle.std.proofs.lemmas.List.Elements.{All-take, All-weaker, filter-append, filter_passes}
pub use Rattle.std.proofs.lemmas.List.Folds.{Any-from_list_any, flat_map-map, list_any-append, list_any_at}
pub use Rattle.std.proofs.lemmas.List.FromFn.{get_or-map-range_with_len, get_or-range_with_len}
pub use Rattle.std.proofs.lemmas.List.FromFn.{length-map-range_with_len, length-range_with_len}
pub use Rattle.std.specs.List.{list_all, list_any, position_or_len, range_with_len}
pub use Rattle.blockdev.specs.Blocks.{AreBlocks, block_of}
pub use Rattle.byteorder.specs.Endian.{little_number}
pub use Rattle.byteorder.specs.Numbers.{little_from-cons, little_from-take}
pub use Rattle.layout.specs.declared.Geometry.{Geometry}
pub use Rattle.unixmodel.specs.Files.{dot, dot_dot, Entry, Files, follow, has_name, is_directory, is_dot_name, kind_of}
pub use Rattle.unixmodel.specs.Files.{name_bytes, Node, onto_first, pieces, place_bytes, slot, start_of, taken}
unfoldable pub use Rattle.unixmodel.specs.Files.{find, lookup, parts}
pub use Rattle.unixmodel.specs.Files.Node.{Device, Directory, File}
pub use Rattle.unixmodel.specs.Formats.{Format, format, index_blocks, large, most_bytes, most_data, small}
pub use Rattle.unixmodel.specs.Image.{bitmap_start, count_in, data_start, DenotesIn, entries_of, FitsSize, format_of}
pub use Rattle.unixmodel.specs.Image.{HasSpares, HasSuper, inode_at, inodes_in, is_data_block, is_in_use, is_name}
pub use Rattle.unixmodel.specs.Image.{IsNode, KeepsNode, kind_in, length_in, links_in, major_in, minor_in, names_number}
pub use Rattle.unixmodel.specs.Image.{number_from, numbers_in_use, size_in, Stands, super_number}
unfoldable pub use Rattle.unixmodel.specs.Image.{
  all_entries,
  bit_of,
  contents_in,
  data_blocks,
  is_named,
  named_blocks,
  named_by,
  number_in,
  parent_of,
}
pub use Rattle.unixmodel.specs.Numbers.{has_bit, le, number, number_at}
pub use Rattle.unixmodel.specs.Slots.{slots, taken_blocks}
unfoldable pub use Rattle.unixmodel.specs.Slots.{address_of, asked_slot, holder_of, in_record, place_of}
pub use Rattle.imagerules.specs.Content.{image_of}
pub use Rattle.imagerules.specs.Fields.{HasGeometry, HasInode, HasPlace, HasSuper-of, is_data_in}
pub use Rattle.imagerules.specs.Pieces.{FitsAddresses, FitsKind, HasAddresses, HasKinds, HasLength, HasSizes}
pub use Rattle.imagerules.specs.Places.{before_zeros, EntriesAt, HasEntries, HasLinks, IsPlain, IsReached, kind_node}
pub use Rattle.imagerules.specs.Places.{LinksAt, place_of_bytes, PlaceFits, without_zeros}
unfoldable pub use Rattle.imagerules.specs.Places.{file_in, files_in, node_in, places_in}
