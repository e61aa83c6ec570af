-- The names from elsewhere that the lemmas of this crate import, in one file. Declares nothing.
pub use Rattle.std.proofs.Common.{◌%◌, ◌*◌, ◌+◌, ◌++◌, ◌-◌, ◌/◌, ◌<◌, [], ◌^◌, ap, arith, cond, drop, get_or, inl, inr}
pub use Rattle.std.proofs.Common.{length, List, refl, replicate, set, subst, suc, sym, take, zero, ℕ, ◌∙◌, ◌∷◌, ◌≡◌}
pub use Rattle.std.proofs.Common.{◌≤◌}
pub use Rattle.std.proofs.Math.Seq.{take-add, take-append_seam}
pub use Rattle.std.proofs.lemmas.Bool.{cases_Bool, cases_eq, cases_lt, cond-false, cond-true, eq-eqb, eqb-false, ne_eqb}
pub use Rattle.std.proofs.lemmas.Bool.{or_from, or_left, or_parts, or_right}
pub use Rattle.std.proofs.lemmas.Bool.Decides.{nat_tests}
pub use Rattle.std.proofs.lemmas.List.{append-nil, drop-drop, drop-replicate, drop-take, ext_get_or, get_or-drop}
pub use Rattle.std.proofs.lemmas.List.{get_or-replicate, get_or-set_other, get_or-set_same, get_or_past, length-drop}
pub use Rattle.std.proofs.lemmas.List.{length-replicate, length-set}
pub use Rattle.std.proofs.lemmas.List.FromFn.{fill_by_all, get_or-map-range_with_len, length-map-range_with_len}
pub use Rattle.std.proofs.lemmas.Slice.{between_to_end}
pub use Rattle.std.specs.Prelude.{◌==◌, Bool, false, if◌then◌else◌, map, nat_lt, None, Some, true, ◌||◌, ◌↔◌, ◌≢◌, ◌⊎◌}
pub use Rattle.blockdev.proofs.SpliceLemmas.{Blocks, length-splice, part-splice_apart, part-splice_same}
pub use Rattle.blockdev.specs.Blocks.{AreBlocks, block_at}
pub use Rattle.blockdev.specs.Splice.{part, splice}
pub use Rattle.byteorder.specs.Endian.{little_bytes, little_number}
pub use Rattle.byteorder.specs.Numbers.{little_from-cons, little_from-lt, little_from-take, little_number-reads_back}
pub use Rattle.unixmodel.specs.Files.{longest}
pub use Rattle.unixmodel.specs.Formats.{Format, format, index_blocks}
pub use Rattle.layout.specs.Entries.{entry_bytes, entry_of, EntryFits}
pub use Rattle.layout.specs.Grow.{Grows, HoldsBytes, WritesInode}
pub use Rattle.layout.specs.Image.{bit_of, blocks_for, index_for, inode_at, IsFree, IsInode, IsUsed, node_with}
pub use Rattle.layout.specs.Image.{taken_for}
unfoldable pub use Rattle.layout.specs.Image.{bit_in, byte_of, bytes_of, node_at, nodes_of, slot_in, slot_of}
pub use Rattle.layout.specs.Inode.{Fits, inode_bytes, inode_of}
pub use Rattle.layout.specs.Numbers.{number_at, spelled}
unfoldable pub use Rattle.layout.specs.Numbers.{numbers_in}
pub use Rattle.layout.specs.Sound.{HasParts, IsNamed, IsSound, TellsGeometry}
pub use Rattle.layout.specs.Super.{bitmap_start_of, data_start_of, super_bytes, super_numbers, super_of, SuperFits}
pub use Rattle.layout.specs.declared.DiskInode.{DiskInode}
pub use Rattle.layout.specs.declared.Geometry.{Geometry}
pub use Rattle.layout.specs.declared.SuperBlock.{SuperBlock}
