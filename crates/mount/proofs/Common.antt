-- The names that the lemmas of this crate import from other crates, passed on here. Declares nothing.
pub use Rattle.std.proofs.Common.{◌%◌, ◌+◌, ◌++◌, ◌-◌, ◌<◌, ◌==◌, [], All, ap, ap₂, arith, Bool, cond, count_by}
pub use Rattle.std.proofs.Common.{Decides, Err, false, flat_map, get_or, inl, inr, IsTrue, le_trans, length, List}
pub use Rattle.std.proofs.Common.{nat_eq, nat_le, nat_lt, None, not, Ok, OnOk, Option, refl, replicate, Result, Some}
pub use Rattle.std.proofs.Common.{subst, suc, sum_by, sym, true, vec_len, zero, ◌||◌, ℕ, ◌∙◌, ◌∷◌, ◌≡◌, ◌≢◌, ◌≤◌, ◌⊎◌}
pub use Rattle.std.proofs.lemmas.Bool.{and_parts, cases_eq, cases_lt, eq-eqb, le-ltb, leb-true, ltb-true, ne_eqb}
pub use Rattle.std.proofs.lemmas.List.{get_or-append-add, get_or_append_left, get_or_default, get_or_past}
pub use Rattle.std.proofs.lemmas.List.{length-append}
pub use Rattle.std.proofs.lemmas.List.Elements.{All-head, All-tail, All-weaker}
pub use Rattle.std.proofs.lemmas.List.Sums.{sum_by-cons}
pub use Rattle.std.specs.List.{list_any, range_with_len}
pub use Rattle.blockdev.specs.Blocks.{AreBlocks}
pub use Rattle.imagemake.proofs.Slotted.{bit-held, IsLegible, named-decides, contents-are, format-told, HasSlots}
pub use Rattle.imagemake.proofs.Slotted.{IsReadable, IsReadable-listed, length-taken, slot-listed, spare-zero}
pub use Rattle.imagemake.specs.Making.{MakesImage, Refuses}
pub use Rattle.imagerules.proofs.Spelling.{image_of-blocks, length-image_of}
pub use Rattle.imagerules.proofs.Denoting.{Denotes-files, HasKinds-denotes, HasSizes-denotes, node_fits}
pub use Rattle.imagerules.proofs.Marking.{blocks_of-free, blocks_of-used, IsOnce-left, named_before-all}
pub use Rattle.imagerules.proofs.Super.{kind-located, links-located, major-located, minor-located, size-located}
pub use Rattle.imagerules.proofs.Super.{HasNumbers-from, inodes-is, magic-is, size-is}
pub use Rattle.imagerules.specs.Content.{image_of}
pub use Rattle.imagerules.specs.Marks.{IsOnce}
pub use Rattle.layout.specs.Image.{asked_slot, free_blocks, IsInode, IsUsed, node_with}
unfoldable pub use Rattle.layout.specs.Image.{bit_in, bytes_of, data_bits, node_at, nodes_of, slot_of}
pub use Rattle.layout.specs.Sound.{HasParts, IsNamed, IsSound, TellsGeometry}
pub use Rattle.layout.specs.Super.{bitmap_start_of, data_start_of, super_of}
pub use Rattle.layout.specs.declared.Geometry.{Geometry}
pub use Rattle.tree.proofs.Storing.{files-are, held-again, sum-taken, taken_by}
pub use Rattle.tree.specs.Stored.{Agrees, FitsPlaces, IsFileSystem, IsStored, Stores, StoresFiles}
unfoldable pub use Rattle.tree.specs.Stored.{files_of}
pub use Rattle.tree.specs.Tree.{FileTree, tree_over}
pub use Rattle.unixmodel.specs.Files.{blocks_for, Files, kind_of, longest, Node, slot}
unfoldable pub use Rattle.unixmodel.specs.Files.{find, free_slots, lookup, parts, place_of}
pub use Rattle.unixmodel.specs.Formats.{Format, format, most_bytes}
pub use Rattle.unixmodel.specs.Image.{data_start, Denotes, format_of, HasMajor, inodes_in, is_data_block, IsNode}
pub use Rattle.unixmodel.specs.Image.{KeepsNode, KeepsRules, KeepsRulesTo, kind_in, length_in, size_in, Stands}
unfoldable pub use Rattle.unixmodel.specs.Image.{bit_of, is_named, named_blocks}
pub use Rattle.unixmodel.specs.Manifest.{data_blocks_of, Wrong}
unfoldable pub use Rattle.unixmodel.specs.Manifest.{added, bare_files, files_made, with_entries, with_manifest_entry}
unfoldable pub use Rattle.unixmodel.specs.Start.{flat_files}
pub use Rattle.mount.specs.Mounted.{AreLinked, console_manifest, IsFlat, IsFlatImage, IsMounted, IsUnmounted}
