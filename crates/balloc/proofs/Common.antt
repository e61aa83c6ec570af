-- The names that the lemmas of this crate import from other crates, passed on here. Declares nothing.
pub use Rattle.std.proofs.Common.{◌%◌, ◌*◌, ◌+◌, ◌++◌, ◌-◌, ◌/◌, ◌<◌, [], ◌^◌, add-zero, ap, arith, Bool, cond, drop}
pub use Rattle.std.proofs.Common.{eqb, false, get_or, inl, inr, length, List, map, None, not, Option, refl, replicate}
pub use Rattle.std.proofs.Common.{set, Some, subst, suc, sym, true, w8, zero, ℕ, ◌∙◌, ◌∷◌, ◌≡◌, ◌≢◌, ◌≤◌}
pub use Rattle.std.proofs.lemmas.Bool.{cases_eq, cases_lt, cond-false, cond-true, eq-eqb, eqb-false, eqb-true, le-leb}
pub use Rattle.std.proofs.lemmas.Bool.{lt-leb, ne_eqb, not-false, not-true}
pub use Rattle.std.proofs.lemmas.List.{ext_get_or, get_or-replicate, get_or-set_other, get_or-set_same, get_or_past}
pub use Rattle.std.proofs.lemmas.List.{length-replicate, length-take}
pub use Rattle.std.proofs.lemmas.Nat.Bits.{bit_at-lt, bit_at-zero, bit_at_clear_other, bit_at_clear_same, bit_at_ones}
pub use Rattle.std.proofs.lemmas.Nat.Bits.{bit_at_set_other, bit_at_set_same}
pub use Rattle.std.proofs.lemmas.Simd.{bitmask_splat, get_or-chunk, length-chunk, none_from_empty_mask}
pub use Rattle.std.proofs.lemmas.Simd.{run_in_chunk_fails, run_in_chunk_stops, trailing_mask_l}
pub use Rattle.std.specs.Int.{bit_at}
pub use Rattle.std.specs.Prelude.{◌==◌, count_by, find}
pub use Rattle.blockdev.proofs.SpliceLemmas.{Blocks, get_or-part, get_or-splice_after, get_or-splice_before}
pub use Rattle.blockdev.proofs.SpliceLemmas.{get_or-splice_inside, length-splice}
pub use Rattle.blockdev.specs.Blocks.{block_at}
pub use Rattle.blockdev.specs.Splice.{part, splice}
pub use Rattle.cache.proofs.Using.{goes-after, goes-stays, read-done, step-done, step-failed, step-last}
pub use Rattle.cache.specs.Steps.{Goes}
pub use Rattle.layout.proofs.SoundLemmas.{asks_none, Grows-empty, Grows-keeps, Grows-node, Grows-sound}
pub use Rattle.layout.proofs.SoundLemmas.{HoldsBytes-empty, zero_at}
pub use Rattle.layout.proofs.GrowLemmas.{at_or, data_from, get_or-nodes_of, HasParts-kept, IsSound-replace, KeepsOthers}
pub use Rattle.layout.proofs.GrowLemmas.{length-nodes_of, mark, node_at-none, nodes_of-changed, PutsBlock-write}
pub use Rattle.layout.proofs.GrowLemmas.{set_from, WritesInode-write}
pub use Rattle.layout.specs.Image.{bit_of, free_blocks, inode_at, IsFree, IsInode, IsUsed, node_with, RawNode}
unfoldable pub use Rattle.layout.specs.Image.{bit_in, data_bits, node_at, nodes_of}
pub use Rattle.layout.specs.Inode.{Fits, fresh_inode, inode_bytes, inode_of}
pub use Rattle.layout.specs.Sound.{HasParts, IsSound, TellsGeometry}
pub use Rattle.layout.specs.Super.{bitmap_start_of, data_start_of, HasNumbers, super_bytes, super_of, SuperFits}
pub use Rattle.layout.specs.declared.Geometry.{Geometry}
pub use Rattle.balloc.specs.Bitmap.{Finds, IsFirstFree, IsFullFrom, lowest_clear, SetsBit, TakesLowest}
pub use Rattle.balloc.specs.Format.{Cleared, HasFront, IsNew, new_super}
pub use Rattle.balloc.specs.Inodes.{FindsInode, fresh_node, IsLowestUnused, IsUnused, SetsNode, TakesNode}
