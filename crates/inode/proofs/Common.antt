-- The names from elsewhere that the lemmas of this crate import, in one file. Declares nothing.
pub use Rattle.std.proofs.Common.{◌%◌, ◌*◌, ◌+◌, ◌++◌, ◌-◌, ◌/◌, ◌<◌, ◌==◌, [], ◌^◌, ap, arith, Bool, cond, drop, Err}
pub use Rattle.std.proofs.Common.{false, get_or, inl, inr, le_of_lt, length, List, max, min, None, Ok, Option, refl}
pub use Rattle.std.proofs.Common.{replicate, Result, set, Some, subst, sym, take, true, ℕ, ◌∙◌, ◌≡◌, ◌≢◌, ◌≤◌, ◌⊎◌}
pub use Rattle.std.proofs.lemmas.Bool.{cases_eq, cases_lt, false≢true}
pub use Rattle.std.proofs.lemmas.Bool.Decides.{nat_tests}
pub use Rattle.std.proofs.lemmas.List.{ext_get_or, get_or-append_right, get_or-drop, get_or-set_other, get_or-set_same}
pub use Rattle.std.proofs.lemmas.List.{get_or-take, get_or_append_left, get_or_past, length-append, length-drop}
pub use Rattle.std.proofs.lemmas.List.{length-set, length-take-le, nil_from_length, set-get_or, set-set}
pub use Rattle.std.proofs.lemmas.List.{take-append-drop, take_all}
pub use Rattle.std.specs.Prelude.{IfOk, IsSome, nat_le, nat_lt, OnOk, slice_set, unwrap_or}
pub use Rattle.balloc.proofs.Counting.{free_blocks-give, free_blocks-same, free_blocks-take}
pub use Rattle.balloc.specs.Bitmap.{SetsBit, Takes}
pub use Rattle.blockdev.proofs.SpliceLemmas.{Blocks, get_or-part, length-part, part-splice_apart, part-splice_same}
pub use Rattle.blockdev.proofs.SpliceLemmas.{put_mid-splice}
pub use Rattle.blockdev.specs.Blocks.{AreBlocks, block_at}
pub use Rattle.blockdev.specs.Splice.{part, splice}
pub use Rattle.byteorder.specs.Endian.{little_bytes, little_number}
pub use Rattle.cache.proofs.Using.{goes-after, goes-stays, goes-twice, read-done, rises-before, step-done, step-failed}
pub use Rattle.cache.proofs.Using.{step-last}
pub use Rattle.cache.specs.Disk.{Disk}
pub use Rattle.cache.specs.Steps.{AsBefore, Goes, Reads, Steps}
pub use Rattle.layout.proofs.SoundLemmas.{asks_none, Grows-bytes, Grows-keeps, Grows-node, Grows-same, Grows-sound}
pub use Rattle.layout.proofs.SoundLemmas.{HoldsBytes-same, spare_none, zero_at}
pub use Rattle.layout.proofs.GrowLemmas.{data_from, get_or-bytes_of, get_or-nodes_of, HasParts-kept, InData}
pub use Rattle.layout.proofs.GrowLemmas.{IsSound-replace, IsSoundAt, KeepsOthers, length-bytes_of, length-nodes_of}
pub use Rattle.layout.proofs.GrowLemmas.{mark, node_at-none, node_at-some, nodes_of-changed, PutsBlock, PutsBlock-write}
pub use Rattle.layout.proofs.GrowLemmas.{record_in}
pub use Rattle.layout.proofs.ReadsBack.{number_at-take}
pub use Rattle.layout.proofs.Slots.{address-once, address-within, asked_apart, asked_asks, asks_asked, asks_at}
pub use Rattle.layout.proofs.Slots.{asks_below, asks_holder, count-begins, count-last, first-data, holder-first}
pub use Rattle.layout.proofs.Slots.{holder-holder, holder-index, holder-once, holder-within, holder-zero}
pub use Rattle.layout.proofs.Slots.{in_record-cases, index_for-more, index_for-most, IsSpare-size, level-data}
pub use Rattle.layout.proofs.Slots.{level-holder, level-last, level-most, level-once, place-within, slot_in-block}
pub use Rattle.layout.proofs.Slots.{slot_in-record, slot_in-same, taken-none}
pub use Rattle.layout.specs.Grow.{Grows, HoldsBytes, IsFresh, WritesInode}
pub use Rattle.layout.specs.Image.{address_of, asked_slot, Asks, bit_of, blocks_for, first_of, free_blocks, holder_of}
pub use Rattle.layout.specs.Image.{in_record, index_for, inode_at, IsFree, IsInode, IsSpare, IsUsed, level_of}
pub use Rattle.layout.specs.Image.{node_with, place_of, RawNode, single, slots, taken_for}
unfoldable pub use Rattle.layout.specs.Image.{bit_in, byte_of, bytes_of, nodes_of, slot_in, slot_of}
pub use Rattle.layout.specs.Inode.{Fits, inode_of}
pub use Rattle.layout.specs.Numbers.{number_at}
pub use Rattle.layout.specs.Sound.{HasParts, IsSound}
pub use Rattle.layout.specs.Super.{bitmap_start_of}
pub use Rattle.layout.specs.declared.DiskInode.{DiskInode}
pub use Rattle.layout.specs.declared.Geometry.{Geometry}
pub use Rattle.unixmodel.specs.Files.{longest, slot}
pub use Rattle.unixmodel.specs.Formats.{format}
pub use Rattle.inode.specs.Freeing.{Freed, IsOwn}
pub use Rattle.inode.specs.Looking.{IsTold, node_in, Tells, TellsAny, told}
pub use Rattle.inode.specs.OnDisk.{HasInode, HasInode-of, IsInHand-of}
unfoldable pub use Rattle.inode.specs.OnDisk.{IsInHand}
pub use Rattle.inode.specs.Reading.{IsReadInto}
pub use Rattle.inode.specs.Store.{Changes, Flushed, Follows, has_failed, IsFull, IsLaidOut, IsNode, IsWhole, Looks}
pub use Rattle.inode.specs.Store.{no_node, raw_at, Serves, Store, store_over, Tries, used_by, with_bytes, Writes}
pub use Rattle.inode.specs.Store.{WritesFrom, WritesSome}
pub use Rattle.inode.specs.Writing.{BeginsBlock, Fills, HasIndex, IsHung, IsSameNode, LacksAt, LacksBlocks, LiesInBlock}
pub use Rattle.inode.specs.Writing.{MayFill, MayHave, Prepares, Puts, PutsBehind, PutsPiece, with_links, WritesAt}
pub use Rattle.inode.specs.Writing.{WritesFront, Wrote}
pub use Rattle.inode.specs.declared.InodeStat.{InodeStat}
