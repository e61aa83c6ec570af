use Rattle.std.proofs.lemmas.Bool.{iff_false}
use Rattle.imagecheck.proofs.Common.{sym, HasInode-at, HasPlace-at}
use Rattle.imagerules.proofs.Marking.{length-blocks_of}
use Rattle.imagecheck.proofs.summary.block_total.Goals as goal

pub is_free-requires : goal.is_free-requires
is_free-requires c = HasPlace-at c.requires.geometry _ c.requires.high

pub block_count-count-requires : goal.block_count-count-requires
block_count-count-requires c =
    HasInode-at c.requires.geometry c.requires.sizes _ c.requires.low c.requires.high
    (iff_false c.is_free.ensures c.if-is_free.false)

pub returns-clause-total : goal.returns-clause-total
returns-clause-total c =
    rw (c.index_blocks.ensures.told, c.format_of.ensures, c.block_count-count.ensures.count)
    (sym (length-blocks_of c.args.image.now c.args.n (iff_false c.is_free.ensures c.if-is_free.false)))
