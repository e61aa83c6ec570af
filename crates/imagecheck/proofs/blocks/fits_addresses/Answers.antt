use Rattle.imagecheck.proofs.Common.{◌≤◌, ◌<◌, IsTrue, ◌↔◌, arith, below_more, count_in, format_of, single, slot_at}
use Rattle.imagecheck.proofs.Common.{there, FitsSlot, inodes-most, size-most, super-is}
use Rattle.imagecheck.proofs.Judging.{refused, told}
use Rattle.imagecheck.proofs.Slotting.{FitsAddresses-from, FitsSlot-at, FitsSlot-is, IsFound-next}
use Rattle.imagecheck.proofs.blocks.fits_addresses.Goals as goal
use Rattle.imagecheck.proofs.blocks.fits_addresses.Goals.{At-loop-k, After-slot_at, After-fits}

-- how many data blocks its size asks for
small : (c : At-loop-k) → count_in c.args.image.now c.args.n ≤ single (format_of c.args.image.now)
small c = rw c.block_count-count.ensures.count at c.block_count-count.ensures.most

-- the slot that the walk is at is there
within : (c : After-slot_at) → c.loop-k.k < there (format_of c.args.image.now) (count_in c.args.image.now c.args.n)
within c = rw (c.there-k-end.ensures, c.format_of-format.ensures, c.block_count-count.ensures.count)
    at c.loop-k-test.true

-- the test of its number
fits-is : (c : After-fits) → IsTrue c.fits.result ↔ FitsSlot c.args.image.now c.args.n c.loop-k.k
fits-is c =
    rw (
      c.fits.ensures,
      c.number-block.ensures,
      c.slot_at.ensures,
      c.index_blocks.ensures.told,
      c.format_of-format.ensures,
      c.block_count-count.ensures.count,
    )
    (FitsSlot-is c.args.image.now c.args.n (small ((goal.at.After-fits c).At-loop-k)) c.requires.geometry c.loop-k.k)

pub number-block-requires-clause-found : goal.number-block-requires-clause-found
number-block-requires-clause-found c =
    let at = goal.at.number-block-requires-clause-found c in
    rw (c.slot_at.ensures, c.format_of-format.ensures, c.block_count-count.ensures.count)
    (IsFound-next c.args.image.now c.args.n (small at.At-loop-k) (super-is c.requires.geometry) c.loop-k.k
    c.loop-k.invariant (within at.After-slot_at))

pub fits-requires : goal.fits-requires
fits-requires c = record { inodes = inodes-most c.requires.geometry; size = size-most c.requires.geometry }

pub returns-then-not-fits : goal.returns-then-not-fits
returns-then-not-fits c =
    let at = goal.at.returns-then-not-fits c in
    refused c.if-not-fits.true (fits-is at.After-fits)
    (λ h. FitsSlot-at c.args.image.now c.args.n (small at.At-loop-k) h c.loop-k.k (within at.After-slot_at))

pub loop-k-preserved : goal.loop-k-preserved
loop-k-preserved c = below_more (FitsSlot c.args.image.now c.args.n) c.loop-k.k c.loop-k.invariant
    ((fits-is (goal.at.loop-k-preserved c).After-fits).0 c.if-not-fits.false)

pub returns : goal.returns
returns c =
    let past = rw (c.there-k-end.ensures, c.format_of-format.ensures, c.block_count-count.ensures.count)
    at c.loop-k-test.false in
    told (FitsAddresses-from c.args.image.now c.args.n (small (goal.at.returns c).At-loop-k)
    (λ k l. c.loop-k.invariant k (omega arith)))
