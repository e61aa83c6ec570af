use Rattle.imagecheck.proofs.Common.{◌*◌, ◌≤◌, arith, below_more, drop, take, GoodPlace, place_of_bytes}
use Rattle.imagecheck.proofs.Entering.{entries-hold, entries-holding}
use Rattle.imagecheck.proofs.Judging.{refused, told}
use Rattle.imagecheck.proofs.entries.are_good.Goals as goal

pub returns-then-not-is_good : goal.returns-then-not-is_good
returns-then-not-is_good c = refused c.if-not-is_good.true c.is_good.ensures (λ h.
    rw c.place_at.ensures.place (entries-holding _ _ h c.loop-k.k (omega arith) (omega arith)))

pub loop-k-preserved : goal.loop-k-preserved
loop-k-preserved c =
    below_more (λ k. 2 ≤ k → GoodPlace c.args.image.now (place_of_bytes (take 16 (drop (16 * k) c.args.bytes.now))))
    c.loop-k.k c.loop-k.invariant
    (λ low. rw c.place_at.ensures.place at (c.is_good.ensures.0 c.if-not-is_good.false))

pub returns : goal.returns
returns c = told (entries-hold _ _ (λ k l. c.loop-k.invariant k (omega arith)))
