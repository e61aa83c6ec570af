use Rattle.std.proofs.Common.{arith, sym}
use Rattle.balloc.proofs.Clearing.{lowest_clear-at, lowest_clear-none}
use Rattle.balloc.proofs.bitmap.first_clear.Goals as goal

pub returns-then-set-eq0 : goal.returns-then-set-eq0
returns-then-set-eq0 c =
    sym (lowest_clear-at c.args.block.now c.args.from c.args.to c.requires.ordered c.scan.i c.scan.invariant.low
    c.scan-test.true (c.set_bits-set.ensures.clear c.if-set-eq0.true) c.scan.invariant.set_so_far)

pub returns : goal.returns
returns c =
    sym (lowest_clear-none c.args.block.now c.args.from c.args.to c.requires.ordered
    (λ k low high. c.scan.invariant.set_so_far k low (omega (arith, c.scan-test.false, high))))
