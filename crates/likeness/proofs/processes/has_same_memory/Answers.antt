use Rattle.std.proofs.Common.{arith}
use Rattle.likeness.proofs.Same.{entries-same}
use Rattle.likeness.proofs.processes.has_same_memory.Goals as goal

pub returns : goal.returns
returns g c =
    entries-same _ _ (omega (arith, c.pages-pages.ensures.count, c.pages.ensures.count, c.if-pages.false)) (λ k low.
    c.loop-n.invariant k
    (omega (arith, low, c.pages-pages.ensures.count, c.loop-n-test.false, c.loop-n.auto.n-end)))
