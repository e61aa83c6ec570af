use Rattle.digests.proofs.Common.{arith}
use Rattle.digests.proofs.Steps.{each-all, each-next, each-none}
use Rattle.digests.specs.Digest.{holders_mixed}
use Rattle.digests.proofs.named.mix_holders.Goals as goal

pub loop-at-init : goal.loop-at-init
loop-at-init g c = each-none _ _

pub loop-at-preserved : goal.loop-at-preserved
loop-at-preserved g c = each-next _ _ _ _ _ c.loop-at.invariant c.mix_holder-digest.ensures

pub returns : goal.returns
unfolding holders_mixed
returns g c = each-all _ _ _ _ _ c.loop-at.invariant (omega (arith, c.loop-at-test.false, c.loop-at.auto.at-end))
