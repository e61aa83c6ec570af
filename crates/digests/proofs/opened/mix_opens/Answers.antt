use Rattle.digests.proofs.Common.{arith, opens_mixed}
use Rattle.digests.proofs.Steps.{each-all, each-next, each-none}
use Rattle.digests.proofs.opened.mix_opens.Goals as goal

pub loop-id-init : goal.loop-id-init
loop-id-init g c = each-none _ _

pub loop-id-preserved : goal.loop-id-preserved
loop-id-preserved g c = each-next _ _ _ _ _ c.loop-id.invariant c.mix_open-digest.ensures

pub returns : goal.returns
unfolding opens_mixed
returns g c = each-all _ _ _ _ _ c.loop-id.invariant (omega (arith, c.loop-id-test.false, c.loop-id.auto.id-end))
