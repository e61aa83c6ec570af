use Rattle.digests.proofs.Common.{arith, pipes_mixed}
use Rattle.digests.proofs.Steps.{each-all, each-next, each-none}
use Rattle.digests.proofs.opened.mix_pipes.Goals as goal

pub loop-q-init : goal.loop-q-init
loop-q-init g c = each-none _ _

pub loop-q-preserved : goal.loop-q-preserved
loop-q-preserved g c = each-next _ _ _ _ _ c.loop-q.invariant c.mix_pipe-digest.ensures

pub returns : goal.returns
unfolding pipes_mixed
returns g c = each-all _ _ _ _ _ c.loop-q.invariant (omega (arith, c.loop-q-test.false, c.loop-q.auto.q-end))
