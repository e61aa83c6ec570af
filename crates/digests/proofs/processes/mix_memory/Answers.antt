use Rattle.digests.proofs.Common.{arith, view_at, ◌∙◌}
use Rattle.digests.proofs.Steps.{memory-done, each-next, each-none}
use Rattle.digests.proofs.processes.mix_memory.Goals as goal

pub loop-n-init : goal.loop-n-init
loop-n-init g c = c.mix-digest.ensures ∙ each-none _ _

pub loop-n-preserved : goal.loop-n-preserved
loop-n-preserved g c = each-next _ _ _ _ _ c.loop-n.invariant c.mix_page-digest.ensures

pub returns : goal.returns
returns g c =
    memory-done (view_at c.args.spaces.now c.args.at) c.args.digest c.loop-n.digest c.loop-n.n c.pages-pages.result
    c.pages-pages.ensures.count c.loop-n.invariant (omega (arith, c.loop-n-test.false, c.loop-n.auto.n-end))
