use Rattle.lines.proofs.Covering.{rise-at, rise-none}
use Rattle.lines.proofs.ordered.rise.Goals as goal

pub loop-row-init : goal.loop-row-init
loop-row-init c = rise-none _ _

pub loop-row-preserved : goal.loop-row-preserved
loop-row-preserved c = rise-at _ _ _ _ c.loop-row.invariant c.loop-row-test.true c.if-row-last.false
