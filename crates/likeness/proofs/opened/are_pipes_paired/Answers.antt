use Rattle.std.proofs.Common.{arith, below_more}
use Rattle.likeness.proofs.opened.are_pipes_paired.Goals as goal

pub loop-q-preserved : goal.loop-q-preserved
loop-q-preserved g c = below_more _ _ c.loop-q.invariant c.if-not-is_pipe_paired.ensures

pub returns : goal.returns
returns g c = λ l low. c.loop-q.invariant l (omega (arith, low, c.loop-q-test.false, c.loop-q.auto.q-end))
