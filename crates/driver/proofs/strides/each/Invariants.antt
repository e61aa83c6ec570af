use Rattle.driver.proofs.Common.{◌≤◌, ◌-◌, replicate, take, SoFar}
use Rattle.driver.proofs.strides.each.Given as goal

-- the events so far are done as the model says
abbrev pub invariant-loop-left : goal.invariant-loop-left
invariant-loop-left g l = record {
  so_far : SoFar l.fn.machine l.machine (take (l.times - l.left) (replicate l.times l.event))
      (g.W.Out.contents l.fn.out) (g.W.Out.contents l.out);
  later : g.W.Out.failures l.fn.out ≤ g.W.Out.failures l.out;
  within : l.left ≤ l.times;
}

abbrev pub decreases-loop-left : goal.decreases-loop-left
decreases-loop-left g l = l.left
