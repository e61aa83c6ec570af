use Rattle.calls.specs.Steps.{IsBusyFor}
use Rattle.std.proofs.Common.{◌-◌, ◌≤◌}
use Rattle.session.proofs.Repeating.{SoManySteps}
use Rattle.session.proofs.play.advance.Given as goal

-- the steps so far are done as the model says, each by a machine that has something to do
abbrev pub invariant-loop-steps : goal.invariant-loop-steps
invariant-loop-steps g l = record {
  so_far : SoManySteps l.fn.machine l.machine l.steps (g.W.Out.contents l.fn.out) (g.W.Out.contents l.out);
  busy : IsBusyFor l.fn.machine.state l.steps;
  within : l.steps ≤ l.most;
  later : g.W.Out.failures l.fn.out ≤ g.W.Out.failures l.out;
}

abbrev pub decreases-loop-steps : goal.decreases-loop-steps
decreases-loop-steps g l = l.most - l.steps
