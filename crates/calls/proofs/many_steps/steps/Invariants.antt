use Rattle.calls.proofs.Common.{Went, ◌-◌, ◌≤◌}
use Rattle.calls.proofs.many_steps.steps.Given as goal

-- `done` steps are done as the model says
abbrev pub invariant-loop-done : goal.invariant-loop-done
invariant-loop-done g l = record {
  within : l.done ≤ l.count;
  went : Went l.fn.kernel l.kernel l.done (g.W.Out.contents l.fn.console) (g.W.Out.contents l.console);
  later : g.W.Out.failures l.fn.console ≤ g.W.Out.failures l.console;
}

abbrev pub decreases-loop-done : goal.decreases-loop-done
decreases-loop-done g l = l.count - l.done
