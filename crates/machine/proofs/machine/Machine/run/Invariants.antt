use Rattle.std.proofs.Common.{◌≤◌, take}
use Rattle.machine.proofs.RunLemmas.{SoFar}
use Rattle.machine.proofs.machine.Machine.run.Given as goal

-- the events so far are done as the model says
abbrev pub invariant-loop-event : goal.invariant-loop-event
invariant-loop-event g l = record {
  so_far : SoFar l.fn.self l.self (take l.event-index l.events) (g.W.Out.contents l.fn.console)
      (g.W.Out.contents l.console);
  later : g.W.Out.failures l.fn.console ≤ g.W.Out.failures l.console;
}
