use Rattle.console.proofs.Common.{◌≤◌, Appends, rub_outs}
use Rattle.console.proofs.input.rub_out.Given as goal

abbrev pub invariant-loop-done : goal.invariant-loop-done
invariant-loop-done g l = record {
  printed : Appends (g.W.Out.contents l.fn.out) (g.W.Out.contents l.out) (rub_outs l._done);
  later : g.W.Out.failures l.fn.out ≤ g.W.Out.failures l.out;
}
