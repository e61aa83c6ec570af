use Rattle.calls.proofs.Common.{Appends, current_space, Load, reach, take, ◌-◌, ◌≤◌}
use Rattle.calls.proofs.transfer_calls.print.Given as goal

-- the bytes so far are printed
abbrev pub invariant-loop-done : goal.invariant-loop-done
invariant-loop-done g l = record {
  within : l.done ≤ l.count;
  printed : Appends (g.W.Out.contents l.fn.out) (g.W.Out.contents l.out)
      (take l.done (reach Load (current_space l.kernel).memory l.address));
  later : g.W.Out.failures l.fn.out ≤ g.W.Out.failures l.out;
}

abbrev pub decreases-loop-done : goal.decreases-loop-done
decreases-loop-done g l = l.count - l.done
