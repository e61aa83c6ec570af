use Rattle.kernel.proofs.Common.{state_of}
use Rattle.kernel.proofs.Pending.{NoneBefore}
use Rattle.kernel.specs.Kernel.{ticked}
use Rattle.kernel.proofs.kernel.Kernel.turn_next.Given as goal

abbrev pub invariant-loop-round : goal.invariant-loop-round
invariant-loop-round g l = NoneBefore (state_of (ticked l.self)) l.last l.round
