use Rattle.std.proofs.Common.{◌-◌}
use Rattle.waits.proofs.Prompting.{NoneUpTo}
use Rattle.waits.proofs.prompt.next_alive.Given as goal

-- none so far is alive
abbrev pub invariant-loop-pid : goal.invariant-loop-pid
invariant-loop-pid g l = NoneUpTo l.machine.state l.after l.last

abbrev pub decreases-loop-pid : goal.decreases-loop-pid
decreases-loop-pid g l = 4294967295 - l.last
