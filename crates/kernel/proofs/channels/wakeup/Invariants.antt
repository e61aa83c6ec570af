use Rattle.std.proofs.Common.{◌-◌, ◌≤◌}
use Rattle.kernel.proofs.Watching.{Roused}
use Rattle.kernel.proofs.channels.wakeup.Given as goal

-- in the slots so far, whoever waits on the channel is awake
abbrev pub invariant-places : goal.invariant-places
invariant-places l = (l.from ≤ 64) × Roused l.channel l.fn.table l.from l.table

abbrev pub decreases-places : goal.decreases-places
decreases-places l = 64 - l.from
