use Rattle.std.proofs.Common.{◌-◌, ◌≤◌}
use Rattle.gdbmotions.proofs.reasons.push_watched.Given as goal

-- no more bytes than there are
abbrev pub invariant-loop-done : goal.invariant-loop-done
invariant-loop-done l = l.done ≤ l.count

abbrev pub decreases-loop-done : goal.decreases-loop-done
decreases-loop-done l = l.count - l.done
