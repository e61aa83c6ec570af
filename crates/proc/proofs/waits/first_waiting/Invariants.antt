use Rattle.std.proofs.Common.{◌-◌}
use Rattle.proc.proofs.Waiting.{IsSearching}
use Rattle.proc.proofs.waits.first_waiting.Given as goal

-- no process in the slots so far waits for that
abbrev pub invariant-places : goal.invariant-places
invariant-places l = IsSearching l.kind l.places l.from l.next l.may

abbrev pub decreases-places : goal.decreases-places
decreases-places l = 64 - l.next
