use Rattle.std.proofs.Common.{◌≡◌, false}
use Rattle.disk_tests.proofs.volume.first_wrong.Given as goal

-- no access has failed
abbrev pub invariant-loop-row : goal.invariant-loop-row
invariant-loop-row l = l.volume.failed ≡ false
