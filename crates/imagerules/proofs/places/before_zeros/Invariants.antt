use Rattle.imagerules.proofs.Common.{◌≡◌, ◌≤◌, length, take, without_zeros}
use Rattle.imagerules.proofs.places.before_zeros.Given as goal

abbrev pub invariant-loop-end : goal.invariant-loop-end
invariant-loop-end l = record {
  same : without_zeros (take l.end l.bytes) ≡ without_zeros l.bytes;
  within : l.end ≤ length l.bytes;
}

abbrev pub decreases-loop-end : goal.decreases-loop-end
decreases-loop-end l = l.end
