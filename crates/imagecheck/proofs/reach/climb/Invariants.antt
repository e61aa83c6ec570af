use Rattle.imagecheck.proofs.Common.{files_in, IsDirectoryIn}
use Rattle.imagecheck.proofs.Reaching.{IsWalk, unmarked}
use Rattle.imagecheck.proofs.reach.climb.Given as goal

abbrev pub invariant-loop-marks : goal.invariant-loop-marks
invariant-loop-marks l = record {
  walk : IsWalk (files_in l.image) l.start l.n l.marks;
  directory : IsDirectoryIn l.image l.n;
}

abbrev pub decreases-loop-marks : goal.decreases-loop-marks
decreases-loop-marks l = unmarked l.marks
