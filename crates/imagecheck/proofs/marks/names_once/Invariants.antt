use Rattle.imagecheck.proofs.Common.{HasMarks, named_before}
use Rattle.imagecheck.proofs.marks.names_once.Given as goal

abbrev pub invariant-loop-n : goal.invariant-loop-n
invariant-loop-n l = HasMarks (named_before l.image l.n) l.marks
