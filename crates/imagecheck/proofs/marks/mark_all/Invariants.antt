use Rattle.imagecheck.proofs.Common.{List, ℕ, ◌++◌, take, named_by, HasMarks}
use Rattle.imagecheck.proofs.marks.mark_all.Given as goal

abbrev pub invariant-loop-k : goal.invariant-loop-k
invariant-loop-k l = (before : List ℕ) → HasMarks before l.initial.marks
    → HasMarks (before ++ take l.k (named_by l.image l.n)) l.marks
