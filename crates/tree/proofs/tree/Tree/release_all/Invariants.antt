use Rattle.tree.proofs.Keeping.{IsSwept}
use Rattle.tree.proofs.tree.Tree.release_all.Given as goal

abbrev pub invariant-loop-number : goal.invariant-loop-number
invariant-loop-number g l = IsSwept l.fn.self l.self l.number
