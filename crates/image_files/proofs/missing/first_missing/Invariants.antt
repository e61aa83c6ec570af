use Rattle.image_files.specs.Listed.{IsAtRest}
use Rattle.image_files.proofs.missing.first_missing.Given as goal

abbrev pub invariant-loop-names : goal.invariant-loop-names
invariant-loop-names g l = IsAtRest l.tree
