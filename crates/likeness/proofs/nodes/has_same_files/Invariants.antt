use Rattle.likeness.proofs.Reading.{NodesAreSame, SoFar}
use Rattle.likeness.proofs.nodes.has_same_files.Given as goal

abbrev pub invariant-loop-number : goal.invariant-loop-number
invariant-loop-number g l = SoFar l.fn.one l.one l.fn.other l.other (NodesAreSame l.fn.one l.fn.other l.number)
