use Rattle.likeness.proofs.Reading.{BlocksAreSame, SoFar}
use Rattle.likeness.proofs.nodes.has_same_blocks.Given as goal

abbrev pub invariant-loop-k : goal.invariant-loop-k
invariant-loop-k g l = SoFar l.fn.one l.one l.fn.other l.other (BlocksAreSame l.fn.one l.fn.other l.number l.k)
