use Rattle.digests.proofs.Common.{each, node_mixed, slot}
use Rattle.digests.proofs.Steps.{SoFar}
use Rattle.digests.proofs.nodes.mix_files.Given as goal

abbrev pub invariant-loop-number : goal.invariant-loop-number
invariant-loop-number g l =
    SoFar l.fn.kernel l.kernel (each (λ d n. node_mixed d (slot l.fn.kernel.tree.files n)) l.number l.fn.digest)
    l.digest
