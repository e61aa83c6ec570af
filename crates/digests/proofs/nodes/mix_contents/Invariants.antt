use Rattle.digests.proofs.Common.{bytes_or_none, each, slot}
use Rattle.digests.proofs.Steps.{SoFar, block_step}
use Rattle.digests.proofs.nodes.mix_contents.Given as goal

abbrev pub invariant-loop-k : goal.invariant-loop-k
invariant-loop-k g l = SoFar l.fn.kernel l.kernel
    (each (block_step (bytes_or_none (slot l.fn.kernel.tree.files l.number))) l.k l.fn.digest) l.digest
