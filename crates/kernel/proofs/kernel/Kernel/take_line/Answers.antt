use Rattle.kernel.proofs.Memories.{line-keeps}
use Rattle.kernel.proofs.kernel.Kernel.take_line.Goals as goal

pub invariant_of-self : goal.invariant_of-self
invariant_of-self g c = line-keeps c.self.invariant _ _ c.take.ensures.took
