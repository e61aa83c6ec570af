use Rattle.kernel.proofs.Closing.{advance-keeps}
use Rattle.kernel.proofs.kernel.Kernel.set_offset.Goals as goal

pub invariant_of-self : goal.invariant_of-self
invariant_of-self g c = rw c.set_offset.ensures
    (advance-keeps c.self.invariant _ _ (rw (← c.self.view_is) at c.requires))
