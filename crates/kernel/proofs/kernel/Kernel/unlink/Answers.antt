use Rattle.kernel.proofs.FileChanges.{unlink-keeps}
use Rattle.kernel.proofs.kernel.Kernel.unlink.Goals as goal

pub invariant_of-self : goal.invariant_of-self
invariant_of-self g c = unlink-keeps c.self.invariant c.self.view_is c.requires.up _ _ c.unlink-made.ensures
    c.is_done.ensures
