use Rattle.kernel.proofs.FileChanges.{link-keeps}
use Rattle.kernel.proofs.kernel.Kernel.link.Goals as goal

pub invariant_of-self : goal.invariant_of-self
invariant_of-self g c = link-keeps c.self.invariant c.self.view_is c.requires.up _ _ _ c.requires.path
    c.link-made.ensures c.is_done.ensures
