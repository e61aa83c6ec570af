use Rattle.kernel.proofs.FileChanges.{truncate-keeps}
use Rattle.kernel.proofs.kernel.Kernel.truncate.Goals as goal

pub invariant_of-self : goal.invariant_of-self
invariant_of-self g c = truncate-keeps c.self.invariant c.self.view_is c.requires.up _ c.truncate-done.ensures
    c.is_done.ensures
