use Rattle.kernel.proofs.FileChanges.{folder-keeps}
use Rattle.kernel.proofs.kernel.Kernel.create_directory.Goals as goal

pub invariant_of-self : goal.invariant_of-self
invariant_of-self g c = folder-keeps c.self.invariant c.self.view_is c.requires.up _ _ c.requires.path
    c.create_directory-made.ensures c.is_done.ensures
