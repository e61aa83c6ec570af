use Rattle.kernel.proofs.FileChanges.{create-keeps}
use Rattle.kernel.proofs.kernel.Kernel.create.Goals as goal

pub invariant_of-self : goal.invariant_of-self
invariant_of-self g c = create-keeps c.self.invariant c.self.view_is c.requires.up _ _ c.args.leaf c.requires.path
    c.create-made.ensures c.is_done.ensures
