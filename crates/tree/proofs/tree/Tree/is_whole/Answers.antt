use Rattle.tree.proofs.Storing.{inside-whole}
use Rattle.tree.proofs.tree.Tree.is_whole.Goals as goal

pub returns : goal.returns
returns g c = inside-whole c.self.invariant c.self.view_is c.requires
