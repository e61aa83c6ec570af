use Rattle.tree.proofs.Stored.{enough-told}
use Rattle.tree.proofs.Storing.{inside-room, reads, up-inside}
use Rattle.tree.proofs.tree.Tree.has_blocks.Goals as goal

pub has_blocks-requires : goal.has_blocks-requires
has_blocks-requires g c = record { up = up-inside c.self.view_is c.requires.up }

pub returns : goal.returns
returns g c = (reads c.self.invariant c.self.view_is c.requires.up c.has_blocks.ensures
    (λ holds. enough-told holds c.args.wanted (inside-room c.self.invariant c.self.view_is c.requires.up))).0

pub invariant_of-self : goal.invariant_of-self
invariant_of-self g c = (reads c.self.invariant c.self.view_is c.requires.up c.has_blocks.ensures
    (λ holds enough is. is)).1
