use Rattle.tree.proofs.Storing.{reads, up-inside}
use Rattle.tree.proofs.Stored.{tells-any}
use Rattle.tree.proofs.tree.Tree.look.Goals as goal

pub look-requires : goal.look-requires
look-requires g c = record { up = up-inside c.self.view_is c.requires.up }

pub returns : goal.returns
returns g c = (reads c.self.invariant c.self.view_is c.requires.up c.look.ensures
    (λ holds. tells-any holds c.args.number)).0.serves

pub invariant_of-self : goal.invariant_of-self
invariant_of-self g c = (reads c.self.invariant c.self.view_is c.requires.up c.look.ensures (λ holds told is. is)).1
