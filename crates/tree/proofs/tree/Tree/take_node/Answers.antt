use Rattle.tree.proofs.Gaps.{taken-told}
use Rattle.tree.proofs.Storing.{tries, up-inside}
use Rattle.tree.proofs.tree.Tree.take_node.Goals as goal

pub take-requires : goal.take-requires
take-requires g c = record { up = up-inside c.self.view_is c.requires.up }

pub returns : goal.returns
returns g c = (tries c.self.invariant c.self.view_is c.requires.up c.take.ensures
    (taken-told c.args.self.now _ c.args.kind)).0

pub invariant_of-self : goal.invariant_of-self
invariant_of-self g c = (tries c.self.invariant c.self.view_is c.requires.up c.take.ensures
    (taken-told c.args.self.now _ c.args.kind)).1
