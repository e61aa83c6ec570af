use Rattle.tree.proofs.Storing.{held-there, inside-holds, turns, up-inside}
use Rattle.tree.proofs.Stored.{linked-stores}
use Rattle.tree.proofs.tree.Tree.set_links.Goals as goal

pub set_links-requires : goal.set_links-requires
set_links-requires g c =
    record {
      up = up-inside c.self.view_is c.requires.up;
      node = held-there (inside-holds c.self.invariant c.self.view_is c.requires.up) _ c.requires.node;
    }

pub returns : goal.returns
returns g c = (turns c.self.invariant c.self.view_is c.requires.up c.set_links.ensures
    (λ holds x was same. linked-stores holds same c.args.number c.requires.node c.args.links was)).0

pub invariant_of-self : goal.invariant_of-self
invariant_of-self g c = (turns c.self.invariant c.self.view_is c.requires.up c.set_links.ensures
    (λ holds x was same. linked-stores holds same c.args.number c.requires.node c.args.links was)).1
