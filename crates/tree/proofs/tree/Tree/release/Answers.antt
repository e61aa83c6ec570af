use Rattle.tree.proofs.Stored.{cleared-stores}
use Rattle.tree.proofs.Storing.{held-there, inside-holds, turns, up-inside}
use Rattle.tree.proofs.tree.Tree.release.Goals as goal

pub release-requires : goal.release-requires
release-requires g c = record {
  up = up-inside c.self.view_is c.requires.up;
  node = held-there (inside-holds c.self.invariant c.self.view_is c.requires.up) _ c.requires.node;
}

pub returns : goal.returns
returns g c = (turns c.self.invariant c.self.view_is c.requires.up c.release.ensures
    (λ holds x was same. cleared-stores holds same c.args.number c.requires.node was)).0

pub invariant_of-self : goal.invariant_of-self
invariant_of-self g c = (turns c.self.invariant c.self.view_is c.requires.up c.release.ensures
    (λ holds x was same. cleared-stores holds same c.args.number c.requires.node was)).1
