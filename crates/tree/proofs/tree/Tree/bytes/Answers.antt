use Rattle.tree.proofs.Storing.{held-some, inside-holds, reads, up-inside}
use Rattle.tree.proofs.Stored.{read-node}
use Rattle.tree.proofs.tree.Tree.bytes.Goals as goal

pub read_at-requires : goal.read_at-requires
read_at-requires g c = record {
  up = up-inside c.self.view_is c.requires.up;
  node = held-some (inside-holds c.self.invariant c.self.view_is c.requires.up) _ c.requires.node.0
      c.requires.node.1;
}

pub returns : goal.returns
returns g c = (reads c.self.invariant c.self.view_is c.requires.up c.read_at.ensures
    (λ holds k is node here. read-node holds c.args.number node here k is)).0

pub invariant_of-self : goal.invariant_of-self
invariant_of-self g c = (reads c.self.invariant c.self.view_is c.requires.up c.read_at.ensures (λ holds k is. is)).1
