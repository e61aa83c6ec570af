use Rattle.tree.proofs.Storing.{held-some, inside-holds, reads, up-inside}
use Rattle.tree.proofs.Stored.{tells}
use Rattle.tree.proofs.tree.Tree.node.Goals as goal

pub stat-requires : goal.stat-requires
stat-requires g c = record {
  up = up-inside c.self.view_is c.requires.up;
  node = held-some (inside-holds c.self.invariant c.self.view_is c.requires.up) _ c.requires.node.0
      c.requires.node.1;
}

pub returns : goal.returns
returns g c = (reads c.self.invariant c.self.view_is c.requires.up c.stat.ensures
    (λ holds s is node here. tells holds c.args.number node here s is)).0

pub invariant_of-self : goal.invariant_of-self
invariant_of-self g c = (reads c.self.invariant c.self.view_is c.requires.up c.stat.ensures (λ holds s is. is)).1
