use Rattle.tree.proofs.Storing.{held-some, inside-holds, reads, up-inside}
use Rattle.tree.proofs.Stored.{tells-minor}
use Rattle.tree.proofs.tree.Tree.minor.Goals as goal

pub minor-requires : goal.minor-requires
minor-requires g c = record {
  up = up-inside c.self.view_is c.requires.up;
  node = held-some (inside-holds c.self.invariant c.self.view_is c.requires.up) _ c.requires.node.0
      c.requires.node.1;
}

pub returns : goal.returns
returns g c = (reads c.self.invariant c.self.view_is c.requires.up c.minor.ensures
    (λ holds minor told. tells-minor holds c.args.number minor told)).0.serves

pub invariant_of-self : goal.invariant_of-self
invariant_of-self g c =
    (reads c.self.invariant c.self.view_is c.requires.up c.minor.ensures (λ holds minor told. told)).1
