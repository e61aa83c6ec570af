use Rattle.tree.proofs.Common.{arith}
use Rattle.tree.proofs.Stored.{fresh-stores}
use Rattle.tree.proofs.Storing.{held-none, inside-holds, length-held, turns, up-inside}
use Rattle.tree.proofs.tree.Tree.take_node_at.Goals as goal

pub take_at-requires : goal.take_at-requires
take_at-requires g c =
    let holds = inside-holds c.self.invariant c.self.view_is c.requires.up in
    let n = c.requires.number in
    record {
      up = up-inside c.self.view_is c.requires.up;
      low = n.low;
      high = omega (arith, n.high, length-held holds);
      free = held-none holds _ n.high n.unused;
    }

pub returns : goal.returns
returns g c = (turns c.self.invariant c.self.view_is c.requires.up c.take_at.ensures
    (λ holds x was same. fresh-stores holds same c.args.kind c.args.number c.requires.number.high was)).0

pub invariant_of-self : goal.invariant_of-self
invariant_of-self g c = (turns c.self.invariant c.self.view_is c.requires.up c.take_at.ensures
    (λ holds x was same. fresh-stores holds same c.args.kind c.args.number c.requires.number.high was)).1
