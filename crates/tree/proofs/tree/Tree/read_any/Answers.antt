use Rattle.tree.proofs.Storing.{seen-node}
use Rattle.tree.proofs.tree.Tree.read_any.Goals as goal

pub read-requires-clause-node : goal.read-requires-clause-node
read-requires-clause-node g c =
    seen-node c.args.self.now _ _ _ _ c.in_ok-look.ensures.told c.is_none.ensures c.if-is_none.false
