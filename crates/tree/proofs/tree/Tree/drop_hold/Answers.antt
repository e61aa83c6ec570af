use Rattle.tree.proofs.Common.{◌≢◌, None, slot, subst, sym, FileTree}
use Rattle.tree.proofs.Keeping.{let-go-serves}
use Rattle.tree.proofs.Storing.{up-inside}
use Rattle.tree.proofs.tree.Tree.drop_hold.Goals as goal

pub let_go-requires : goal.let_go-requires
let_go-requires g c = record {
  up = up-inside c.unhold.ensures c.requires.up;
  node = subst (λ (t : FileTree). slot t.files c.args.number ≢ None) (sym c.unhold.ensures) c.requires.node;
}

pub returns : goal.returns
returns g c = let-go-serves _ c.unhold.ensures c.let_go.ensures
