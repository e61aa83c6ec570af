use Rattle.tree.proofs.Stored.{file-stores}
use Rattle.tree.proofs.Storing.{held-again, held-some, inside-holds, tries, turns, up-inside}
use Rattle.tree.proofs.tree.Tree.empty.Goals as goal

pub truncate-requires : goal.truncate-requires
truncate-requires g c = record {
  up = up-inside c.self.view_is c.requires.up;
  node = held-some (inside-holds c.self.invariant c.self.view_is c.requires.up) _ _ c.requires.file.here;
}

pub returns : goal.returns
returns g c =
    (tries c.self.invariant c.self.view_is c.requires.up c.truncate.ensures (λ holds x was same. (
      (λ turn f. turn _ (file-stores holds same c.args.number f was)),
      held-again (file-stores holds same c.args.number c.requires.file was),
    ))).0

pub invariant_of-self : goal.invariant_of-self
invariant_of-self g c = (turns c.self.invariant c.self.view_is c.requires.up c.truncate.ensures
    (λ holds x was same. file-stores holds same c.args.number c.requires.file was)).1
