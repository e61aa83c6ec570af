use Rattle.machine.proofs.Common.{ap, err_from_is_err_and, FileTree, KeepsTree, subst, sym, ◌∙◌}
use Rattle.machine.proofs.Steps.{lost-saving, saved}
use Rattle.machine.proofs.machine.Machine.save.Goals as goal

pub give_up-requires-clause-up : goal.give_up-requires-clause-up
give_up-requires-clause-up g c = ap (λ (t : FileTree). t.failed) c.into_tree.ensures ∙ c.self.invariant c.if-self.false

pub give_up-requires-clause-rules : goal.give_up-requires-clause-rules
give_up-requires-clause-rules g c =
    subst (λ (t : FileTree). KeepsTree t.files) (sym c.into_tree.ensures)
    (c.is_sound.ensures.sound.used (c.self.invariant c.if-self.false)).rules

pub returns : goal.returns
returns g c =
    rw (← c.self.view_is)
    (saved g.D.BlockDev.content g.D.BlockDev.identity c.self.inside.kernel c.into_tree.result c.self.inside.failed
    c.in_ok-give_up.field-0 c.into_tree.ensures c.if-self.false c.in_ok-give_up.ensures.identity
    c.in_ok-give_up.ensures.denotes)

pub returns-in_err-give_up : goal.returns-in_err-give_up
returns-in_err-give_up g c =
    let p = err_from_is_err_and c.from_residual.result c.from_residual.ensures.1 in
    rw (← c.self.view_is, p.1, p.2)
    (lost-saving c.self.inside.kernel c.into_tree.result c.self.inside.failed c.into_tree.ensures c.if-self.false
    c.in_err-give_up.ensures.cause)
