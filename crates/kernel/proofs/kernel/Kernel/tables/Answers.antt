use Rattle.kernel.proofs.Common.{kernel_of, sym, ◌∙◌, refl}
use Rattle.kernel.proofs.Readies.{found-space, shown-none, some-shown, tables-shown}
use Rattle.kernel.proofs.kernel.Kernel.tables.Goals as goal

pub returns-in_err-at-clause-some : goal.returns-in_err-at-clause-some
returns-in_err-at-clause-some g c =
    let none = shown-none (kernel_of c.self.inside) c.args.pid (sym c.find.ensures.place ∙ c.in_err-at.was) in
    rw (← c.self.view_is, none, c.from_residual.ensures) refl

pub tables-requires : goal.tables-requires
tables-requires g c = found-space _ _ _ (sym c.find.ensures.place ∙ c.in_ok-at.was) c.self.invariant.sound

pub returns-clause-some : goal.returns-clause-some
returns-clause-some g c =
    rw (← c.self.view_is) (sym
    (some-shown (kernel_of c.self.inside) c.args.pid _ (sym c.find.ensures.place ∙ c.in_ok-at.was)))

pub returns-clause-shows : goal.returns-clause-shows
returns-clause-shows g c =
    rw (← c.self.view_is) (tables-shown (kernel_of c.self.inside) c.args.pid c.in_ok-at.at
    (sym c.find.ensures.place ∙ c.in_ok-at.was) _ _ c.tables.ensures)
