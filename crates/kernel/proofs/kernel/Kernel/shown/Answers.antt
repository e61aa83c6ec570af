use Rattle.kernel.proofs.Common.{kernel_of, refl, sym, ◌∙◌}
use Rattle.kernel.proofs.Readies.{found-space, shown-none, whole-shown}
use Rattle.kernel.proofs.kernel.Kernel.shown.Goals as goal

pub returns-in_err-at : goal.returns-in_err-at
returns-in_err-at g c =
    let none = shown-none (kernel_of c.self.inside) c.args.pid (sym c.find.ensures.place ∙ c.in_err-at.was) in
    rw (← c.self.view_is, none, c.from_residual.ensures) refl

pub size-size-requires : goal.size-size-requires
size-size-requires g c = found-space _ _ _ (sym c.find.ensures.place ∙ c.in_ok-at.was) c.self.invariant.sound

pub returns-in_err-process : goal.returns-in_err-process
returns-in_err-process g c =
    rw c.from_residual-in_err-process.ensures
    (whole-shown _ c.self.view_is c.find.ensures.place c.in_ok-at.was
    (sym c.in_err-process.was ∙ c.whole.ensures.process))

pub returns : goal.returns
returns g c =
    rw c.size-size.ensures (whole-shown _ c.self.view_is c.find.ensures.place c.in_ok-at.was
    (sym c.in_ok-process.was ∙ c.whole.ensures.process))
