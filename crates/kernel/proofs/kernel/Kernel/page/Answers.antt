use Rattle.kernel.proofs.Common.{kernel_of, sym, ◌∙◌, refl}
use Rattle.kernel.proofs.Readies.{found-space, page-shown, shown-none}
use Rattle.kernel.proofs.kernel.Kernel.page.Goals as goal

pub returns-in_err-at : goal.returns-in_err-at
returns-in_err-at g c =
    let none = shown-none (kernel_of c.self.inside) c.args.pid (sym c.find.ensures.place ∙ c.in_err-at.was) in
    rw (← c.self.view_is, none, c.from_residual.ensures) refl

pub page-requires : goal.page-requires
page-requires g c = found-space _ _ _ (sym c.find.ensures.place ∙ c.in_ok-at.was) c.self.invariant.sound

pub returns : goal.returns
returns g c = rw (← c.self.view_is)
    (c.page.ensures ∙ sym (page-shown (kernel_of c.self.inside) c.args.pid _
    (sym c.find.ensures.place ∙ c.in_ok-at.was) c.args.n))
