use Rattle.kernel.proofs.Common.{Some, ap, nat_eq, sym, ◌∙◌, ◌≡◌, option_eq, Kernel, loaded, kernel_of, slot}
use Rattle.kernel.proofs.Current.{current-is}
use Rattle.kernel.proofs.Changes.{is-active, slot-active, slot-idle}
use Rattle.kernel.proofs.kernel.Kernel.whole.Goals as goal

pub returns-else-eq-clause-process : goal.returns-else-eq-clause-process
returns-else-eq-clause-process g c =
    c.copied.ensures
    ∙ c.process.ensures.process
    ∙ sym (slot-idle (kernel_of c.self.inside) _ _
    (ap (λ o. option_eq nat_eq o (Some c.args.at)) (sym c.active.ensures.active) ∙ sym c.if-eq.ensures))
    ∙ ap (λ (k : Kernel). slot (loaded k).places c.args.at) c.self.view_is

pub returns-then-eq-clause-process : goal.returns-then-eq-clause-process
returns-then-eq-clause-process g c =
    let active : c.args.self.now.spaces.active ≡ Some c.args.at =
    ap (λ (k : Kernel). k.spaces.active) (sym c.self.view_is)
    ∙ is-active _ _ (ap (λ o. option_eq nat_eq o (Some c.args.at)) (sym c.active.ensures.active)
    ∙ sym c.if-eq.ensures) in
    (rw (current-is active) at c.on_hart.ensures.process) ∙ slot-active c.args.self.now _ active
