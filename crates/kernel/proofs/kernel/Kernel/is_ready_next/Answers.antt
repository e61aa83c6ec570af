use Rattle.kernel.proofs.Common.{Kernel, Some, ap, awaited_in, kernel_of, nat_eq, opens_of, option_eq, ready, seen}
use Rattle.kernel.proofs.Common.{state_of, sym, ◌%◌, ◌+◌, ◌^◌, ◌∙◌}
use Rattle.kernel.proofs.Changes.{is-active}
use Rattle.kernel.proofs.Holding.{Processes}
use Rattle.kernel.proofs.Pending.{not-active, then-active, then-rests}
use Rattle.kernel.specs.Kernel.{ticked}
use Rattle.kernel.proofs.kernel.Kernel.is_ready_next.Goals as goal

pub returns-then-eq : goal.returns-then-eq
returns-then-eq g c = then-active c.args.self.now c.is_sound.ensures.sound c.args.at
    (is-active _ _ (ap (λ o. option_eq nat_eq o (Some c.args.at)) (sym c.active.ensures) ∙ sym c.if-eq.ensures))

pub returns : goal.returns
returns g c =
    let k = kernel_of c.self.inside in
    let then = (k.ticks + 1) % 2 ^ 32 in
    let rests = not-active _ _ (ap (λ o. option_eq nat_eq o (Some c.args.at)) (sym c.active.ensures)
    ∙ sym c.if-eq.ensures) in
    c.is_ready.ensures
    ∙ ap (λ (os : Processes). ready (seen (awaited_in (opens_of k.files) k.spaces.pipes k.console then) os) c.args.at)
    c.places.ensures.places
    ∙ then-rests k c.self.invariant.sound c.args.at
    (λ same. rests (ap (λ (x : Kernel). x.spaces.active) (sym c.self.view_is) ∙ same))
    ∙ ap (λ (x : Kernel). ready (state_of (ticked x)) c.args.at) c.self.view_is
