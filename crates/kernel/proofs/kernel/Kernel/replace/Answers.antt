use Rattle.kernel.proofs.Common.{ap, Kernel, kernel_of, Some, sym, ◌∙◌}
use Rattle.kernel.proofs.Steps.{fail-keeps}
use Rattle.kernel.proofs.Memories.{reheld-keeps}
use Rattle.kernel.proofs.Forking.{begins-aligned, replaced-done, replaced-keeps}
use Rattle.kernel.proofs.kernel.Kernel.replace.Goals as goal

pub begin-requires : goal.begin-requires
begin-requires g c = begins-aligned (kernel_of c.self.inside) _ c.args.number c.args.argv c.execute.new.tree _
    _ c.in-Ok-Some.ensures.executed _ c.in-Ok-Some.field-0-is

pub invariant_of-self : goal.invariant_of-self
invariant_of-self g c =
    let e = c.in-Ok-Some.ensures in
    let active = ap (λ (k : Kernel). k.spaces.active) c.self.view_is ∙ c.requires.running
    ∙ ap Some (sym c.current-at.ensures) in
    rw c.begin.ensures (replaced-keeps _ _ _ _ _ _ _ e.executed _ c.in-Ok-Some.field-0-is e.serves.told
    c.self.invariant active c.frames_suffice.ensures)

pub returns-in-Ok-Some : goal.returns-in-Ok-Some
returns-in-Ok-Some g c =
    let e = c.in-Ok-Some.ensures in
    rw (← c.self.view_is, c.begin.ensures)
    (replaced-done _ _ _ _ _ _ _ (rw (c.current-at.ensures, ← c.self.view_is) at e.executed) _
    c.in-Ok-Some.field-0-is e.serves.told e.serves.cause.later)

pub invariant_of-self-in-Err : goal.invariant_of-self-in-Err
invariant_of-self-in-Err g c =
    let e = c.in-Err.ensures in
    let active = ap (λ (k : Kernel). k.spaces.active) c.self.view_is ∙ c.requires.running
    ∙ ap Some (sym c.current-at.ensures) in
    rw e.failed.1 (fail-keeps
    (reheld-keeps c.self.invariant active _
    (rw e.failed.1 at c.frames_suffice-in-Err.ensures)) _ e.serves.down)
