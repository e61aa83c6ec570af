use Rattle.kernel.proofs.Common.{kernel_of}
use Rattle.kernel.proofs.Steps.{execute-on, on-keeps}
use Rattle.kernel.proofs.kernel.Kernel.execute.Goals as goal

pub invariant_of-self : goal.invariant_of-self
invariant_of-self g c =
    let active = rw (← c.self.view_is) at c.requires in
    let e = c.execute-trap.ensures in
    let k = kernel_of c.self.inside in
    on-keeps c.self.invariant
    (execute-on k _ _ _ _ c.self.invariant.sound active active c.frames_suffice.ensures e.done e.trap)
