use Rattle.kernel.proofs.Common.{ap, Kernel, ◌∙◌}
use Rattle.kernel.proofs.Memories.{written-all, wrote-keeps}
use Rattle.kernel.proofs.kernel.Kernel.write.Goals as goal

pub invariant_of-self : goal.invariant_of-self
invariant_of-self g c =
    let w = c.write-written.ensures in
    let active = ap (λ (k : Kernel). k.spaces.active) c.self.view_is ∙ c.requires.running in
    let made = written-all c.self.view_is _ _ _ c.requires.can (rw c.current-at.ensures at w.can)
    (rw c.current-at.ensures at w.done) in
    rw made (wrote-keeps c.self.invariant active _ _ (rw made at c.frames_suffice.ensures))
