use Rattle.kernel.proofs.Common.{ap, Some, sym, ◌∙◌}
use Rattle.kernel.proofs.Memories.{drew-keeps}
use Rattle.kernel.proofs.kernel.Kernel.read_pipe.Goals as goal

pub invariant_of-self : goal.invariant_of-self
invariant_of-self g c =
    let bytes = c.read_pipe-taken.ensures.bytes in
    rw (c.wakeup.ensures, bytes)
    (drew-keeps c.self.invariant c.self.view_is (c.requires.running ∙ ap Some (sym c.current-at.ensures)) _
    c.requires.pipe _ _
    (rw bytes at c.frames_suffice.ensures))
