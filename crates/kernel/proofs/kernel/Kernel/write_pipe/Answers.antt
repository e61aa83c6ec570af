use Rattle.kernel.proofs.Memories.{pipe-keeps}
use Rattle.kernel.proofs.kernel.Kernel.write_pipe.Goals as goal

pub invariant_of-self : goal.invariant_of-self
invariant_of-self g c = rw (c.wakeup.ensures, c.write_pipe-put.ensures.bytes)
    (pipe-keeps c.self.invariant c.self.view_is _ c.requires.pipe _)
