use Rattle.kernel.proofs.Common.{◌+◌, ap, ◌∙◌}
use Rattle.kernel.proofs.Readies.{frames-state}
use Rattle.kernel.proofs.kernel.Kernel.free_frames.Goals as goal

pub returns : goal.returns
returns g c = rw (← c.self.view_is)
    (ap (λ n. c.free.result + n) (frames-state _ c.self.invariant.sound) ∙ c.free.ensures)
