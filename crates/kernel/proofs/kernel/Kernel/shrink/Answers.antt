use Rattle.kernel.proofs.Common.{ap, Some, sym, ◌∙◌}
use Rattle.kernel.proofs.Memories.{resized-keeps, resized-made, shrunk-sized}
use Rattle.kernel.proofs.kernel.Kernel.shrink.Goals as goal

pub invariant_of-self : goal.invariant_of-self
invariant_of-self g c =
    resized-keeps c.self.invariant c.self.view_is (c.requires.running ∙ ap Some (sym c.current-at.ensures))
    (shrunk-sized _ c.args.bytes c.pages_are_whole.ensures.whole) c.shrink.ensures c.frames_suffice.ensures

pub returns : goal.returns
returns g c =
    let here = rw (← c.self.view_is) at c.current-at.ensures in
    rw (← c.self.view_is)
    (resized-made _ _ (shrunk-sized _ c.args.bytes (rw here at c.pages_are_whole.ensures.whole)) _
    (rw here at c.shrink.ensures))
