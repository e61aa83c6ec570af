use Rattle.kernel.proofs.Common.{ap, kernel_of, Some, sym, ◌∙◌}
use Rattle.kernel.proofs.Memories.{grown-done, grown-keeps, grown-over, grown-sized}
use Rattle.kernel.proofs.kernel.Kernel.grow.Goals as goal

pub invariant_of-self : goal.invariant_of-self
invariant_of-self g c = grown-keeps c.self.invariant c.self.view_is (c.requires ∙ ap Some (sym c.current-at.ensures))
    (grown-sized _ c.args.bytes c.pages_are_whole.ensures.whole) _ c.grow.ensures.done c.grow.ensures.refused

pub returns-clause-done : goal.returns-clause-done
returns-clause-done g c =
    let here = rw (← c.self.view_is) at c.current-at.ensures in
    rw (← c.self.view_is) (grown-done _ _ (grown-sized _ c.args.bytes (rw here at c.pages_are_whole.ensures.whole)) _ _
    (rw here at c.grow.ensures.done))

pub returns-clause-over : goal.returns-clause-over
returns-clause-over g c =
    let here = rw (← c.self.view_is) at c.current-at.ensures in
    rw (← c.self.view_is) (grown-over (kernel_of c.self.inside) _
    (grown-sized _ c.args.bytes (rw here at c.pages_are_whole.ensures.whole)) _ _ (rw here at c.grow.ensures.refused))
