use Rattle.machine.proofs.Common.{refl}
use Rattle.machine.proofs.machine.Machine.compute.Goals as goal

pub compute-requires : goal.compute-requires
compute-requires g c = (rw (← c.self.view_is) at (c.is_stopped.ensures.up c.if-is_stopped.false)).goes

pub returns-then-is_stopped-clause-computes : goal.returns-then-is_stopped-clause-computes
returns-then-is_stopped-clause-computes g c =
    λ up. absurd (let no = c.is_stopped.ensures.stopped up in let yes = c.if-is_stopped.true in cc)

pub returns-clause-computes : goal.returns-clause-computes
returns-clause-computes g c = λ up. rw (← c.self.view_is) c.compute.ensures.computes

pub returns-clause-stopped : goal.returns-clause-stopped
returns-clause-stopped g c = λ not. absurd (not (c.is_stopped.ensures.up c.if-is_stopped.false))

pub returns-clause-same : goal.returns-clause-same
returns-clause-same g c = rw (← c.self.view_is, c.compute.ensures.tree) refl
