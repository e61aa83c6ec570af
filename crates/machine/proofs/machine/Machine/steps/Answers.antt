use Rattle.machine.proofs.machine.Machine.steps.Goals as goal
use Rattle.machine.proofs.Steps.{steps-give}

pub steps-done-requires : goal.steps-done-requires
steps-done-requires g c = let up =
    rw (← c.self.view_is) at (c.is_stopped.ensures.up c.if-is_stopped.false)
    in record { goes = up.goes; up = c.self.invariant up.sound }

pub returns-clause-gives : goal.returns-clause-gives
returns-clause-gives g c =
    let k = c.self.inside.kernel in
    let up = rw (← c.self.view_is) at (c.is_stopped.ensures.up c.if-is_stopped.false) in
    rw (← c.self.view_is, up.sound)
    (steps-give k c.steps-done.new.kernel _ _ up.goes _ _ c.args.count c.steps-done.result
    c.is_failure-self-inside.ensures c.steps-done.ensures.does c.steps-done.ensures.tree)
