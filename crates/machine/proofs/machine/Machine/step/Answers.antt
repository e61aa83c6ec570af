use Rattle.machine.proofs.machine.Machine.step.Goals as goal
use Rattle.machine.proofs.Steps.{does-gives, goes-gives, key-halts, quiet-gives, tick-halts}
use Rattle.machine.proofs.Common.{Key, next, state_of, Step, Tick, ◌∙◌}

pub step-done-requires : goal.step-done-requires
step-done-requires g c = let up =
    rw (← c.self.view_is) at (c.is_stopped.ensures.up c.if-is_stopped.false)
    in record { goes = up.goes; up = c.self.invariant up.sound }

pub returns-in-Step-clause-gives : goal.returns-in-Step-clause-gives
returns-in-Step-clause-gives g c =
    let k = c.self.inside.kernel in
    let up = rw (← c.self.view_is) at (c.is_stopped.ensures.up c.if-is_stopped.false) in
    rw (← c.self.view_is, up.sound, c.in-Step.is)
    (does-gives k c.step-done.new.kernel _ _ up.goes _ _ (next (state_of k) Step) c.step-done.result
    c.is_failure-self-inside.ensures c.step-done.ensures.does c.step-done.ensures.tree)

pub returns-in-Tick-clause-gives : goal.returns-in-Tick-clause-gives
returns-in-Tick-clause-gives g c =
    let k = c.self.inside.kernel in
    let up = rw (← c.self.view_is) at (c.is_stopped.ensures.up c.if-is_stopped.false) in
    rw (← c.self.view_is, up.sound, c.in-Tick.is)
    (quiet-gives k c.tick.new.kernel (next (state_of k) Tick) _ up.goes (tick-halts (state_of k) ∙ up.goes)
    c.tick.ensures.gives c.tick.ensures.tree)

pub returns-in-Key-clause-gives : goal.returns-in-Key-clause-gives
returns-in-Key-clause-gives g c =
    let k = c.self.inside.kernel in
    let b = c.in-Key.byte in
    let up = rw (← c.self.view_is) at (c.is_stopped.ensures.up c.if-is_stopped.false) in
    rw (← c.self.view_is, up.sound, c.in-Key.is)
    (goes-gives k c.key-done.new.kernel _ _ up.goes _ _ (next (state_of k) (Key b)) c.key-done.result
    (key-halts (state_of k) b ∙ up.goes) c.is_failure-self-inside-in-Key.ensures c.key-done.ensures.gives
    c.key-done.ensures.fault c.key-done.ensures.tree)
