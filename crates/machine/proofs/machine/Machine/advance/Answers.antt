use Rattle.machine.proofs.machine.Machine.advance.Goals as goal
use Rattle.machine.proofs.Steps.{advance-gives, halts-last}

pub advance-count-requires : goal.advance-count-requires
advance-count-requires g c = let up =
    rw (← c.self.view_is) at (c.is_stopped.ensures.up c.if-is_stopped.false)
    in record { goes = up.goes; up = c.self.invariant up.sound; some = c.requires }

pub returns-clause-gives : goal.returns-clause-gives
returns-clause-gives g c =
    let k = c.self.inside.kernel in
    let up = rw (← c.self.view_is) at (c.is_stopped.ensures.up c.if-is_stopped.false) in
    rw (← c.self.view_is, up.sound)
    (advance-gives k c.advance-count.new.kernel _ _ up.goes _ _ c.args.most c.advance-count.result.0
    c.advance-count.result.1 (c.self.invariant up.sound) c.is_failure-self-inside.ensures
    c.advance-count.ensures.does).0

pub returns-clause-piece : goal.returns-clause-piece
returns-clause-piece g c =
    let k = c.self.inside.kernel in
    let up = rw (← c.self.view_is) at (c.is_stopped.ensures.up c.if-is_stopped.false) in
    rw (← c.self.view_is, up.sound)
    (advance-gives k c.advance-count.new.kernel _ _ up.goes _ _ c.args.most c.advance-count.result.0
    c.advance-count.result.1 (c.self.invariant up.sound) c.is_failure-self-inside.ensures
    c.advance-count.ensures.does).1

pub returns-clause-last : goal.returns-clause-last
returns-clause-last g c =
    let k = c.self.inside.kernel in
    let up = rw (← c.self.view_is) at (c.is_stopped.ensures.up c.if-is_stopped.false) in
    rw (← c.self.view_is, up.sound)
    (halts-last k c.advance-count.new.kernel _ _ up.goes c.is_failure-self-inside.result _ c.advance-count.result.0
    c.advance-count.result.1 c.advance-count.ensures.does.goes)
