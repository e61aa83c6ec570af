use Rattle.std.proofs.Common.{sym}
use Rattle.waits.proofs.Prompting.{next-ended, next-is, none-at-all}
use Rattle.waits.proofs.prompt.next_alive.Goals as goal

pub returns-then-is_alive : goal.returns-then-is_alive
returns-then-is_alive g c =
    next-is c.loop-pid.invariant c.in-Some.ensures (sym c.if-is_alive.ensures)

pub loop-pid-preserved : goal.loop-pid-preserved
loop-pid-preserved g c =
    next-ended c.loop-pid.invariant c.in-Some.ensures (sym c.if-is_alive.ensures)

pub returns : goal.returns
returns g c = none-at-all c.loop-pid.invariant c.in_default.ensures
