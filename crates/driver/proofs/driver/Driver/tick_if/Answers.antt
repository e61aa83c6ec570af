use Rattle.driver.proofs.Sitting.{all-none, all-ticks}
use Rattle.driver.proofs.driver.Driver.tick_if.Goals as goal

pub returns-then-is_due-clause-given : goal.returns-then-is_due-clause-given
returns-then-is_due-clause-given g c =
    rw (c.if-is_due.true, c.outcome.ensures) (all-ticks c.requires.off c.tick.ensures.given)

pub returns-then-is_due-clause-gives : goal.returns-then-is_due-clause-gives
returns-then-is_due-clause-gives g c = g.met.R.Terminal.is_beside _ _ c.tick.ensures.rest

pub returns-else-is_due-clause-given : goal.returns-else-is_due-clause-given
returns-else-is_due-clause-given g c = rw c.if-is_due.false (all-none c.requires.up c.requires.off)
