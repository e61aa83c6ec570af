use Rattle.driver.proofs.Sitting.{all-steps}
use Rattle.driver.proofs.driver.Driver.work.Goals as goal

pub returns-clause-given : goal.returns-clause-given
returns-clause-given g c = rw c.outcome.ensures (all-steps c.requires.off c.walk.ensures.given)

pub returns-clause-gives : goal.returns-clause-gives
returns-clause-gives g c = g.met.R.Terminal.is_beside _ _ c.walk.ensures.rest
