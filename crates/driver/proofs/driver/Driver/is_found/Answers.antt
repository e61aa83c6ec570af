use Rattle.driver.proofs.driver.Driver.is_found.Goals as goal

pub returns-in-None : goal.returns-in-None
returns-in-None g c = rw c.in-None.is tt

pub returns-in-Some : goal.returns-in-Some
returns-in-Some g c = rw c.in-Some.is c.is_reached.ensures
