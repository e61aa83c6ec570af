use Rattle.driver.proofs.Tails.{first-shown, first-written}
use Rattle.driver.proofs.tail.Tail.new.Goals as goal

pub returns-clause-written : goal.returns-clause-written
returns-clause-written g c = rw c.new.ensures (first-written _)

pub returns-clause-shown : goal.returns-clause-shown
returns-clause-shown g c = rw c.new.ensures (first-shown _)
