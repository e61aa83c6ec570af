use Rattle.std.proofs.Common.{arith}
use Rattle.driver.proofs.Walking.{goes-aims, goes-within}
use Rattle.driver.proofs.driver.Driver.go_on.Goals as goal

pub returns-then-quiet-eq0-clause-goes : goal.returns-then-quiet-eq0-clause-goes
returns-then-quiet-eq0-clause-goes g c = goes-within (omega (arith, c.requires.some)) (goes-aims c.pace.ensures.goes)

pub returns-clause-goes : goal.returns-clause-goes
returns-clause-goes g c = goes-within (omega arith) c.stride.ensures.goes
