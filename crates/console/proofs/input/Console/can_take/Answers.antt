use Rattle.console.proofs.Common.{arith, common_steps, length-ring}
use Rattle.console.proofs.input.Console.can_take.Goals as goal

pub returns-clause-can : goal.returns-clause-can
returns-clause-can c = rw (← c.self.view_is, length-ring) (grind (arith, common_steps))

pub returns-clause-within : goal.returns-clause-within
returns-clause-within c = rw (← c.self.view_is, length-ring, length-ring) (omega arith)
