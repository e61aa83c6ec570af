use Rattle.pipe.proofs.Common.{arith, common_steps, length-ring}
use Rattle.pipe.proofs.Pipe.can_read.Goals as goal

pub returns-then-self-gt0 : goal.returns-then-self-gt0
returns-then-self-gt0 c m = rw (← c.self.view_is, length-ring) (grind (arith, common_steps))

pub returns-else-self-gt0 : goal.returns-else-self-gt0
returns-else-self-gt0 c m = rw (← c.self.view_is, length-ring) (grind (arith, common_steps))
