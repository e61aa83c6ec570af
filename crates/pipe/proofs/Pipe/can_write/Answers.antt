use Rattle.pipe.proofs.Common.{arith, common_steps, length-ring}
use Rattle.pipe.proofs.Pipe.can_write.Goals as goal

pub returns-then-self-lt-ROOM-clause-can : goal.returns-then-self-lt-ROOM-clause-can
returns-then-self-lt-ROOM-clause-can c m = rw (← c.self.view_is, length-ring) (grind (arith, common_steps))

pub returns-else-self-lt-ROOM-clause-can : goal.returns-else-self-lt-ROOM-clause-can
returns-else-self-lt-ROOM-clause-can c m = rw (← c.self.view_is, length-ring) (grind (arith, common_steps))

pub returns-then-self-lt-ROOM-clause-within : goal.returns-then-self-lt-ROOM-clause-within
returns-then-self-lt-ROOM-clause-within c m = rw (← c.self.view_is, length-ring) c.self.invariant.1

pub returns-else-self-lt-ROOM-clause-within : goal.returns-else-self-lt-ROOM-clause-within
returns-else-self-lt-ROOM-clause-within c m = rw (← c.self.view_is, length-ring) c.self.invariant.1
