use Rattle.std.proofs.Common.{rules}
use Rattle.proc.proofs.Bits.{finds-none, finds-one, length-bits_of}
use Rattle.proc.proofs.mask.Mask.next.Goals as goal

pub returns-then-next-le64-clause-finds : goal.returns-then-next-le64-clause-finds
returns-then-next-le64-clause-finds c =
    finds-one c.self.view_is c.rotate_right-ahead.ensures (search rules) c.requires.last c.requires.turn
    c.if-next-le64.true

pub returns-then-next-le64-clause-all : goal.returns-then-next-le64-clause-all
returns-then-next-le64-clause-all c = rw (← c.self.view_is) (length-bits_of 64 _)

pub returns-else-next-le64-clause-finds : goal.returns-else-next-le64-clause-finds
returns-else-next-le64-clause-finds c =
    finds-none c.self.view_is c.rotate_right-ahead.ensures (search rules) c.requires.last c.requires.turn
    c.if-next-le64.false

pub returns-else-next-le64-clause-all : goal.returns-else-next-le64-clause-all
returns-else-next-le64-clause-all c = rw (← c.self.view_is) (length-bits_of 64 _)
