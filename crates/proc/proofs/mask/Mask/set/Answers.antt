use Rattle.proc.proofs.Bits.{bit-past, bit-set}
use Rattle.proc.proofs.mask.Mask.set.Goals as goal

pub returns-then-at-lt64 : goal.returns-then-at-lt64
returns-then-at-lt64 c = rw (← c.self.view_is) (bit-set _ _ c.if-at-lt64.true)

pub returns-else-at-lt64 : goal.returns-else-at-lt64
returns-else-at-lt64 c = rw (← c.self.view_is) (bit-past _ _ c.if-at-lt64.false)
