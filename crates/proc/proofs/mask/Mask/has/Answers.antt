use Rattle.proc.proofs.Bits.{bit-tested}
use Rattle.proc.proofs.mask.Mask.has.Goals as goal

pub returns : goal.returns
returns c = rw (← c.self.view_is) (bit-tested _ _ c.requires)
