use Rattle.proc.proofs.Bits.{bit-cleared}
use Rattle.proc.proofs.mask.Mask.clear.Goals as goal

pub returns : goal.returns
returns c = rw (← c.self.view_is) (bit-cleared _ _ c.requires)
