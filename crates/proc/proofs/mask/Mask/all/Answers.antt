use Rattle.proc.proofs.Common.{refl, all_in, bits_of}
use Rattle.proc.proofs.mask.Mask.all.Goals as goal

pub returns : goal.returns
unfolding all_in bits_of
returns c = refl
