use Rattle.digests.proofs.Numbers.{numbers-out}
use Rattle.digests.proofs.named.numbers_stay_out.Goals as goal

pub returns : goal.returns
returns c = numbers-out
