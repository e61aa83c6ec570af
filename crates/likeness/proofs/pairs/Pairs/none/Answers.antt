use Rattle.likeness.proofs.Growing.{no-pairs}
use Rattle.likeness.proofs.pairs.Pairs.none.Goals as goal

pub returns : goal.returns
returns c = no-pairs 100 100
