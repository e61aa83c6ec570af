use Rattle.renumbering.proofs.renumbered_is_equivalence.Goals as goal
use Rattle.renumbering.proofs.Laws.{renumbered-equivalence}

pub returns : goal.returns
returns c = renumbered-equivalence
