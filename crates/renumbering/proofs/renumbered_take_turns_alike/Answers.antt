use Rattle.renumbering.proofs.renumbered_take_turns_alike.Goals as goal
use Rattle.renumbering.proofs.Laws.{turns-alike}

pub returns : goal.returns
returns c = turns-alike
