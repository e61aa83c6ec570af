use Rattle.renumbering.proofs.names_stay_there.Goals as goal
use Rattle.renumbering.proofs.Starts.{names-stay}

pub returns : goal.returns
returns c = names-stay
