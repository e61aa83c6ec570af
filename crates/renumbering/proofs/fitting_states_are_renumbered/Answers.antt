use Rattle.renumbering.proofs.fitting_states_are_renumbered.Goals as goal
use Rattle.renumbering.proofs.Pairing.{fitting-renumbered}

pub returns : goal.returns
returns c = fitting-renumbered
