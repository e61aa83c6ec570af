use Rattle.explore_command.proofs.Going.{goes-on}
use Rattle.explore_command.proofs.shown.takes_events.Goals as goal

pub returns : goal.returns
returns c = λ is. goes-on _ _ _ _ _ c.in-Ok.ensures.gives.1
