use Rattle.std.proofs.Common.{ap}
use Rattle.explore.proofs.exploring.explore.Goals as goal
use Rattle.machine.specs.View.{View}

pub find_outcomes-requires : goal.find_outcomes-requires
find_outcomes-requires g c = ap (λ (m : View). m.state) c.requires
