use Rattle.orders.proofs.Starts.{starts-awake}
use Rattle.orders.proofs.laws.nobody_sleeps_at_a_start.Goals as goal

pub returns : goal.returns
returns c = starts-awake
