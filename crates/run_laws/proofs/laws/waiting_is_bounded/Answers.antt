use Rattle.run_laws.proofs.Passing.{waits-bounded}
use Rattle.run_laws.proofs.laws.waiting_is_bounded.Goals as goal

pub returns : goal.returns
returns c = waits-bounded
