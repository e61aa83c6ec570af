use Rattle.likeness.proofs.Same.{status-same}
use Rattle.likeness.proofs.whole.is_same_status.Goals as goal

pub returns : goal.returns
returns c = status-same c.eq.result c.args.one c.args.other c.eq.ensures
