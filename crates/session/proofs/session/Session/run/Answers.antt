use Rattle.session.proofs.Repeating.{runs-on}
use Rattle.session.proofs.session.Session.run.Goals as goal

pub returns : goal.returns
returns c = runs-on (c.is_up.ensures.up c.if-not-is_up.false) c.never_fails.ensures c.advance-ran.ensures.advances
