use Rattle.lines.proofs.Covering.{all-pushed}
use Rattle.lines.proofs.ordered.add_rising.Goals as goal

pub returns-then-rise : goal.returns-then-rise
returns-then-rise c = all-pushed c.args.rows.now _ _ _ c.in_ok-push.ensures.items c.requires
    (rw c.rows_of.ensures at (c.rise.ensures c.if-rise.true))
