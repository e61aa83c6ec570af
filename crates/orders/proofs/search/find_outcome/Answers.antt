use Rattle.std.proofs.Common.{arith}
use Rattle.orders.proofs.Lists.{one-at}
use Rattle.orders.proofs.search.find_outcome.Goals as goal
use Rattle.orders.specs.declared.told.Outcome.{Outcome}
use Rattle.orders.specs.Ends.{ShowSame}
use Rattle.orders.specs.Paths.{events_of}
use Rattle.unixmodel.specs.Run.{run}

pub returns-then-branch-clause-told : goal.returns-then-branch-clause-told
returns-then-branch-clause-told g c =
    rw (← c.loop-number.invariant.start, ← c.loop-number.invariant.reached)
    (one-at (λ (o : Outcome). ShowSame (g.W.Walker.reached c.loop-number.walker)
    (run (g.W.Walker.start c.loop-number.walker) (events_of o.path))) _ c.loop-number.number
    c.index-outcomes-number.result (omega arith) c.index-outcomes-number.is
    (c.in_ok-is_outcome.ensures.same c.if-branch.true))
