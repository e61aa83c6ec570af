use Rattle.std.proofs.Common.{subst}
use Rattle.timeline.specs.Line.{StopsOnlyAt}
use Rattle.unixmodel.specs.State.{State}
use Rattle.timeline.proofs.timeline.Timeline.compute.Goals as goal

pub run_to-requires-clause-only : goal.run_to-requires-clause-only
run_to-requires-clause-only g c =
    subst (λ (s : State). StopsOnlyAt (g.W.Wanted.stops c.args.wanted.now) s c.in-Some.addresses.now)
    c.machine.ensures.state c.in-Some.ensures
