use Rattle.std.proofs.Common.{subst}
use Rattle.stretches.specs.Stretches.{IsAhead}
use Rattle.timeline.proofs.GoingOn.{ahead-less}
use Rattle.timeline.proofs.timeline.Timeline.next.Goals as goal

pub returns-clause-some : goal.returns-clause-some
returns-clause-some c =
    ahead-less c.args.self.now.events c.args.self.now.at c.stretch.result c.in-Some.times c.in-Some.event
    (subst (λ n. IsAhead c.args.self.now.events n (c.in-Some.event, c.in-Some.times)) c.at.ensures
    c.in-Some.ensures.some) c.stretch.ensures.some c.stretch.ensures.within
