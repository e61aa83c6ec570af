use Rattle.std.proofs.Common.{subst, true, ◌≡◌}
use Rattle.calls.specs.Computing.{computes}
use Rattle.timeline.specs.Line.{Passes}
use Rattle.unixmodel.specs.State.{State}
use Rattle.timeline.proofs.timeline.Timeline.passes.Goals as goal

pub returns : goal.returns
returns g c =
    subst (λ (s : State). c.passes.result ≡ true → computes s ≡ true → Passes (g.W.Wanted.stops c.args.wanted.now) s)
    c.machine.ensures.state c.passes.ensures
