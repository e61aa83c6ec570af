use Rattle.std.proofs.Common.{ap, subst, sym, ◌∙◌, ◌≡◌}
use Rattle.orders.proofs.Opening.{none-some}
use Rattle.orders.proofs.Runs.{run-none}
use Rattle.orders.proofs.search.begin.Goals as goal
use Rattle.renumbering.specs.Renumbered.{NamesAreThere}
use Rattle.schedules.specs.Alike.{HasClock}
use Rattle.unixmodel.specs.Calls.{After}
use Rattle.unixmodel.specs.Run.{run}
use Rattle.unixmodel.specs.State.{State}

pub returns : goal.returns
returns g c =
    let s = g.W.Walker.start c.args.walker.now in
    let there : (g.W.Walker.reached c.go.new.self).state ≡ s =
    ap (λ (a : After). a.state) (c.in_ok-status.ensures.reached ∙ ap (λ es. run s es) c.new.ensures.events ∙ run-none s)
    in
    record {
      up = ap (λ (t : State). t.halted) (sym there) ∙ c.in_ok-status.ensures.status
          ∙ none-some _ (sym c.if-is_some.ensures);
      clock = subst (λ (t : State). HasClock t) there c.has_clock.ensures;
      names = subst NamesAreThere c.in_ok-status.ensures.start c.names_are_there.ensures;
      start = c.in_ok-status.ensures.start;
    }
