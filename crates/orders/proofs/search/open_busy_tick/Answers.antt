use Rattle.std.proofs.Common.{ap, Bool, subst, sym, true, ◌+◌, ◌∙◌, ◌≡◌}
use Rattle.std.specs.Prelude.{if◌then◌else◌, is_some}
use Rattle.orders.proofs.Opening.{tick-back, tick-beyond, tick-opened}
use Rattle.orders.proofs.search.open_busy_tick.Goals as goal
use Rattle.orders.specs.Looked.{IsTurnBack}
use Rattle.orders.specs.Paths.{events_of}
use Rattle.unixmodel.specs.Calls.{After}
use Rattle.unixmodel.specs.Run.{run}
use Rattle.unixmodel.specs.State.{running}

pub returns-then-gives_turn_back : goal.returns-then-gives_turn_back
returns-then-gives_turn_back g c = λ keys.
    tick-back c.args.bounds.now keys _ c.args.todo.now.items c.args.missed.now c.args.path.now
    (subst (λ (a : After). IsTurnBack a.state) c.requires.reached
    (c.gives_turn_back.ensures c.if-gives_turn_back.true))

pub returns-then-is_at_bound : goal.returns-then-is_at_bound
returns-then-is_at_bound g c = λ keys.
    let runs : is_some (running (run (g.W.Walker.start c.args.walker.now) (events_of c.args.path.now)).state) ≡ true =
    subst (λ (a : After). is_some (running a.state) ≡ true) c.requires.reached c.requires.runs in
    tick-beyond c.args.bounds.now keys _ c.args.todo.now.items c.args.missed.now c.args.path.now runs
    (c.is_at_bound.ensures c.if-is_at_bound.true)

pub returns : goal.returns
returns g c = λ keys.
    let runs : is_some (running (run (g.W.Walker.start c.args.walker.now) (events_of c.args.path.now)).state) ≡ true =
    subst (λ (a : After). is_some (running a.state) ≡ true) c.requires.reached c.requires.runs in
    rw c.in_ok-push_back.ensures.items
    (tick-opened c.args.bounds.now keys _ c.args.todo.now.items c.args.missed.now c.args.path.now
    c.in_ok-further.further c.in_ok-further.ensures.events
    (c.in_ok-further.ensures.busy
    ∙ ap (λ (t : Bool). c.args.path.now.busy + (if t then 1 else 0)) (sym runs)))
