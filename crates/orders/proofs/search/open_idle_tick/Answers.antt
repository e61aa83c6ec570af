use Rattle.std.proofs.Common.{ap, None, Option, subst, sym, true, false, ℕ, ◌+◌, ◌∙◌, ◌≡◌}
use Rattle.std.specs.Prelude.{if◌then◌else◌, is_some}
use Rattle.orders.proofs.Opening.{late-is, tick-idle, tick-late, tick-opened}
use Rattle.orders.proofs.search.open_idle_tick.Goals as goal
use Rattle.orders.specs.Ends.{is_anyone_asleep}
use Rattle.orders.specs.Paths.{events_of}
use Rattle.orders.specs.Tried.{is_late}
use Rattle.unixmodel.specs.Calls.{After}
use Rattle.unixmodel.specs.Run.{run}
use Rattle.unixmodel.specs.State.{running}

pub returns-then-not-is_anyone_asleep : goal.returns-then-not-is_anyone_asleep
returns-then-not-is_anyone_asleep g c = λ b keys.
    tick-idle b keys _ c.args.todo.now.items c.args.missed.now c.args.path.now (record {
      none = subst (λ (a : After). running a.state ≡ None) c.requires.reached c.requires.idle;
      awake = subst (λ (a : After). is_anyone_asleep a.state ≡ false) c.requires.reached
          (sym c.if-not-is_anyone_asleep.ensures);
    })

pub returns-then-not-is_time_awaited : goal.returns-then-not-is_time_awaited
returns-then-not-is_time_awaited g c = λ b keys.
    tick-late b keys _ c.args.todo.now.items c.args.missed.now c.args.path.now
    (subst (λ (a : After). is_late a.state ≡ true) c.requires.reached
    (late-is (g.W.Walker.reached c.args.walker.now).state c.requires.idle (sym c.if-not-is_anyone_asleep.ensures)
    (c.is_time_awaited.ensures c.if-not-is_time_awaited.true)))

pub returns : goal.returns
returns g c = λ b keys.
    let idle : running (run (g.W.Walker.start c.args.walker.now) (events_of c.args.path.now)).state ≡ None =
    subst (λ (a : After). running a.state ≡ None) c.requires.reached c.requires.idle in
    rw c.in_ok-push_back.ensures.items
    (tick-opened b keys _ c.args.todo.now.items c.args.missed.now c.args.path.now c.in_ok-further.further
    c.in_ok-further.ensures.events
    (c.in_ok-further.ensures.busy
    ∙ ap (λ (o : Option ℕ). c.args.path.now.busy + (if is_some o then 1 else 0)) (sym idle)))
