use Rattle.std.proofs.Common.{None, subst, ◌≡◌}
use Rattle.orders.proofs.Looking.{looks}
use Rattle.orders.specs.Looked.{NotesTime, OpensKey, OpensTick}
use Rattle.orders.specs.Paths.{events_of}
use Rattle.orders.proofs.search.look.Goals as goal
use Rattle.schedules.specs.Alike.{HasClock}
use Rattle.unixmodel.specs.Calls.{After}
use Rattle.unixmodel.specs.Run.{run}

pub returns-clause-going : goal.returns-clause-going
returns-clause-going g c =
    let s = g.W.Walker.start c.args.walker.now in
    let es = events_of c.args.place.path in
    let goes : (run s es).state.halted ≡ None =
    subst (λ (a : After). a.state.halted ≡ None) c.requires.reached c.requires.goes in
    let clock : HasClock (run s es).state =
    subst (λ (a : After). HasClock a.state) c.requires.reached c.has_clock.ensures in
    let notes : NotesTime (run s es).state c.args.search.now.missed c.note_time.new.missed =
    rw (← c.requires.reached) c.note_time.ensures in
    let key : OpensKey c.args.task.keys.now s c.args.search.now.todo.items c.open_key.new.todo.items c.args.place.path =
    rw (← c.in_ok-tell_waiting.ensures.start) c.in_ok-open_key.ensures in
    let tick : OpensTick c.args.task.bounds c.args.task.keys.now s c.open_key.new.todo.items
    c.open_tick.new.todo.items c.note_time.new.missed c.open_tick.new.missed c.args.place.path =
    rw (← c.in_ok-tell_waiting.ensures.start) (c.in_ok-open_tick.ensures c.args.task.keys.now) in
    rw c.in_ok-put.ensures
    (looks c.args.task.keys.now s c.args.place.path c.idle_tick_changes_nothing.ensures.idle
    c.idle_tick_changes_nothing.ensures.back c.requires.up goes clock c.args.task.bounds _ _ _ _ _ _ _ _ _ _
    c.requires.going notes c.in_ok-tell_waiting.ensures.told key tick
    (c.in_ok-open_step.ensures c.args.task.keys.now s))
