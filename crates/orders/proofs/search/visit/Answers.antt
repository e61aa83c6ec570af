use Rattle.std.proofs.Common.{ap, is_some, None, OnOk, subst, sym, true, ◌∙◌, ◌≡◌}
use Rattle.std.proofs.lemmas.Result.{on_ok_weaker}
use Rattle.orders.proofs.Moves.{going-ended, going-onward}
use Rattle.orders.proofs.search.visit.Goals as goal
use Rattle.orders.specs.Looked.{ComesTo, TellsAt}
use Rattle.orders.proofs.Plain.{comes-halted}
use Rattle.orders.proofs.Opening.{none-some}
use Rattle.unixmodel.specs.State.{State}
use Rattle.orders.specs.Paths.{events_of}
use Rattle.unixmodel.specs.Calls.{After}
use Rattle.unixmodel.specs.Run.{run}

-- process 1 has ended
pub returns-then-is_some-clause-going : goal.returns-then-is_some-clause-going
returns-then-is_some-clause-going g c =
    let s = g.W.Walker.start c.args.walker.now in
    let ended : is_some (run s (events_of c.args.path)).state.halted ≡ true =
    subst (λ (a : After). is_some a.state.halted ≡ true) c.in_ok-status.ensures.reached
    (ap is_some c.in_ok-status.ensures.status ∙ sym c.if-is_some.ensures) in
    let tells : OnOk c.tell.result (TellsAt s c.args.search.now.told.items c.tell.new.told.items
    (events_of c.args.path)) = rw (← c.in_ok-status.ensures.start) c.tell.ensures.told in
    on_ok_weaker c.tell.result (going-ended c.args.task.bounds c.args.task.keys.now s c.requires.up c.args.path
    c.args.search.now.seen.paths.items c.args.search.now.todo.items c.args.search.now.told.items
    c.args.search.now.missed c.requires.going c.tell.new.told.items ended) tells

-- it hasn't
pub meet-requires : goal.meet-requires
meet-requires g c =
    let s = g.W.Walker.start c.args.walker.now in
    let es = events_of c.args.path in
    let there = c.in_ok-there.there in
    let start : g.W.Walker.start c.come_to_call.new.walker ≡ s =
    c.in_ok-there.ensures.start ∙ c.in_ok-status.ensures.start in
    let goes : (run s es).state.halted ≡ None =
    subst (λ (a : After). a.state.halted ≡ None) c.in_ok-status.ensures.reached
    (c.in_ok-status.ensures.status ∙ none-some _ (sym c.if-is_some.ensures)) in
    let comes : ComesTo c.args.task.bounds.spin s es (events_of there) =
    rw (← c.in_ok-status.ensures.start) c.in_ok-there.ensures.comes in
    let reached : g.W.Walker.reached c.come_to_call.new.walker ≡ run s (events_of there) =
    c.in_ok-there.ensures.reached ∙ ap (λ t. run t (events_of there)) c.in_ok-status.ensures.start in
    record {
      up = ap (λ (t : State). t.halted) start ∙ c.requires.up;
      start = c.requires.start ∙ sym start;
      reached = reached ∙ ap (λ t. run t (events_of there)) (sym start);
      goes = ap (λ (a : After). a.state.halted) reached
          ∙ comes-halted s c.requires.up c.args.task.bounds.spin es (events_of there) comes ∙ goes;
      going = rw start (going-onward c.args.task.bounds c.args.task.keys.now s c.requires.up c.args.path
          c.args.search.now.seen.paths.items c.args.search.now.todo.items c.args.search.now.told.items
          c.args.search.now.missed c.requires.going there goes comes c.in_ok-there.ensures.busy);
    }
