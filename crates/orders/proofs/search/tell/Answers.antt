use Rattle.std.proofs.Common.{length, List, refl, subst, sym, ◌<◌, ◌≡◌}
use Rattle.std.proofs.lemmas.Result.{on_ok_weaker}
use Rattle.std.specs.Prelude.{IfSome}
use Rattle.orders.proofs.Opening.{tells-found, tells-new}
use Rattle.orders.proofs.search.tell.Goals as goal
use Rattle.orders.specs.declared.told.Outcome.{Outcome}
use Rattle.orders.specs.Looked.{TellsAt}
use Rattle.orders.specs.Paths.{events_of}
use Rattle.orders.specs.Told.{IsTold, runs_more}
use Rattle.unixmodel.specs.Calls.{After}

-- it is one of the outcomes so far
pub returns-in-Some-clause-told : goal.returns-in-Some-clause-told
returns-in-Some-clause-told g c =
    let s = g.W.Walker.start c.args.walker.now in
    let told = c.args.told.now.items in
    let shown : IsTold s c.as_slice.result.now (g.W.Walker.reached c.args.walker.now) =
    subst (λ o. IfSome o (λ _. IsTold s c.as_slice.result.now (g.W.Walker.reached c.args.walker.now))) c.in-Some.is
    c.in_ok-number.ensures.told in
    let within : c.in-Some.number < length c.as_slice.result.now =
    subst (λ o. IfSome o (λ n. n < length c.as_slice.result.now)) c.in-Some.is c.in_ok-number.ensures.within in
    let found : TellsAt s told (runs_more told c.in-Some.number) (events_of c.args.path.now) =
    tells-found s told c.in-Some.number (events_of c.args.path.now)
    (subst (λ (os : List Outcome). c.in-Some.number < length os) c.as_slice.ensures.value within)
    (subst (λ (a : After). IsTold s told a) c.requires.reached
    (subst (λ (os : List Outcome). IsTold s os (g.W.Walker.reached c.args.walker.now)) c.as_slice.ensures.value
    shown)) in
    on_ok_weaker c.count_run.result
    (λ (same : c.count_run.new.told.items ≡ runs_more told c.in-Some.number).
    subst (λ (os : List Outcome). TellsAt s told os (events_of c.args.path.now)) (sym same) found)
    c.count_run.ensures

pub returns-clause-told : goal.returns-clause-told
returns-clause-told g c = rw c.in_ok-push.ensures.items
    (tells-new _ c.args.told.now.items _ _ c.in_ok-path.ensures.events
    (subst (λ (a : After). a.state.halted ≡ c.args.status) c.requires.reached c.requires.status) refl)
