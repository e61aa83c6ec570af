use Rattle.std.proofs.Common.{ap, None, refl, subst, sym, ◌++◌, ◌∙◌, ◌≡◌}
use Rattle.std.proofs.lemmas.Result.{IfOk-weaker}
use Rattle.orders.proofs.Plain.{comes-none, comes-soon, soon-run, stays}
use Rattle.orders.proofs.search.come_to_call.Goals as goal
use Rattle.orders.specs.declared.paths.Path.{Path}
use Rattle.orders.specs.Looked.{ComesTo, ComputesUpTo, stepped_on}
use Rattle.orders.specs.Paths.{events_of, steps}
use Rattle.unixmodel.specs.Calls.{After}
use Rattle.unixmodel.specs.Run.{run}

pub returns-then-count-eq0 : goal.returns-then-count-eq0
returns-then-count-eq0 g c = record {
  comes = comes-none c.args.spin _ (events_of c.args.path) (events_of c.args.path) refl;
  busy = refl;
  reached = c.in_ok-count.ensures.reached ∙ stays c.in_ok-count.count _ c.if-count-eq0.true ∙ c.requires.reached;
  start = c.in_ok-count.ensures.start;
}

pub returns-then-count-spin : goal.returns-then-count-spin
returns-then-count-spin g c =
    let s = g.W.Walker.start c.args.walker.now in
    let es = events_of c.args.path in
    let n = c.in_ok-count.count in
    let goes : (run s es).state.halted ≡ None =
    subst (λ (a : After). a.state.halted ≡ None) c.requires.reached c.requires.goes in
    let computes : ComputesUpTo c.args.spin (run s es).state n =
    subst (λ (a : After). ComputesUpTo c.args.spin a.state n) c.requires.reached c.in_ok-count.ensures.computes in
    let at : g.W.Walker.reached c.compute.new.self ≡ stepped_on n (run s es) =
    c.in_ok-count.ensures.reached ∙ ap (stepped_on n) c.requires.reached in
    let comes = λ (p : Path) (same : events_of p ≡ es ++ steps n).
    comes-soon c.args.spin n s es (events_of p) same computes c.if-count-spin.true in
    record {
      comes = IfOk-weaker c.stepped.result (λ (p : Path). events_of p ≡ es ++ steps n)
          (λ (p : Path). ComesTo c.args.spin s es (events_of p)) comes c.stepped.ensures.events;
      busy = c.stepped.ensures.busy;
      reached = IfOk-weaker c.stepped.result (λ (p : Path). events_of p ≡ es ++ steps n)
          (λ (p : Path). g.W.Walker.reached c.compute.new.self ≡ run s (events_of p))
          (λ (p : Path) (same : events_of p ≡ es ++ steps n). at
          ∙ sym (soon-run s c.requires.up c.args.spin n es (events_of p) same computes c.if-count-spin.true goes))
          c.stepped.ensures.events;
      start = c.in_ok-count.ensures.start;
    }

pub returns : goal.returns
returns g c = record {
  comes = comes-none c.args.spin _ (events_of c.args.path) (events_of c.args.path) refl;
  busy = refl;
  reached = c.in_ok-go.ensures.reached
      ∙ ap (λ s. run s (events_of c.args.path)) c.in_ok-count.ensures.start;
  start = c.in_ok-go.ensures.start ∙ c.in_ok-count.ensures.start;
}
