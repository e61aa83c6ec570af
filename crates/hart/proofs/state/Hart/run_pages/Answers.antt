use Rattle.hart.proofs.Common.{arith, GoesOn, inl, inr, List, Mapped, None, Option, point_of, refl, rules, slice_set}
use Rattle.hart.proofs.Common.{Some, subst}
use Rattle.hart.proofs.Common.{sym, Trap, ◌+◌, ◌-◌, ◌≡◌}
use Rattle.hart.proofs.Pages.{no_pages, still-known}
use Rattle.hart.proofs.Steps.{inside-kept}
use Rattle.hart.proofs.Stopping.{behind-then}
use Rattle.hart.proofs.Running.{goes-none, run-faults, run-then, whole-then}
use Rattle.hart.specs.Known.{AreKnown}
use Rattle.hart.proofs.state.Hart.run_pages.Given as given
use Rattle.hart.proofs.state.Hart.run_pages.Goals as goal
use Rattle.hart.proofs.state.Hart.run_pages.Goals.{After-visit-rest}

-- after the operations of a page
ran : (g : given.Over) (c : After-visit-rest g) (stopped : Option Trap) → c.visit-rest.result.1 ≡ stopped
    → (mapping : List Mapped)
    → GoesOn (g.T.Translate.held c.args.trans.now) (g.T.Translate.held c.visit-rest.new.trans)
    c.args.self.now.root.0 mapping (g.S.Stops.addresses c.args.stops.now) (point_of c.args.self.now c.args.ram.now)
    (point_of c.visit-rest.new.self c.visit-rest.new.ram) (c.args.count - c.visit-rest.result.0) stopped
ran g c stopped is mapping =
    let before = c.loop-left.invariant in
    run-then (g.T.Translate.held c.args.trans.now) (g.T.Translate.held c.locate.new.trans)
    (c.args.count - c.loop-left.left) mapping before.whole (before.goes mapping) c.locate.ensures.kept
    {o = Some c.in-Some.f.0} c.in-Some.ensures.answer
    c.visit-rest.new.self c.visit-rest.new.ram c.args.count c.loop-left.left c.visit-rest.result.0
    c.in-Some.f.0 stopped before.behind refl before.bounded c.visit-rest.ensures.within refl
    (λ others at. rw is at (c.visit-rest.ensures.goes others at))

-- what is known after them
knows : (g : given.Over) (c : After-visit-rest g)
    → AreKnown c.visit-rest.new.live.frames c.place-at.new.self.sets
    (slice_set c.place-at.new.self.all.items c.place-at.result c.visit-rest.new.page) c.visit-rest.new.ram
knows g c = still-known c.place-at.new.live.frames c.visit-rest.new.live.frames c.place-at.new.self.sets no_pages
    c.place-at.new.self.all.items c.loop-left.ram c.visit-rest.new.ram c.in-Some.f.0 c.place-at.result
    c.visit-rest.new.page (search rules) c.place-at.ensures.page c.place-at.ensures.live
    c.visit-rest.ensures.others c.visit-rest.ensures.checked
    (c.place-at.ensures.known c.loop-left.ram c.loop-left.invariant.known)

pub visit-rest-requires-clause-can : goal.visit-rest-requires-clause-can
visit-rest-requires-clause-can g c = record {
  inside = inside-kept _ c.loop-left.invariant.whole.inside c.locate.ensures.kept;
  frame = c.in-Some.ensures.inside;
  live = c.place-at.ensures.live;
  checked = rw c.index_mut-page.ensures.value
      (c.place-at.ensures.known c.loop-left.ram c.loop-left.invariant.known c.in-Some.f.0
      (omega (arith, c.in-Some.ensures.inside, c.frames_are_whole.ensures.small)) c.place-at.ensures.live
      c.place-at.result c.place-at.ensures.page _);
}

pub loop-left-init : goal.loop-left-init
loop-left-init g c = record {
  bounded = omega arith;
  many = c.requires.many;
  known = c.requires.known;
  whole = record { inside = c.requires.inside; count = refl; root = refl };
  behind = inr (omega arith, refl);
  goes = λ mapping. goes-none (omega arith);
}

pub loop-left-preserved : goal.loop-left-preserved
loop-left-preserved g c =
    let before = c.loop-left.invariant in
    let fewer = rw c.in_default-stopped.is at c.visit-rest.ensures.fewer in
    record {
      bounded = omega (arith, c.visit-rest.ensures.within, before.bounded);
      many = c.place-at.ensures.many;
      known = knows g (goal.at.loop-left-preserved g c).After-visit-rest;
      whole = whole-then before.whole c.visit-rest.ensures.whole;
      behind = inl (omega (arith, before.bounded, fewer), sym c.if-has.ensures);
      goes = ran g (goal.at.loop-left-preserved g c).After-visit-rest None c.in_default-stopped.is;
    }

pub returns-in_default-clause-runs : goal.returns-in_default-clause-runs
returns-in_default-clause-runs g c =
    let before = c.loop-left.invariant in
    record {
      goes = λ mapping.
          run-faults (g.T.Translate.held c.args.trans.now) (g.T.Translate.held c.locate.new.trans)
          (c.args.count - c.loop-left.left) mapping before.whole (before.goes mapping) c.locate.ensures.kept {o = None}
          c.in_default.ensures.answer refl;
      whole = record {
        inside = inside-kept _ before.whole.inside c.locate.ensures.kept;
        count = before.whole.count;
        root = before.whole.root;
      };
      within = omega arith;
      ends = tt;
      trap = omega (arith, c.loop-left-test.true, before.bounded);
      behind = before.behind;
    }

pub returns-in-Some-stopped-clause-runs : goal.returns-in-Some-stopped-clause-runs
returns-in-Some-stopped-clause-runs g c =
    let before = c.loop-left.invariant in
    let visit = c.visit-rest.ensures in
    let some = rw c.in-Some-stopped.is at visit.trap in
    let sum : c.args.count - c.loop-left.left + (c.loop-left.left - c.visit-rest.result.0)
    ≡ c.args.count - c.visit-rest.result.0 = omega (arith, before.bounded, visit.within) in
    record {
      goes = ran g (goal.at.returns-in-Some-stopped-clause-runs g c).After-visit-rest (Some c.in-Some-stopped.trap)
          c.in-Some-stopped.is;
      whole = whole-then before.whole visit.whole;
      within = omega arith;
      ends = tt;
      trap = omega (arith, some, visit.within, before.bounded);
      behind = rw (← sum) (behind-then _ before.behind (rw c.in-Some-stopped.is at visit.behind));
    }

pub returns-then-has-clause-runs : goal.returns-then-has-clause-runs
returns-then-has-clause-runs g c =
    let before = c.loop-left.invariant in
    let visit = c.visit-rest.ensures in
    let fewer = rw c.in_default-stopped.is at visit.fewer in
    record {
      goes = ran g (goal.at.returns-then-has-clause-runs g c).After-visit-rest None c.in_default-stopped.is;
      whole = whole-then before.whole visit.whole;
      within = omega arith;
      ends = inr (omega (arith, before.bounded, fewer), sym c.if-has.ensures);
      trap = tt;
      behind = tt;
    }

pub returns-clause-runs : goal.returns-clause-runs
returns-clause-runs g c =
    let before = c.loop-left.invariant in
    let all : c.args.count - c.loop-left.left ≡ c.args.count = omega (arith, c.loop-left-test.false) in
    record {
      goes = λ mapping.
          subst (λ x. GoesOn (g.T.Translate.held c.args.trans.now) (g.T.Translate.held c.loop-left.trans)
          c.args.self.now.root.0 mapping (g.S.Stops.addresses c.args.stops.now)
          (point_of c.args.self.now c.args.ram.now) (point_of c.loop-left.self c.loop-left.ram) x None) all
          (before.goes mapping);
      whole = before.whole;
      within = omega arith;
      ends = inl refl;
      trap = tt;
      behind = tt;
    }

pub returns-in-Some-stopped-clause-known : goal.returns-in-Some-stopped-clause-known
returns-in-Some-stopped-clause-known g c = knows g (goal.at.returns-in-Some-stopped-clause-known g c).After-visit-rest

pub returns-then-has-clause-known : goal.returns-then-has-clause-known
returns-then-has-clause-known g c = knows g (goal.at.returns-then-has-clause-known g c).After-visit-rest
