use Rattle.hart.proofs.Common.{arith, GoesOn, goes_to, Hart, IsClear, List, Mapped, Fetch, frame_for, None, pc_at}
use Rattle.hart.proofs.Common.{point_at, refl, Some, StayLive, trap_of, ℕ, ◌*◌, ◌+◌, ◌-◌, ◌/◌, ◌<◌, ◌≡◌, ◌≤◌}
use Rattle.hart.proofs.Straight.{if-none, if-some, moves-some, pc-of, stops-early, stops-there}
use Rattle.hart.proofs.Running.{left-begins, left-on, page-then, stop-behind, whole-then}
use Rattle.hart.proofs.Stopping.{less-clear}
use Rattle.hart.proofs.Pages.{stay-then}
use Rattle.hart.proofs.state.Hart.run_page.Given as given
use Rattle.hart.proofs.state.Hart.run_page.Goals as goal
use Rattle.hart.proofs.state.Hart.run_page.Goals.{After-straight-done}

-- the address of the page of a hart's pc
abbrev page_of : Hart → ℕ
page_of hart = hart.pc / 4096 * 4096

-- up to there none is at a stop
clear : (g : given.Over) (c : After-straight-done g) (end : ℕ) → end ≤ c.end_of-end.result
    → IsClear (g.S.Stops.addresses c.args.stops.now) (page_of c.args.self.now) c.jump.k end
clear g c end within =
    less-clear _ _ within (c.end_of-end.ensures.clear (page_of c.args.self.now) c.jump.invariant.free)

-- the operations that were done
went : (g : given.Over) (c : After-straight-done g) (mapping : List Mapped)
    → frame_for mapping ((page_of c.args.self.now) / 4096) Fetch ≡ Some c.args.f.0
    → GoesOn (g.T.Translate.held c.jump.trans) (g.T.Translate.held c.straight-done.new.trans) c.jump.self.root.0
    mapping (g.S.Stops.addresses c.args.stops.now)
    (point_at c.jump.self (pc_at (page_of c.args.self.now) c.jump.k) c.jump.ram)
    (point_at c.straight-done.new.self
    (goes_to (pc_at (page_of c.args.self.now) (c.jump.k + c.straight-done.result.0)) c.straight-done.result.1)
    c.straight-done.new.ram) c.straight-done.result.0 (trap_of c.straight-done.result.1)
went g c mapping at = c.straight-done.ensures.goes mapping _ at (clear g c _ c.straight-done.ensures.within)

-- something is done, unless a trap was raised
some : (g : given.Over) (c : After-straight-done g) → trap_of c.straight-done.result.1 ≡ None
    → 0 < c.straight-done.result.0
some g c none = moves-some c.straight-done.result.1 c.straight-done.ensures.moves none
    (omega (arith, c.end_of-end.ensures.after))

-- what is known of other pages
stayed : (g : given.Over) (c : After-straight-done g) (frames : List ℕ)
    → StayLive c.args.f.0 c.jump.live.frames frames c.jump.ram c.straight-done.new.ram
    → StayLive c.args.f.0 c.args.live.now.frames frames c.args.ram.now c.straight-done.new.ram
stayed g c frames = stay-then c.args.f.0 c.args.live.now.frames c.jump.live.frames frames c.args.ram.now c.jump.ram
    c.straight-done.new.ram c.jump.invariant.others

pub jump-init : goal.jump-init
jump-init g c = record {
  goes = left-begins _ _ c.requires.can.inside
      (pc-of (omega arith) c.args.self.now.aligned (refl) refl) (omega arith);
  below = omega arith;
  counted = omega arith;
  free = record {
    here = λ j since less. c.clear_to.ensures.clear j (omega (arith, since)) less;
    before = λ j since less. absurd (omega (arith, less));
    within = c.clear_to.ensures.within.1;
    within_before = omega arith;
  };
  since = omega arith;
  before = omega arith;
  checked = c.requires.can.checked;
  live = c.requires.can.live;
  others = λ h fits other live. (live, λ k. refl);
}

pub straight-done-requires-clause-can : goal.straight-done-requires-clause-can
straight-done-requires-clause-can g c =
    let part = c.reach-part.ensures.part in
    record {
      inside = c.jump.invariant.goes.whole.inside;
      since = omega (arith, part);
      some = c.end_of-end.ensures.after;
      within = c.end_of-end.ensures.end.0;
      below = c.end_of-end.ensures.end.1;
      live = c.jump.invariant.live;
      now = λ j since less.
          c.reach-part.ensures.now j (omega (arith, since, part))
          (omega (arith, less, c.end_of-end.ensures.end.0));
    }

pub onward-requires-clause-from : goal.onward-requires-clause-from
onward-requires-clause-from g c = λ none.
    let more = some g (goal.at.onward-requires-clause-from g c).After-straight-done none in
    omega (arith, more, c.jump.invariant.since)

pub jump-preserved : goal.jump-preserved
jump-preserved g c =
    let after = (goal.at.jump-preserved g c).After-straight-done in
    let more = some g after c.in-Some.ensures.done in
    record {
      goes = left-on c.straight-done.new.self c.jump.k c.in-Some.index
          (goes_to (pc_at (page_of c.args.self.now) (c.jump.k + c.straight-done.result.0)) c.straight-done.result.1)
          c.straight-done.new.ram c.jump.invariant.goes refl more
          (omega (arith, c.straight-done.ensures.within, c.end_of-end.ensures.left)) c.straight-done.ensures.whole
          c.in-Some.ensures.on.past c.in-Some.ensures.on.at
          (λ mapping at. rw c.in-Some.ensures.done at (went g after mapping at));
      below = c.in-Some.ensures.on.below;
      counted = omega (arith, c.jump.invariant.counted);
      free = c.in-Some.ensures.on.free;
      since = omega (arith, c.in-Some.ensures.on.since);
      before = c.in-Some.ensures.on.before;
      checked = c.heed.ensures.checked _ c.straight-done.ensures.words c.reach-part.ensures.checked;
      live = c.heed.ensures.live;
      others = stayed g after c.heed.new.live.frames (c.heed.ensures.others _ c.straight-done.ensures.words);
    }

pub returns-in_default : goal.returns-in_default
returns-in_default g c =
    let after = (goal.at.returns-in_default g c).After-straight-done in
    let done = c.straight-done.result.0 in
    let next = c.straight-done.result.1 in
    let base = page_of c.args.self.now in
    let whole = whole-then c.jump.invariant.goes.whole c.straight-done.ensures.whole in
    record {
      checked = c.heed.ensures.checked _ c.straight-done.ensures.words c.reach-part.ensures.checked;
      others = stayed g after c.heed.new.live.frames (c.heed.ensures.others _ c.straight-done.ensures.words);
      goes = rw (c.trap.ensures, c.address-self.ensures)
          (page-then c.straight-done.new.self done _ c.jump.k (goes_to (pc_at base (c.jump.k + done)) next)
          c.straight-done.new.ram (trap_of next) c.jump.invariant.goes refl refl
          (omega (arith, c.straight-done.ensures.within, c.end_of-end.ensures.left)) (went g after));
      whole = record { inside = whole.inside; count = whole.count; root = whole.root };
      within = omega (arith, c.jump.invariant.counted);
      fewer = rw c.trap.ensures (if-none _ _ (λ none.
          let more = some g after none in
          omega (arith, more, c.straight-done.ensures.within, c.end_of-end.ensures.left, c.jump.invariant.counted)));
      trap = rw c.trap.ensures (if-some _ _ (λ t stopped.
          let early = stops-early next c.straight-done.ensures.moves stopped in
          omega (arith, early, c.end_of-end.ensures.left)));
      behind = rw c.trap.ensures (if-some _ _ (λ t stopped.
          let early = stops-early next {words = c.end_of-end.result - c.jump.k} c.straight-done.ensures.moves stopped in
          rw (c.address-self.ensures, stops-there next stopped)
          (stop-behind base c.jump.k c.end_of-end.result done _ c.jump.invariant.goes refl early
          (omega (arith, c.straight-done.ensures.within, c.end_of-end.ensures.left))
          (clear g after c.end_of-end.result (omega arith)))));
    }

pub returns : goal.returns
returns g c =
    let before = c.jump.invariant in
    let whole = before.goes.whole in
    record {
      checked = before.checked;
      others = before.others;
      goes = before.goes.goes;
      whole = record { inside = whole.inside; count = whole.count; root = whole.root };
      within = omega (arith, before.counted);
      fewer = omega (arith, c.jump-test.false, c.requires.some);
      trap = tt;
      behind = tt;
    }
