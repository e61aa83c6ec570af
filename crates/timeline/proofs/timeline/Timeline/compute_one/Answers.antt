use Rattle.std.proofs.Common.{Bool, [], ap, arith, false, length, refl, subst, sym, true, ◌≡◌}
use Rattle.calls.specs.Computing.{computes}
use Rattle.stretches.specs.Stretches.{IsAhead}
use Rattle.timeline.proofs.GoingOn.{Strode, strode, strode-none, strode-one}
use Rattle.timeline.specs.Line.{Line, state_at}
use Rattle.unixmodel.specs.State.{State}
use Rattle.unixmodel.specs.declared.event.Event.TheVariants.{Step}
use Rattle.timeline.proofs.timeline.Timeline.compute_one.Goals.{After-compute}
use Rattle.timeline.proofs.timeline.Timeline.compute_one.Goals as goal

-- nothing stops
abbrev never : State → Bool
never s = false

-- the instruction that was computed, if one was, is the next of the line
goes-on : (c : After-compute) → Strode c.self.inside.begin.state c.self.inside.events c.self.invariant.goes never
    c.self.inside.at c.compute.result 1 c.compute.new.self
goes-on c =
    strode c.self.inside.begin.state c.self.inside.events c.self.invariant.goes never c.self.inside.at
    c.compute.result 1 [] (λ s beside done out shown. refl) c.self.invariant.here
    (subst (λ (l : Line). IsAhead l.events l.at (Step, 1)) (sym c.self.view_is) c.requires)
    c.compute.ensures.computes c.compute.ensures.stopped c.compute.ensures.same

pub overflow_add-self : goal.overflow_add-self
overflow_add-self c =
    let whole = c.requires.within in
    let at = ap (λ (l : Line). l.at) c.self.view_is in
    let events = ap (λ (l : Line). length l.events) c.self.view_is in
    let all = c.count-total.ensures in
    omega (arith, whole, at, events, all)

-- no instruction was done
pub invariant_of-self : goal.invariant_of-self
invariant_of-self c =
    let s = goes-on (goal.at.invariant_of-self c).After-compute in
    record {
      sound = c.self.invariant.sound;
      goes = c.self.invariant.goes;
      near = c.self.invariant.near;
      here = strode-none c.self.inside.begin.state c.self.inside.events c.self.invariant.goes never
          c.self.inside.at c.compute.result s (omega arith);
      copies = c.self.invariant.copies;
    }

pub invariant_of-self-2 : goal.invariant_of-self-2
invariant_of-self-2 c =
    let s = goes-on (goal.at.invariant_of-self-2 c).After-compute in
    record {
      sound = c.self.invariant.sound;
      goes = c.self.invariant.goes;
      near = c.self.invariant.near;
      here = strode-one c.self.inside.begin.state c.self.inside.events c.self.invariant.goes never c.self.inside.at
          c.compute.result s (λ none. omega arith);
      copies = c.self.invariant.copies;
    }

pub returns-clause-computes : goal.returns-clause-computes
returns-clause-computes c = λ yes.
    let s = goes-on (goal.at.returns-clause-computes c).After-compute in
    subst (λ (l : Line). computes (state_at l.start l.events l.at) ≡ true) c.self.view_is
    (s.computes (omega arith))
