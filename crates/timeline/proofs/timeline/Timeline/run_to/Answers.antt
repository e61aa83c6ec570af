use Rattle.std.proofs.Common.{ap, arith, length, refl, sym, subst, ◌+◌}
use Rattle.stretches.specs.Stretches.{IsAhead}
use Rattle.timeline.proofs.GoingOn.{Strode, strode}
use Rattle.timeline.specs.Inside.{IsAt}
use Rattle.timeline.specs.Line.{IsStride, Line, StopsOnlyAt, state_at}
use Rattle.unixmodel.specs.declared.event.Event.TheVariants.{Step}
use Rattle.timeline.proofs.timeline.Timeline.run_to.Given as given
use Rattle.timeline.proofs.timeline.Timeline.run_to.Goals.{After-compute}
use Rattle.timeline.proofs.timeline.Timeline.run_to.Goals as goal

-- the instructions that were computed are the next of the line
goes-on : (g : given.Over) (c : After-compute g) → Strode c.self.inside.begin.state c.self.inside.events
    c.self.invariant.goes (g.W.Wanted.stops c.args.wanted.now) c.self.inside.at c.compute.result c.args.times
    c.compute.new.self
goes-on g c =
    strode c.self.inside.begin.state c.self.inside.events c.self.invariant.goes (g.W.Wanted.stops c.args.wanted.now)
    c.self.inside.at c.compute.result c.args.times c.args.addresses.now
    (subst (λ (l : Line). StopsOnlyAt (g.W.Wanted.stops c.args.wanted.now) (state_at l.start l.events l.at)
    c.args.addresses.now) (sym c.self.view_is) c.requires.only) c.self.invariant.here
    (subst (λ (l : Line). IsAhead l.events l.at (Step, c.args.times)) (sym c.self.view_is) c.requires.ahead)
    c.compute.ensures.computes c.compute.ensures.stopped c.compute.ensures.same

pub overflow_add-self : goal.overflow_add-self
overflow_add-self g c =
    let s = goes-on g (goal.at.overflow_add-self g c).After-compute in
    let few = s.within in
    let whole = c.requires.ahead.within in
    let at = ap (λ (l : Line). l.at) c.self.view_is in
    let events = ap (λ (l : Line). length l.events) c.self.view_is in
    let all = c.count-total.ensures in
    let some = c.from.ensures in
    omega (arith, few, whole, at, events, all, some)

pub invariant_of-self : goal.invariant_of-self
invariant_of-self g c =
    let s = goes-on g (goal.at.invariant_of-self g c).After-compute in
    record {
      sound = c.self.invariant.sound;
      goes = c.self.invariant.goes;
      near = c.self.invariant.near;
      here = subst (λ n. IsAt c.self.inside.begin.state c.self.inside.events (c.self.inside.at + n)
          c.compute.new.self) (sym c.from.ensures) s.here;
      copies = c.self.invariant.copies;
    }

pub returns : goal.returns
returns g c =
    let s = goes-on g (goal.at.returns g c).After-compute in
    let some = c.from.ensures in
    let few = s.within in
    subst (λ (l : Line). IsStride (g.W.Wanted.stops c.args.wanted.now) l
    (record {
      start = c.self.inside.begin.state;
      events = c.self.inside.events;
      at = c.self.inside.at + c.from.result;
    }) c.args.times) c.self.view_is
    (record {
      same = refl;
      later = omega arith;
      within = omega (arith, some, few);
      between = λ j past before. s.between j past (omega (arith, some, before));
    })
