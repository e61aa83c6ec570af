use Rattle.std.proofs.Common.{ap, arith, sym, subst, ◌∙◌, ◌+◌}
use Rattle.std.specs.Prelude.{is_some}
use Rattle.stretches.specs.Stretches.{IsAhead}
use Rattle.timeline.proofs.GoingOn.{is-at-on, not-true}
use Rattle.timeline.specs.Inside.{IsAt}
use Rattle.timeline.specs.Line.{Line}
use Rattle.unixmodel.specs.State.{State}
use Rattle.timeline.proofs.timeline.Timeline.go_by_one.Goals as goal

pub invariant_of-self : goal.invariant_of-self
invariant_of-self c = record {
  sound = c.self.invariant.sound;
  goes = c.self.invariant.goes;
  near = c.self.invariant.near;
  here = is-at-on c.self.inside.begin.state c.self.inside.events c.self.invariant.goes c.self.inside.at 1 1
      c.args.event c.self.invariant.here
      (subst (λ (l : Line). IsAhead l.events l.at (c.args.event, 1)) (sym c.self.view_is) c.requires) (omega arith)
      c.give.ensures.sound c.give.ensures.state;
  copies = c.self.invariant.copies;
}

pub returns-clause-over : goal.returns-clause-over
returns-clause-over c = λ yes.
    let here : IsAt c.self.inside.begin.state c.self.inside.events (c.self.inside.at + 1) c.give.new.machine =
    is-at-on c.self.inside.begin.state c.self.inside.events c.self.invariant.goes c.self.inside.at 1 1 c.args.event
    c.self.invariant.here
    (subst (λ (l : Line). IsAhead l.events l.at (c.args.event, 1)) (sym c.self.view_is) c.requires) (omega arith)
    c.give.ensures.sound c.give.ensures.state in
    sym (ap (λ (s : State). is_some s.halted) here.state) ∙ c.give.ensures.over (not-true c.give.result yes)
