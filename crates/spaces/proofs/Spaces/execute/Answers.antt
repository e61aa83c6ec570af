use Rattle.spaces.proofs.Spaces.execute.Given as given
use Rattle.spaces.proofs.Spaces.execute.Goals as goal
use Rattle.spaces.proofs.Spaces.execute.Goals.{After-fence, After-space_at-space, After-step}
use Rattle.spaces.proofs.Stepped.{IsRun, Reopened, Steps, reopened, run-at, run-of, second, sound-stepped, step-done}
use Rattle.spaces.proofs.Stepped.{step-trap, trap-space}
use Rattle.spaces.proofs.Common.{ap, sym, ◌∙◌, marks_at, right_marks}
use Rattle.spaces.proofs.Shown.{anew}

steps : (g : given.Over) (c : After-step g)
    → Steps g.T.Translate.held c.self.inside c.step.new.trans c.step.new.self c.step.new.ram c.step.result
steps g c = let e = c.step.ensures in let whole =
    c.frames_are_whole.ensures
    in record { memory = whole.memory; small = whole.small; step = e.step; kept = e.kept; count = e.count }

run : (g : given.Over) (c : After-space_at-space g)
    → IsRun g.T.Translate.held c.self.inside c.in-Some.at c.space_at-space.result.now
run g c = run-at c.space_at-space.result.now c.self.invariant.spaces c.in-Some.is c.space_at-space.ensures

-- the fields after the fence
reopen : (g : given.Over) (c : After-fence g)
    → Reopened g.T.Translate.held c.self.inside
    (record c.self.inside {
      memory = c.open_page.new.memory;
      translator = c.fence.new.self;
      hart = c.step.new.self;
    }) c.in-Some.at c.space_at-space.result.now
reopen g c =
    let at = goal.at.After-fence g c in
    reopened (run g at.After-space_at-space) (steps g at.After-step) c.fence.new.self _ _ c.in-Some-step.trap
    c.in-Some-step.is c.open_page.ensures.opens.same c.fence.ensures

pub invariant_of-self : goal.invariant_of-self
invariant_of-self g c = record {
  spaces = anew _ (sound-stepped (run-of c.self.invariant.spaces c.in-Some.is).1
      (steps g (goal.at.invariant_of-self g c).After-step));
  known = c.forget.ensures _;
}

pub returns-in_default-step-clause-done : goal.returns-in_default-step-clause-done
returns-in_default-step-clause-done g c =
    rw (← c.self.view_is) (step-done (run-of c.self.invariant.spaces c.in-Some.is).1
    (steps g (goal.at.returns-in_default-step-clause-done g c).After-step) c.in_default-step.is)

pub closed_page-requires : goal.closed_page-requires
closed_page-requires g c =
    let at = goal.at.closed_page-requires g c in
    (trap-space (run g at.After-space_at-space) (steps g at.After-step) c.in-Some-step.trap c.in-Some-step.is).dense

pub invariant_of-self-in_default-closed_page : goal.invariant_of-self-in_default-closed_page
invariant_of-self-in_default-closed_page g c =
    let stepped = sound-stepped (run-of c.self.invariant.spaces c.in-Some.is).1
    (steps g (goal.at.invariant_of-self-in_default-closed_page g c).After-step) in
    record { spaces = anew _ stepped; known = c.forget.ensures _ }

pub returns-in_default-closed_page-clause-trap : goal.returns-in_default-closed_page-clause-trap
returns-in_default-closed_page-clause-trap g c =
    let at = goal.at.returns-in_default-closed_page-clause-trap g c in
    rw (← c.self.view_is) (step-trap (run g at.After-space_at-space) (steps g at.After-step) c.in-Some-step.trap
    c.in-Some-step.is c.in_default-closed_page.ensures.none)

pub open_page-requires-clause-space : goal.open_page-requires-clause-space
open_page-requires-clause-space g c =
    let at = goal.at.open_page-requires-clause-space g c in
    trap-space (run g at.After-space_at-space) (steps g at.After-step) c.in-Some-step.trap c.in-Some-step.is

pub invariant_of-self-2 : goal.invariant_of-self-2
invariant_of-self-2 g c =
    let e = c.step_again.ensures in
    let whole = c.frames_are_whole-2.ensures in
    let stepped = sound-stepped (reopen g (goal.at.invariant_of-self-2 g c).After-fence).run
    (record { memory = whole.memory; small = whole.small; step = e.step; kept = e.kept; count = e.count }) in
    record { spaces = anew _ stepped; known = c.forget.ensures _ }

pub returns : goal.returns
returns g c =
    let at = goal.at.returns g c in
    let x = c.space_at-space.result.now in
    let found = c.in-Some-closed_page.ensures.some in
    let made = ap (marks_at c.open_page.new.memory.ram x.root.0) (sym found.1) ∙ c.open_page.ensures.opens.marks in
    let e = c.step_again.ensures in
    let whole = c.frames_are_whole-2.ensures in
    let both = second c.in-Some-step.trap (right_marks (marks_at c.step.new.ram x.root.0 c.in-Some-closed_page.page))
    (run g at.After-space_at-space) (steps g at.After-step) c.in-Some-step.is found.0 (reopen g at.After-fence)
    made
    (record { memory = whole.memory; small = whole.small; step = e.step; kept = e.kept; count = e.count }) in
    record { done = rw (← c.self.view_is) both.0; trap = rw (← c.self.view_is) both.1 }
