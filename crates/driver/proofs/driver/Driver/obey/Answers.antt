use Rattle.std.proofs.Common.{◌∙◌}
use Rattle.driver.proofs.Sitting.{all-far, all-moved, moved-ends}
use Rattle.driver.proofs.Walking.{far-up, lost}
use Rattle.driver.proofs.driver.Driver.obey.Goals as goal

pub answer-requires-clause-up : goal.answer-requires-clause-up
answer-requires-clause-up g c = rw c.show_if.ensures.machine c.requires.up

pub answer-requires-clause-off : goal.answer-requires-clause-off
answer-requires-clause-off g c = c.show_if.ensures.clock ∙ c.requires.off

pub work-requires-clause-up : goal.work-requires-clause-up
work-requires-clause-up g c = far-up (all-far c.in_ok-answer.ensures.given)

pub work-requires-clause-off : goal.work-requires-clause-off
work-requires-clause-off g c = c.in_ok-answer.ensures.given.off

pub returns-in_err-answer-clause-given : goal.returns-in_err-answer-clause-given
returns-in_err-answer-clause-given g c =
    let s = c.show_if.ensures in
    rw (lost _ c.from_residual.ensures.1)
    (moved-ends c.args.quantum c.args.given.now
    (rw (c.mood-mood.ensures, s.machine, s.out, s.kept) at c.in_err-answer.ensures.given))

pub returns-in_err-answer-clause-gives : goal.returns-in_err-answer-clause-gives
returns-in_err-answer-clause-gives g c = c.answer.ensures.gives ∙ c.show_if.ensures.gives

pub returns-clause-given : goal.returns-clause-given
returns-clause-given g c =
    let s = c.show_if.ensures in
    all-moved c.args.quantum c.args.given.now c.requires.more
    (rw (c.mood-mood.ensures, s.machine, s.out, s.kept) at c.in_ok-answer.ensures.given) c.work.ensures.given

pub returns-clause-gives : goal.returns-clause-gives
returns-clause-gives g c = c.work.ensures.gives ∙ c.answer.ensures.gives ∙ c.show_if.ensures.gives
