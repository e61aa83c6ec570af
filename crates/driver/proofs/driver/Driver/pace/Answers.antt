use Rattle.std.proofs.Common.{◌∙◌}
use Rattle.driver.proofs.Driving.{gives-run}
use Rattle.driver.proofs.Walking.{done-up, lost, pace-halts, pace-plain, pace-struck}
use Rattle.driver.proofs.driver.Driver.pace.Goals as goal

pub once-requires-then-is_due : goal.once-requires-then-is_due
once-requires-then-is_due g c = done-up c.in_ok-once.ensures.gives.1

pub returns-in_err-once-clause-goes : goal.returns-in_err-once-clause-goes
returns-in_err-once-clause-goes g c =
    rw (lost _ c.from_residual.ensures.1)
    (pace-halts (gives-run c.steps.ensures.records c.in_err-once.ensures.gives c.in_err-once.ensures.later))

pub returns-then-is_due-clause-goes : goal.returns-then-is_due-clause-goes
returns-then-is_due-clause-goes g c =
    pace-struck {mid = c.once.new.machine} {between = c.once.new.out} {keeps = g.R.Record.kept c.steps.new.self}
    (rw c.strikes-is_due.ensures.strikes at c.if-is_due.true) c.strikes-is_due.ensures.passed
    (gives-run c.steps.ensures.records c.in_ok-once.ensures.gives c.in_ok-once.ensures.later)
    (gives-run c.ticks.ensures.records c.once-then-is_due.ensures.gives c.once-then-is_due.ensures.later)

pub returns-clause-goes : goal.returns-clause-goes
returns-clause-goes g c =
    pace-plain (rw c.strikes-is_due.ensures.strikes at c.if-is_due.false) c.strikes-is_due.ensures.passed
    (gives-run c.steps.ensures.records c.in_ok-once.ensures.gives c.in_ok-once.ensures.later)

pub returns-then-is_due-clause-rest : goal.returns-then-is_due-clause-rest
returns-then-is_due-clause-rest g c = c.ticks.ensures.rest ∙ c.steps.ensures.rest
