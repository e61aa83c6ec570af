use Rattle.std.proofs.Common.{ap, arith, refl, ◌∙◌}
use Rattle.driver.proofs.Driving.{gives-run, ticks-end, ticks-halt, ticks-more}
use Rattle.driver.proofs.Walking.{far-none, far-through, far-up, lost}
use Rattle.driver.proofs.driver.Driver.tick.Goals as goal

pub loop-made-init : goal.loop-made-init
loop-made-init g c = record { far = far-none c.requires; within = omega arith; clock = refl; rest = refl }

pub each-requires : goal.each-requires
each-requires g c = rw c.write_out-count.ensures.machine (far-up c.loop-made.invariant.far)

pub returns-in_err-each-clause-given : goal.returns-in_err-each-clause-given
returns-in_err-each-clause-given g c =
    let w = c.write_out-count.ensures in
    let h = far-through c.loop-made.invariant.far w.machine (ap g.R.Record.kept w.keeper) w.kept w.later in
    rw (lost _ c.from_residual.ensures.1)
    (ticks-halt h c.loop-made.invariant.within (omega arith)
    (gives-run c.ticks.ensures.records c.in_err-each.ensures.gives c.in_err-each.ensures.later))

pub loop-made-preserved : goal.loop-made-preserved
loop-made-preserved g c =
    let w = c.write_out-count.ensures in
    let h = far-through c.loop-made.invariant.far w.machine (ap g.R.Record.kept w.keeper) w.kept w.later in
    record {
      far = ticks-more h c.loop-made.invariant.within (omega arith)
          (gives-run c.ticks.ensures.records c.in_ok-each.ensures.gives c.in_ok-each.ensures.later);
      within = omega arith;
      clock = w.clock ∙ c.loop-made.invariant.clock;
      rest = c.ticks.ensures.rest ∙ ap g.R.Record.rest w.keeper ∙ c.loop-made.invariant.rest;
    }

pub returns-in_err-each-clause-rest : goal.returns-in_err-each-clause-rest
returns-in_err-each-clause-rest g c =
    c.ticks.ensures.rest ∙ ap g.R.Record.rest c.write_out-count.ensures.keeper ∙ c.loop-made.invariant.rest

pub returns-clause-rest : goal.returns-clause-rest
returns-clause-rest g c = c.loop-made.invariant.rest

pub returns-clause-given : goal.returns-clause-given
returns-clause-given g c =
    ticks-end c.loop-made.invariant.far c.loop-made.invariant.within c.loop-made-test.false c.loop-made.invariant.clock
