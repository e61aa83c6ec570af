use Rattle.std.proofs.Common.{refl, ◌∙◌}
use Rattle.driver.proofs.Driving.{gives-run, keys-end, keys-halt, keys-more}
use Rattle.driver.proofs.Walking.{far-none, far-up, lost}
use Rattle.driver.proofs.driver.Driver.press.Goals as goal

pub loop-key-init : goal.loop-key-init
loop-key-init g c = record { far = far-none c.requires; clock = refl; rest = refl }

pub once-requires : goal.once-requires
once-requires g c = far-up c.loop-key.invariant.far

pub returns-in_err-once-clause-given : goal.returns-in_err-once-clause-given
returns-in_err-once-clause-given g c =
    rw (lost _ c.from_residual.ensures.1)
    (keys-halt _ _ c.loop-key-test.true c.loop-key.invariant.far
    (gives-run c.keys.ensures.records c.in_err-once.ensures.gives c.in_err-once.ensures.later))

pub loop-key-preserved : goal.loop-key-preserved
loop-key-preserved g c = record {
  far = keys-more _ _ c.loop-key-test.true c.loop-key.invariant.far
      (gives-run c.keys.ensures.records c.in_ok-once.ensures.gives c.in_ok-once.ensures.later);
  clock = c.loop-key.invariant.clock;
  rest = c.keys.ensures.rest ∙ c.loop-key.invariant.rest;
}

pub returns-in_err-once-clause-rest : goal.returns-in_err-once-clause-rest
returns-in_err-once-clause-rest g c = c.keys.ensures.rest ∙ c.loop-key.invariant.rest

pub returns-clause-rest : goal.returns-clause-rest
returns-clause-rest g c = c.loop-key.invariant.rest

pub returns-clause-given : goal.returns-clause-given
returns-clause-given g c = keys-end _ _ c.loop-key.invariant.far c.loop-key-test.false c.loop-key.invariant.clock
