use Rattle.std.proofs.Common.{◌∙◌}
use Rattle.driver.proofs.Driving.{served-up}
use Rattle.driver.proofs.Sitting.{all-ends, all-keys, all-then}
use Rattle.driver.proofs.Walking.{lost}
use Rattle.driver.proofs.driver.Driver.answer.Goals as goal

pub tick_if-requires-clause-up : goal.tick_if-requires-clause-up
tick_if-requires-clause-up g c = served-up c.in_ok-press.ensures.given

pub tick_if-requires-clause-off : goal.tick_if-requires-clause-off
tick_if-requires-clause-off g c = (all-keys c.requires.off c.in_ok-press.ensures.given).off

pub returns-in_err-press-clause-given : goal.returns-in_err-press-clause-given
returns-in_err-press-clause-given g c =
    rw (lost _ c.from_residual.ensures.1, ← c.keys.ensures)
    (all-ends _ (all-keys c.requires.off c.in_err-press.ensures.given))

pub returns-in_err-press-clause-gives : goal.returns-in_err-press-clause-gives
returns-in_err-press-clause-gives g c = g.met.R.Terminal.is_beside _ _ c.press.ensures.rest

pub returns-clause-given : goal.returns-clause-given
returns-clause-given g c =
    rw (← c.keys.ensures, ← c.ticks.ensures)
    (all-then (all-keys c.requires.off c.in_ok-press.ensures.given) c.tick_if.ensures.given)

pub returns-clause-gives : goal.returns-clause-gives
returns-clause-gives g c = c.tick_if.ensures.gives ∙ g.met.R.Terminal.is_beside _ _ c.press.ensures.rest
