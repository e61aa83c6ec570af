use Rattle.driver.proofs.Driving.{line-halts, line-then, served-up}
use Rattle.driver.proofs.Walking.{lost}
use Rattle.driver.proofs.driver.Driver.press_line.Goals as goal

pub press-requires-2 : goal.press-requires-2
press-requires-2 g c = served-up c.in_ok-press.ensures.given

pub returns-in_err-press : goal.returns-in_err-press
returns-in_err-press g c = rw (lost _ c.from_residual.ensures.1) (line-halts c.in_err-press.ensures.given)

pub returns : goal.returns
returns g c = line-then c.in_ok-press.ensures.given c.press-2.ensures.given
