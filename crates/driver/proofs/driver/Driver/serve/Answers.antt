use Rattle.driver.proofs.Driving.{keys-serve, line-serves, serves-clock, serves-flush, serves-nothing, tick-serves}
use Rattle.driver.proofs.Driving.{walk-serves}
use Rattle.driver.proofs.driver.Driver.serve.Goals as goal

pub returns-in-Steps : goal.returns-in-Steps
returns-in-Steps g c = rw c.in-Steps.is (walk-serves c.aim.ensures c.walk.ensures.given)

pub returns-in-Ticks : goal.returns-in-Ticks
returns-in-Ticks g c = rw c.in-Ticks.is (tick-serves c.tick.ensures.given)

pub returns-in-Keys : goal.returns-in-Keys
returns-in-Keys g c = rw c.in-Keys.is (keys-serve c.keys.ensures c.press.ensures.given)

pub returns-in-Line : goal.returns-in-Line
returns-in-Line g c = rw c.in-Line.is (line-serves c.keys-in-Line.ensures c.press_line.ensures)

pub returns-in-Set : goal.returns-in-Set
returns-in-Set g c = rw c.in-Set.is (serves-clock c.requires.up)

pub returns-in-WriteOut : goal.returns-in-WriteOut
returns-in-WriteOut g c =
    rw c.in-WriteOut.is (serves-flush c.requires.up c.flush.ensures.kept c.flush.ensures.later)

pub returns-in-Nothing : goal.returns-in-Nothing
returns-in-Nothing g c = rw c.in-Nothing.is (serves-nothing c.requires.up)

pub returns-in-End : goal.returns-in-End
returns-in-End g c = absurd (c.requires.more c.in-End.is)
