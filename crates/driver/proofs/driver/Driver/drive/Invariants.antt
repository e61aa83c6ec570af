use Rattle.driver.proofs.Driving.{IsDriving}
use Rattle.driver.proofs.driver.Driver.drive.Given as goal

-- what was wanted so far is given
abbrev pub invariant-loop-self : goal.invariant-loop-self
invariant-loop-self g l =
    IsDriving g.S.Source.wants l.fn.source l.source l.walked l.fn.self.machine l.self.machine l.fn.self.out l.self.out
    (g.R.Record.kept l.fn.self.keeper) (g.R.Record.kept l.self.keeper) l.fn.self.clock l.self.clock

abbrev pub decreases-loop-self : goal.decreases-loop-self
decreases-loop-self g l = g.S.Source.left l.source
