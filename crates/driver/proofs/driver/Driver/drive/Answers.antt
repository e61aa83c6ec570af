use Rattle.driver.proofs.Driving.{driving-begins, driving-ends, driving-halts, driving-more, driving-up}
use Rattle.driver.proofs.Walking.{lost}
use Rattle.driver.proofs.driver.Driver.drive.Goals as goal

pub loop-self-init : goal.loop-self-init
loop-self-init g c = driving-begins c.requires

pub returns-in-End : goal.returns-in-End
returns-in-End g c = driving-ends c.loop-self.invariant c.next-wanted.ensures.asks c.in-End.is

pub serve-requires-clause-up : goal.serve-requires-clause-up
serve-requires-clause-up g c = driving-up c.loop-self.invariant

pub serve-requires-clause-more : goal.serve-requires-clause-more
serve-requires-clause-more g c = c.in_default.not-End

pub returns-in_err-walked : goal.returns-in_err-walked
returns-in_err-walked g c =
    rw (lost _ c.from_residual.ensures.1)
    (driving-halts c.loop-self.invariant c.next-wanted.ensures.asks c.in_err-walked.ensures)

pub loop-self-preserved : goal.loop-self-preserved
loop-self-preserved g c = driving-more c.loop-self.invariant c.next-wanted.ensures.asks c.in_ok-walked.ensures
