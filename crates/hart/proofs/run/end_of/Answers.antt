use Rattle.hart.proofs.Common.{arith}
use Rattle.hart.proofs.Stopping.{free-clear}
use Rattle.hart.proofs.run.end_of.Goals as goal

pub returns-clause-clear : goal.returns-clause-clear
returns-clause-clear g c = λ base free.
    free-clear _ _ c.requires.free.0 (omega (arith, c.first_of.ensures.end)) (c.free_to.ensures.free base free)
