use Rattle.machine.proofs.RunLemmas.{step-runs}
use Rattle.driver.proofs.strides.once.Goals as goal

pub returns-clause-gives : goal.returns-clause-gives
returns-clause-gives g c = step-runs _ _ c.args.event _ _ _ c.give.result c.give.ensures.gives
