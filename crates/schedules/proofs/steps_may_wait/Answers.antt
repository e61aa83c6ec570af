use Rattle.schedules.proofs.steps_may_wait.Goals as goal
use Rattle.schedules.proofs.Computing.{steps-may-wait}

pub returns : goal.returns
returns c = steps-may-wait
