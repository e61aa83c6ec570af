use Rattle.schedules.proofs.tick_passes.Goals as goal
use Rattle.schedules.proofs.Steps.{tick-passes, tick-passes-all}

pub returns-clause-one : goal.returns-clause-one
returns-clause-one c = tick-passes

pub returns-clause-many : goal.returns-clause-many
returns-clause-many c = tick-passes-all
