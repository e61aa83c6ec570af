use Rattle.schedules.proofs.idle_tick_changes_nothing.Goals as goal
use Rattle.schedules.proofs.Ticks.{idle-tick-alike, tick-back-alike}

pub returns-clause-idle : goal.returns-clause-idle
returns-clause-idle c = idle-tick-alike

pub returns-clause-back : goal.returns-clause-back
returns-clause-back c = tick-back-alike
