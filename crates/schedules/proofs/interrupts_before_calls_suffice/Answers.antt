use Rattle.schedules.proofs.interrupts_before_calls_suffice.Goals as goal
use Rattle.schedules.proofs.Coarse.{ticks-suffice, ticks-within}

pub returns-clause-whole : goal.returns-clause-whole
returns-clause-whole c = ticks-suffice

pub returns-clause-within : goal.returns-clause-within
returns-clause-within c = ticks-within
