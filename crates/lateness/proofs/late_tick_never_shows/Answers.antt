use Rattle.lateness.proofs.Laws.{late-tick, late-tick-hides}
use Rattle.lateness.proofs.late_tick_never_shows.Goals as goal

pub returns-clause-tick : goal.returns-clause-tick
returns-clause-tick c = late-tick

pub returns-clause-shows : goal.returns-clause-shows
returns-clause-shows c = late-tick-hides
