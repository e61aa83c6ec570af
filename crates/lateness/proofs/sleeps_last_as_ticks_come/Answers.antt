use Rattle.lateness.proofs.Lasting.{event-sleeps, run-sleeps}
use Rattle.lateness.proofs.sleeps_last_as_ticks_come.Goals as goal

pub returns-clause-event : goal.returns-clause-event
returns-clause-event c = event-sleeps

pub returns-clause-run : goal.returns-clause-run
returns-clause-run c = run-sleeps
