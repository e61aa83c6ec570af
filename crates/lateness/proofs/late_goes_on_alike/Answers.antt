use Rattle.lateness.proofs.Laws.{event-late, run-late}
use Rattle.lateness.proofs.late_goes_on_alike.Goals as goal

pub returns-clause-event : goal.returns-clause-event
returns-clause-event c = event-late

pub returns-clause-run : goal.returns-clause-run
returns-clause-run c = run-late
