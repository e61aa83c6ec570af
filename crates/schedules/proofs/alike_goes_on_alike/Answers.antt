use Rattle.schedules.proofs.alike_goes_on_alike.Goals as goal
use Rattle.schedules.proofs.Alike.{event-alike, run-alike}

pub returns-clause-event : goal.returns-clause-event
returns-clause-event c = event-alike

pub returns-clause-run : goal.returns-clause-run
returns-clause-run c = run-alike
