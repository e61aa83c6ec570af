use Rattle.renumbering.proofs.alike_up_to_numbers_goes_on_alike.Goals as goal
use Rattle.renumbering.proofs.Clocks.{event-numbers-alike, run-numbers-alike}

pub returns-clause-event : goal.returns-clause-event
returns-clause-event c = event-numbers-alike

pub returns-clause-run : goal.returns-clause-run
returns-clause-run c = run-numbers-alike
