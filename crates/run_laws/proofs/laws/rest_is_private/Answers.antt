use Rattle.run_laws.proofs.Events.{event-rests}
use Rattle.run_laws.proofs.Passing.{run-stays}
use Rattle.run_laws.proofs.laws.rest_is_private.Goals as goal

pub returns : goal.returns
returns c = record { event = event-rests; run = run-stays }
