use Rattle.run_laws.proofs.Passing.{run-last, start-last, start_flat-last}
use Rattle.run_laws.proofs.laws.last_is_a_place.Goals as goal

pub returns : goal.returns
returns c = record { starts = start-last; starts_flat = start_flat-last; stays = run-last }
