use Rattle.calls.proofs.Common.{here-of}
use Rattle.calls.proofs.Acts.{sleeps}
use Rattle.calls.proofs.process_calls.sleep.Goals as goal

pub returns : goal.returns
returns g c = sleeps (here-of c.requires) (rw (← c.pending.ensures) c.sleep_on.ensures)
