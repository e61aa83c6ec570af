use Rattle.calls.proofs.Common.{here-of}
use Rattle.calls.proofs.Acts.{getpids}
use Rattle.calls.proofs.process_calls.getpid.Goals as goal

pub returns : goal.returns
returns g c = getpids (here-of c.requires) c.from.result (rw c.from.ensures c.pid.ensures)
