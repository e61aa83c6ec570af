use Rattle.calls.proofs.Transfers.{begun-acts}
use Rattle.calls.proofs.transfer_calls.read.Goals as goal

pub returns-in-Ok : goal.returns-in-Ok
returns-in-Ok g c = begun-acts c.in-Ok.ensures.begins _ c.read_from.result c.read_from.ensures
