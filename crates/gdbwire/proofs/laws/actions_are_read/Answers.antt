use Rattle.gdbwire.proofs.Sent.{actions-read}
use Rattle.gdbwire.proofs.laws.actions_are_read.Goals as goal

pub returns : goal.returns
returns c = actions-read
