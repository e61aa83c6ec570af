use Rattle.gdbwire.proofs.Sent.{packets-read}
use Rattle.gdbwire.proofs.laws.packets_are_read.Goals as goal

pub returns : goal.returns
returns c = packets-read
