use Rattle.gdbwire.proofs.Sent.{bytes-read, number-read}
use Rattle.gdbwire.proofs.laws.digits_are_read.Goals as goal

pub returns : goal.returns
returns c = record { numbers = number-read; bytes = bytes-read }
