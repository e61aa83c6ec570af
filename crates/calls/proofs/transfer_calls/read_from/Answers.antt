use Rattle.calls.proofs.transfer_calls.read_from.Goals as goal

pub read_console-requires : goal.read_console-requires
read_console-requires g c = (_, rw c.in-Console.is at c.requires.goes)

pub read_pipe-requires : goal.read_pipe-requires
read_pipe-requires g c = (_, rw c.in-Pipe.is at c.requires.goes)
