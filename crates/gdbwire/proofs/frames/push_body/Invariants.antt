use Rattle.std.proofs.Common.{◌≡◌, ◌++◌, take}
use Rattle.gdbwire.specs.Frames.{checksum, sent}
use Rattle.gdbwire.proofs.frames.push_body.Given as goal

abbrev pub invariant-loop-byte : goal.invariant-loop-byte
invariant-loop-byte l = (l.out.items ≡ l.fn.out.items ++ sent (take l.byte-index l.body))
    × (l.total ≡ checksum (sent (take l.byte-index l.body)))
