use Rattle.std.proofs.Common.{◌≡◌, ◌++◌, take}
use Rattle.gdbwire.specs.Hex.{hex_bytes}
use Rattle.gdbwire.proofs.hex.push_bytes.Given as goal

abbrev pub invariant-loop-byte : goal.invariant-loop-byte
invariant-loop-byte l = l.out.items ≡ l.fn.out.items ++ hex_bytes (take l.byte-index l.bytes)
