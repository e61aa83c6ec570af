use Rattle.std.proofs.Common.{◌≡◌, ◌++◌, take}
use Rattle.events.specs.Rows.{bytes_text}
use Rattle.events.proofs.row.put_bytes.Given as goal

abbrev pub invariant-loop-byte : goal.invariant-loop-byte
invariant-loop-byte l = l.text.bytes.items ≡ l.fn.text.bytes.items ++ bytes_text (take l.byte-index l.bytes)
