use Rattle.std.proofs.Common.{◌≡◌, ◌+◌, drop}
use Rattle.std.specs.List.{prefix_len}
use Rattle.gdbwire.proofs.Cuts.{other}
use Rattle.gdbwire.proofs.packets.cut.Given as goal

abbrev pub invariant-loop-index : goal.invariant-loop-index
invariant-loop-index l = prefix_len (other l.at) l.text ≡ l.index + prefix_len (other l.at) (drop l.index l.text)
