use Rattle.std.proofs.Common.{◌≡◌, Some, drop}
use Rattle.gdbwire.specs.Hex.{number_from}
use Rattle.gdbwire.proofs.hex.number.Given as goal

abbrev pub invariant-loop-code : goal.invariant-loop-code
invariant-loop-code l = number_from (Some l.value) (drop l.code-index l.digits) ≡ number_from (Some 0) l.digits
