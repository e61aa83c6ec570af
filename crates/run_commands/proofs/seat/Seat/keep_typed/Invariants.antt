use Rattle.std.proofs.Common.{◌≡◌}
use Rattle.run_commands.proofs.seat.Seat.keep_typed.Given as goal

abbrev pub invariant-loop-byte : goal.invariant-loop-byte
invariant-loop-byte g l = l.self.scribe ≡ l.fn.self.scribe
