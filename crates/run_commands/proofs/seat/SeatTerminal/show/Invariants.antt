use Rattle.std.proofs.Common.{◌≡◌}
use Rattle.run_commands.proofs.seat.SeatTerminal.show.Given as goal

abbrev pub invariant-loop-shown : goal.invariant-loop-shown
invariant-loop-shown g l = l.self.scribe ≡ l.fn.self.scribe
