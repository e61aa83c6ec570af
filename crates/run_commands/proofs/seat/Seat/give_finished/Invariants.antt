use Rattle.std.proofs.Common.{◌≡◌}
use Rattle.run_commands.proofs.seat.Seat.give_finished.Given as goal

abbrev pub invariant-loop-key : goal.invariant-loop-key
invariant-loop-key g l = l.self.scribe ≡ l.fn.self.scribe
