use Rattle.std.proofs.Common.{◌≡◌}
use Rattle.run_commands.proofs.naming.take_beside.Given as goal

abbrev pub invariant-loop-program : goal.invariant-loop-program
invariant-loop-program g l = g.H.Host.files l.host ≡ g.H.Host.files l.fn.host
