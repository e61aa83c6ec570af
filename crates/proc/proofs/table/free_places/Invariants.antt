use Rattle.std.proofs.Common.{None, Option, replicate, ◌≡◌}
use Rattle.proc.proofs.Common.{Process}
use Rattle.proc.proofs.table.free_places.Given as goal

abbrev pub invariant-loop : goal.invariant-loop
invariant-loop l = l.places.items ≡ replicate {A = Option Process} l.counter None
