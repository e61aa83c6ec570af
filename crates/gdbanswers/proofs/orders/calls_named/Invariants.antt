use Rattle.std.specs.List.{All}
use Rattle.gdbanswers.proofs.orders.calls_named.Given as goal
use Rattle.gdbanswers.specs.Calls.{IsCall}

abbrev pub invariant-number : goal.invariant-number
invariant-number l = All IsCall l.calls.items
