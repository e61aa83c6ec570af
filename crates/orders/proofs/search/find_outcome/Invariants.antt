use Rattle.std.proofs.Common.{◌≡◌}
use Rattle.orders.proofs.search.find_outcome.Given as goal

abbrev pub invariant-loop-number : goal.invariant-loop-number
invariant-loop-number g l = record {
  start : g.W.Walker.start l.walker ≡ g.W.Walker.start l.fn.walker;
  other_start : g.W.Walker.start l.other ≡ g.W.Walker.start l.fn.other;
  reached : g.W.Walker.reached l.walker ≡ g.W.Walker.reached l.fn.walker;
}
