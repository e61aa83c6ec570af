use Rattle.std.proofs.Common.{◌≡◌}
use Rattle.orders.proofs.search.is_known.Given as goal

abbrev pub invariant-entry : goal.invariant-entry
invariant-entry g l = record {
  start : g.W.Walker.start l.walker ≡ g.W.Walker.start l.fn.walker;
  other_start : g.W.Walker.start l.other ≡ g.W.Walker.start l.fn.other;
  reached : g.W.Walker.reached l.walker ≡ g.W.Walker.reached l.fn.walker;
}
