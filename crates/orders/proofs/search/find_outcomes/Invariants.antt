use Rattle.std.proofs.Common.{◌≡◌}
use Rattle.orders.specs.Looked.{IsGoing}
use Rattle.orders.proofs.search.find_outcomes.Given as goal

-- the outcomes so far are sound, and where no state was left out all is cared for
abbrev pub invariant-path : goal.invariant-path
invariant-path g l = record {
  start : g.W.Walker.start l.walker ≡ g.W.Walker.start l.fn.walker;
  other_start : g.W.Walker.start l.other ≡ g.W.Walker.start l.fn.walker;
  going : IsGoing l.task.bounds l.task.keys.now (g.W.Walker.start l.fn.walker) l.search.seen.paths.items
      l.search.todo.items l.search.told.items l.search.missed;
}
