use Rattle.std.proofs.Common.{true, ◌≡◌}
use Rattle.orders.proofs.Moves.{going-begun}
use Rattle.orders.proofs.Reducing.{all-told, all-tried}
use Rattle.orders.proofs.Short.{all-short}
use Rattle.orders.proofs.search.find_outcomes.Given.{Over}
use Rattle.orders.proofs.search.find_outcomes.Goals as goal
use Rattle.orders.proofs.search.find_outcomes.Goals.{else-path-test, then-path-test+else-not-goes_on+in_default}
use Rattle.orders.proofs.search.find_outcomes.Goals.{then-path-test+then-not-goes_on}
use Rattle.orders.specs.Looked.{IsGoing}
use Rattle.orders.specs.Missed.{is_ticks_alone}
use Rattle.orders.specs.Told.{IsCompleteAsTried}

pub path-init : goal.path-init
path-init g c = record {
  start = c.in_ok-begin.ensures.start;
  other_start = c.requires;
  going = rw (c.in_ok-push_back.ensures.items, c.new-2.ensures, c.new-3.ensures.items, c.new.ensures.items)
      (going-begun c.args.task.bounds c.args.task.keys.now _ c.new-4.result c.nothing.result c.new-4.ensures.events
      c.new-4.ensures.busy);
}

going : (g : Over) (c : goal.After-drop-search-2 g)
    → IsGoing c.args.task.bounds c.args.task.keys.now (g.W.Walker.start c.args.walker.now)
    c.path-test.search.seen.paths.items c.path-test.search.todo.items c.path-test.search.told.items
    c.path-test.search.missed
going g c = elim c.path-test.branch [
  | else-path-test w ↦ rw w.search-is c.path.invariant.going
  | then-path-test+then-not-goes_on w ↦ rw w.search-is c.path.invariant.going
  | then-path-test+else-not-goes_on+in_default w ↦
      rw (w.search-is, ← w.in_default.ensures.items) c.path.invariant.going
]

tried : (g : Over) (c : goal.After-drop-search-2 g) → is_ticks_alone c.with_rest-missed.result ≡ true
    → IsCompleteAsTried c.args.task.bounds c.with_rest-missed.result c.args.task.keys.now
    (g.W.Walker.start c.args.walker.now) c.path-test.search.told.items
tried g c alone =
    all-tried c.args.task.bounds c.args.task.keys.now (g.W.Walker.start c.args.walker.now) _ _ _ _ _
    c.alike_up_to_numbers_goes_on_alike.ensures.event
    c.idle_tick_changes_nothing.ensures.idle c.interrupts_before_calls_suffice.ensures.within
    c.in_ok-begin.ensures.up c.in_ok-begin.ensures.clock c.in_ok-begin.ensures.names (going g c)
    (c.with_rest-missed.ensures.none alone) (c.with_rest-missed.ensures.missed alone) alone

pub returns-clause-tried : goal.returns-clause-tried
returns-clause-tried g c = tried g c

pub returns-clause-complete : goal.returns-clause-complete
returns-clause-complete g c = all-told c.args.task.bounds c.args.task.keys.now _ _ c.with_rest-missed.result (tried g c)

pub returns-clause-short : goal.returns-clause-short
returns-clause-short g c =
    all-short c.args.task.bounds c.args.task.keys.now (g.W.Walker.start c.args.walker.now) _ _ _ _
    c.with_rest-missed.result
    c.alike_up_to_numbers_goes_on_alike.ensures.event
    c.idle_tick_changes_nothing.ensures.idle c.interrupts_before_calls_suffice.ensures.within
    c.in_ok-begin.ensures.up c.in_ok-begin.ensures.clock c.in_ok-begin.ensures.names
    c.late_goes_on_alike.ensures.event c.late_tick_never_shows.ensures.tick (going g c)
    c.with_rest-missed.ensures.none c.with_rest-missed.ensures.missed
