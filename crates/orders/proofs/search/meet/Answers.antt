use Rattle.std.proofs.Common.{inr}
use Rattle.orders.proofs.Moves.{going-missed, going-settled}
use Rattle.orders.proofs.Opening.{known-leads}
use Rattle.orders.proofs.search.meet.Goals as goal
use Rattle.orders.specs.Looked.{IsKnownAt}

-- the state is known
pub returns-then-branch-clause-going : goal.returns-then-branch-clause-going
returns-then-branch-clause-going g c =
    let s = g.W.Walker.start c.args.walker.now in
    let known : IsKnownAt s c.args.search.now.seen.paths.items c.args.path =
    rw (← c.in_ok-digest.ensures.start) (c.in_ok-is_known.ensures.known c.if-branch.true) in
    let going = c.requires.going in
    going-settled c.args.task.bounds c.args.task.keys.now s c.requires.up c.args.path
    c.args.search.now.seen.paths.items c.args.search.now.todo.items c.args.search.now.told.items
    c.args.search.now.missed going c.args.search.now.told.items (λ a on. on)
    (inr (known-leads c.args.task.keys.now s c.args.path c.args.search.now.seen.paths.items going.ways.0.counted
    going.counted known))
    going.sound

-- there are as many states as may be looked at
pub returns-then-len-task-clause-going : goal.returns-then-len-task-clause-going
returns-then-len-task-clause-going g c =
    going-missed c.args.task.bounds c.args.task.keys.now (g.W.Walker.start c.args.walker.now) c.requires.up
    c.args.path c.args.search.now.seen.paths.items c.args.search.now.todo.items
    c.args.search.now.told.items c.args.search.now.missed c.requires.going
