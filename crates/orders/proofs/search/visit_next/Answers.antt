use Rattle.orders.proofs.Moves.{going-turned}
use Rattle.orders.proofs.search.visit_next.Goals as goal

pub visit-requires-clause-going : goal.visit-requires-clause-going
visit-requires-clause-going g c = rw c.in_ok-there.ensures.start
    (going-turned c.args.task.bounds c.args.task.keys.now (g.W.Walker.start c.args.walker.now) c.requires.up c.args.path
    c.args.search.now.seen.paths.items c.args.search.now.todo.items c.args.search.now.told.items
    c.args.search.now.missed c.requires.going c.in_ok-there.there c.in_ok-there.ensures.taken)
