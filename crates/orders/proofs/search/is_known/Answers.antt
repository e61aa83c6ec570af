use Rattle.std.proofs.Common.{arith, ◌≡◌, ◌<◌, get_or, length}
use Rattle.orders.proofs.Lists.{one-at}
use Rattle.orders.proofs.search.is_known.Goals as goal
use Rattle.orders.specs.Looked.{IsLikeAt}

pub returns-then-branch-clause-known : goal.returns-then-branch-clause-known
returns-then-branch-clause-known g c = λ yes.
    let within : c.in-Some.last < length c.args.seen.now.paths.items = omega (arith, c.in-Some-get.ensures.lookup) in
    let at : c.in-Some-get.earlier.now ≡ get_or c.args.seen.now.paths.items c.in-Some.last c.in-Some-get.earlier.now =
    rw (← c.deref.ensures.value) (assumption c.in-Some-get.ensures.lookup) in
    rw (← c.entry.invariant.start)
    (one-at (IsLikeAt _ c.args.path.now) c.args.seen.now.paths.items c.in-Some.last c.in-Some-get.earlier.now within at
    (c.in_ok-is_like_at.ensures.known c.if-branch.true))
