use Rattle.std.proofs.Common.{arith, subst, sym, true, false, ◌≡◌, ◌<◌, ◌≤◌, length, get_or}
use Rattle.orders.proofs.Opening.{key-busy, key-none, key-opened}
use Rattle.orders.proofs.search.open_key.Goals as goal
use Rattle.orders.specs.Free.{is_idle}
use Rattle.orders.specs.Paths.{events_of, typed_in}
use Rattle.unixmodel.specs.Calls.{After}
use Rattle.unixmodel.specs.Run.{run}

pub returns-then-not-is_idle : goal.returns-then-not-is_idle
returns-then-not-is_idle g c =
    key-busy c.args.keys.now _ c.args.todo.now.items c.args.path.now
    (subst (λ (a : After). is_idle a.state ≡ false) c.requires (sym c.if-not-is_idle.ensures))

pub returns-in_default : goal.returns-in_default
returns-in_default g c =
    let all : length c.args.keys.now ≤ typed_in c.args.path.now.pieces.items =
    rw (← c.typed.ensures) (omega (arith, c.in_default.ensures.lookup)) in
    key-none c.args.keys.now _ c.args.todo.now.items c.args.path.now all

pub returns : goal.returns
returns g c =
    let within : typed_in c.args.path.now.pieces.items < length c.args.keys.now =
    rw (← c.typed.ensures) (omega (arith, c.in-Some.ensures.lookup)) in
    let at : c.in-Some.byte.now ≡ get_or c.args.keys.now (typed_in c.args.path.now.pieces.items) c.in-Some.byte.now =
    rw (← c.typed.ensures) (assumption c.in-Some.ensures.lookup) in
    let idle : is_idle (run (g.W.Walker.start c.args.walker.now) (events_of c.args.path.now)).state ≡ true =
    subst (λ (a : After). is_idle a.state ≡ true) c.requires (sym c.if-not-is_idle.ensures) in
    rw c.in_ok-push_front.ensures.items
    (key-opened c.args.keys.now _ c.args.todo.now.items c.args.path.now c.in_ok-further.further _ within at idle
    c.in_ok-further.ensures.events c.in_ok-further.ensures.busy)
