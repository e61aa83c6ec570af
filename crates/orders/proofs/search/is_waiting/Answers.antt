use Rattle.std.proofs.Common.{leb, length, sym, true, ◌≡◌}
use Rattle.std.proofs.lemmas.Bool.{le-leb, leb-true}
use Rattle.orders.proofs.Opening.{all-wait}
use Rattle.orders.proofs.Typed.{all-typed}
use Rattle.orders.proofs.search.is_waiting.Goals as goal

pub returns-clause-yes : goal.returns-clause-yes
returns-clause-yes g c = λ (all : leb (length c.args.keys.now) c.typed.result ≡ true).
    all-wait c.args.keys.now _ c.args.path.now (sym c.if-not-is_idle.ensures) (sym c.if-is_anyone_asleep.ensures)
    (rw c.typed.ensures at (leb-true _ _ all))

pub returns-clause-no : goal.returns-clause-no
returns-clause-no g c = λ wait. rw c.typed.ensures (le-leb _ _ (all-typed c.args.keys.now c.args.path.now wait.typed))
