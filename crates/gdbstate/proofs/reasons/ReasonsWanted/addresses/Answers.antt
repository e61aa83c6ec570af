use Rattle.std.proofs.Common.{false, rules, sym, ◌∙◌, ◌≡◌}
use Rattle.gdbstate.proofs.Passing.{stops-only-at}
use Rattle.gdbstate.proofs.reasons.ReasonsWanted.addresses.Goals as goal

pub returns : goal.returns
returns c =
    let far : c.has_near.result ≡ false = search rules in
    stops-only-at c.args.self.now c.args.machine.now.state c.places.result (λ places. places.now) c.places.ensures
    (sym c.if-is_some.ensures) (sym c.has_near.ensures ∙ far)
