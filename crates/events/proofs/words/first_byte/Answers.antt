use Rattle.std.proofs.Common.{[], arith, inl, refl, ◌∷◌}
use Rattle.events.proofs.Wording.{escape-first}
use Rattle.events.proofs.words.first_byte.Goals as goal

pub returns-in-92 : goal.returns-in-92
returns-in-92 c = escape-first c.args.bytes.now c.in_ok-first.rest.now c.in_ok-first.first.now c.escaped.result
    c.in_ok-first.ensures.cases.0 c.in-92.is c.escaped.ensures

pub returns-in_default : goal.returns-in_default
returns-in_default c =
    (c.in_ok-first.first.now ∷ [], c.in_ok-first.ensures.cases.0, inl (refl, omega arith, omega arith))
