use Rattle.std.proofs.Common.{[], inl, inr, refl, ◌∷◌}
use Rattle.events.proofs.Wording.{hex-escape}
use Rattle.events.proofs.words.escaped.Goals as goal

pub returns-in-110 : goal.returns-in-110
returns-in-110 c = (c.in_ok-code.code.now ∷ [], c.in_ok-code.ensures.cases.0, inl (c.in-110.is, refl))

pub returns-in-116 : goal.returns-in-116
returns-in-116 c = (c.in_ok-code.code.now ∷ [], c.in_ok-code.ensures.cases.0, inr (inl (c.in-116.is, refl)))

pub returns-in-92 : goal.returns-in-92
returns-in-92 c = (c.in_ok-code.code.now ∷ [], c.in_ok-code.ensures.cases.0, inr (inr (c.in-92.is, refl)))

pub returns-in-120 : goal.returns-in-120
returns-in-120 c = hex-escape c.args.bytes.now c.in_ok-code.rest.now c.in_ok-code.code.now c.hex_byte.result
    c.in_ok-code.ensures.cases.0 c.in-120.is c.hex_byte.ensures
