use Rattle.std.proofs.Common.{List, [], ap, arith, codes, refl, ℕ, ◌∷◌, ◌≡◌}
use Rattle.std.proofs.lemmas.Grind.{common_steps}
use Rattle.events.proofs.reading.command.Goals as goal

pub returns-in_ok-number-in-step : goal.returns-in_ok-number-in-step
returns-in_ok-number-in-step c =
    let named : c.args.name.now ≡ codes "step" = grind (arith, common_steps) in
    let count = c.in_ok-number-in-step.ensures in (
      count.0 ∷ [],
      (c.number.new.self.rest.now, count.1, refl),
      (count.0, ap (λ (name : List ℕ). name ∷ count.0 ∷ []) named, count.2),
    )

pub returns-in_ok-number-in-tick : goal.returns-in_ok-number-in-tick
returns-in_ok-number-in-tick c =
    let named : c.args.name.now ≡ codes "tick" = grind (arith, common_steps) in
    let count = c.in_ok-number-in-tick.ensures in (
      count.0 ∷ [],
      (c.number-in-tick.new.self.rest.now, count.1, refl),
      (count.0, ap (λ (name : List ℕ). name ∷ count.0 ∷ []) named, count.2),
    )
