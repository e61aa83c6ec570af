use Rattle.std.proofs.Common.{[], codes, inl, refl, ◌∷◌}
use Rattle.events.proofs.reading.every.Goals as goal

pub returns : goal.returns
returns c =
    let count = c.in_ok-steps.ensures in (
      count.0 ∷ codes "tick" ∷ [],
      (c.number.new.self.rest.now, count.1, (c.exactly.new.self.rest.now, c.in_ok-exactly.ensures, refl)),
      inl (count.0, c.in_ok-steps.steps, refl, count.2, c.every.ensures),
    )
