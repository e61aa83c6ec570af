use Rattle.std.proofs.Common.{[], codes, inr, refl, ◌∷◌}
use Rattle.events.proofs.reading.random.Goals as goal

pub returns : goal.returns
returns c =
    let seed = c.in_ok-seed.ensures in
    let count = c.in_ok-steps.ensures in (
      seed.0 ∷ count.0 ∷ codes "tick" ∷ [],
      (
        c.number.new.self.rest.now,
        seed.1,
        (
          c.number-2.new.self.rest.now,
          count.1,
          (c.exactly.new.self.rest.now, c.in_ok-exactly.ensures, refl),
        ),
      ),
      inr (seed.0, count.0, c.in_ok-seed.seed, c.in_ok-steps.steps, refl, seed.2, count.2, c.random.ensures),
    )
