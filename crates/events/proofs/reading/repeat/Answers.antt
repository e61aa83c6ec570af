use Rattle.std.proofs.Common.{[], codes, refl, ◌∷◌}
use Rattle.events.proofs.reading.repeat.Goals as goal

pub returns : goal.returns
returns c =
    let count = c.in_ok-times.ensures in (
      count.0 ∷ codes "{" ∷ [],
      (c.number.new.self.rest.now, count.1, (c.exactly.new.self.rest.now, c.in_ok-exactly.ensures, refl)),
      (count.0, refl, count.2),
    )
