use Rattle.std.proofs.Common.{[], refl, ◌∷◌}
use Rattle.events.proofs.reading.until.Goals as goal

pub returns : goal.returns
returns c =
    let word = c.in_ok-word.word.now in
    let count = c.in_ok-number.ensures in (
      word ∷ count.0 ∷ [],
      (c.want.new.self.rest.now, c.in_ok-word.ensures, (c.number.new.self.rest.now, count.1, refl)),
      (word, count.0, refl, c.in_ok-goal.ensures, count.2),
    )
