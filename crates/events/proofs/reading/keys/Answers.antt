use Rattle.std.proofs.Common.{[], refl, ◌∷◌}
use Rattle.events.proofs.reading.keys.Goals as goal

pub returns-in-Some : goal.returns-in-Some
returns-in-Some c =
    let word = c.in_ok-word.word.now in (
      word ∷ [],
      (c.want.new.self.rest.now, c.in_ok-word.ensures, refl),
      (word, refl, rw c.in-Some.is at c.in_ok-keys.ensures),
    )
