use Rattle.std.proofs.Common.{List, inr, subst, ℕ, ◌∷◌}
use Rattle.events.specs.Words.{HasWord}
use Rattle.events.proofs.reading.deed_of.Goals as goal

pub returns : goal.returns
returns c =
    let name = c.in-Some.name.now in
    let next = c.next_word.new.self.rest.now in
    let first = subst (λ (line : List ℕ). HasWord line name next) c.new-words.ensures c.in-Some.ensures in
    let deed = c.in_ok-deed.ensures in
    inr (name ∷ deed.0, (c.deed.new.words.rest.now, (next, first, deed.1), c.in_ok-end.ensures), deed.2)
