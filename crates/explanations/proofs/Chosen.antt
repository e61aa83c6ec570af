-- The first of two that is there.
use Rattle.std.proofs.Common.{◌≡◌, ◌∙◌, List, None, Option, Some, ap, option_map, refl, ℕ}
use Rattle.std.specs.Borrow.{Bor}
use Rattle.std.specs.Option.{option_or}

abbrev shown : Option (Bor (List ℕ)) → Option (List ℕ)
shown = option_map (λ m. m.now)

or-map : (one other : Option (Bor (List ℕ))) → shown (option_or one other) ≡ option_or (shown one) (shown other)
or-map None other = refl
or-map (Some m) other = refl

pub or-is : (chosen one other : Option (Bor (List ℕ))) (a b : Option (List ℕ)) → chosen ≡ option_or one other
    → shown one ≡ a → shown other ≡ b → shown chosen ≡ option_or a b
or-is chosen one other a b is first second = ap shown is
    ∙ (or-map one other ∙ (ap (λ o. option_or o (shown other)) first ∙ ap (λ o. option_or a o) second))
