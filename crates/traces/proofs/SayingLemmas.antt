-- Lemmas on what the text of a trace says.
use Rattle.std.proofs.Common.{◌≡◌, ◌++◌, List, None, Option, Some, option_map, refl, subst, sym, ℕ}
use Rattle.traces.specs.Saying.{EndsWith}

after : (line : List ℕ) (old : Option (List ℕ)) → EndsWith line (option_map (λ given. given ++ line) old)
after line None = tt
after line (Some given) = (given, refl)

pub ends : (line : List ℕ) (old new : Option (List ℕ)) → new ≡ option_map (λ given. given ++ line) old
    → EndsWith line new
ends line old new is = subst (EndsWith line) (sym is) (after line old)
