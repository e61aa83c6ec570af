-- The path of a process, read from one entry to the next.
use Rattle.std.proofs.Common.{List, [], arith, cond, drop, get_or, length, refl, suc, zero, ℕ, ◌<◌, ◌∷◌, ◌≡◌}
use Rattle.gdbmotions.specs.Paths.{is_known, path_known}
use Rattle.gdbmotions.specs.declared.paths.Named.{Named}

pub known_more : (xs : List Named) (i : ℕ) (entry : Named) (pid time : ℕ) (path more : List ℕ) → i < length xs
    → entry ≡ get_or xs i entry → more ≡ cond (is_known entry pid time) entry.path.items path
    → path_known (drop i xs) pid time path ≡ path_known (drop (suc i) xs) pid time more
known_more [] i entry pid time path more h e is = absurd (omega (arith, h))
known_more (x ∷ xs) zero entry pid time path more h e is = rw (is, e) refl
known_more (x ∷ xs) (suc i) entry pid time path more h e is =
    known_more xs i entry pid time path more (omega (arith, h)) e is
