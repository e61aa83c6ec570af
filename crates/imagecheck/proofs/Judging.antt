-- A test that is made of others: what its result means.
use Rattle.std.proofs.Common.{◌≡◌, ◌≢◌, ℕ, Bool, IsTrue, MatchBool, false, inl, inr, not, refl, subst, sym, true, ◌==◌}
use Rattle.std.proofs.Common.{◌↔◌}
use Rattle.std.proofs.lemmas.Bool.{cases_eq, eq-eqb, false≢true, iff_false, ne_eqb}

module _ {P : Type 0} where
  pub told : P → IsTrue true ↔ P
  told p = (λ _. p, λ _. refl)

  pub never : ¬ P → IsTrue false ↔ P
  never absent = (λ e. absurd (false≢true e), λ p. absurd (absent p))

  -- a part of it doesn't hold
  pub refused : {Q : Type 0} {r : Bool} → r ≡ false → (IsTrue r ↔ Q) → (P → Q) → IsTrue false ↔ P
  refused e part h = never (λ p. iff_false part e (h p))

  -- by whether two numbers are the same
  pub by_same : {Q : Type 0} (x y : ℕ) → (x ≢ y → P) → (x ≡ y → Q) → MatchBool (not (x == y)) P Q
  by_same {Q = Q} x y other same = elim (cases_eq x y) [
    | inl e ↦ subst (λ b. MatchBool (not b) P Q) (sym (eq-eqb x y e)) (same e)
    | inr apart ↦ subst (λ b. MatchBool (not b) P Q) (sym (ne_eqb x y apart)) (other apart)
  ]
