-- What a search among symbols in order finds.
use Rattle.std.proofs.Common.{◌≡◌, ◌<◌, ◌≤◌, ◌-◌, ◌+◌, ◌∙◌, ℕ, List, length, get_or, arith, true, false, sym}
use Rattle.std.proofs.Common.{inl, inr, leb, leb-true, subst}
use Rattle.std.proofs.lemmas.Bool.{cases_lt, leb-false}
use Rattle.std.proofs.lemmas.List.{get_or_default}
use Rattle.std.specs.List.{All, Contains}
use Rattle.std.specs.List.Sorted.{IsNonDecreasingBy, IsPartitionPoint}
use Rattle.symbols.specs.declared.entry.Symbol.{Symbol}
use Rattle.symbols.specs.Nearest.{IsNearest}

module _ (xs : List Symbol) (address i : ℕ)
    (point : IsPartitionPoint (λ y. leb y.address address ≡ true) (λ y. leb y.address address ≡ false) xs i) where
  -- all are above
  pub none-below : i ≡ 0 → All (λ other. address < other.address) xs
  none-below is k d within = leb-false _ _ (point.1 k d (omega arith) within)

  -- the last of those that are not above
  pub last-below : (symbol : Symbol) → IsNonDecreasingBy (λ y. y.address) xs → 0 < i → i ≤ length xs
      → symbol ≡ get_or xs (i - 1) symbol → IsNearest xs address symbol
  last-below symbol rising some within is = record {
    is = (i - 1, omega arith, sym is);
    below = rw (sym is) at (leb-true _ _ (point.0 (i - 1) symbol (omega arith) (omega arith)));
    nearest = λ k d at low. nearest-of k d at low;
  } where
    -- one that is not above is before the point
    before : (k : ℕ) (d : Symbol) → k < length xs → (get_or xs k d).address ≤ address → k < i
    before k d at low =
        elim (cases_lt k i) [
          | inl less ↦ less
          | inr more ↦ (let above : address < (get_or xs k d).address = leb-false _ _ (point.1 k d more at) in
              omega arith)
        ]

    nearest-of : (k : ℕ) (d : Symbol) → k < length xs → (get_or xs k d).address ≤ address
        → (get_or xs k d).address ≤ symbol.address
    nearest-of k d at low =
        let same : get_or xs (i - 1) d ≡ symbol = get_or_default xs (i - 1) d symbol (omega arith) ∙ sym is in
        let here : k < i = before k d at low in
        subst (λ (s : Symbol). (get_or xs k d).address ≤ s.address) same
        (rising k (i - 1) d (omega arith) (omega arith))
