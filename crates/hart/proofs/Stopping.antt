-- Stops of a run: which words have none, and where it ends.
use Rattle.hart.proofs.Common.{inl, inr, List, refl, subst, sym, ℕ, ◌∙◌, ◌≡◌, arith, pc_at, ◌+◌, ◌-◌, ◌<◌, ◌≤◌, ◌==◌}
use Rattle.hart.proofs.Common.{false, cases_lt, get_or, length, ne_eqb, take, IsBehind, IsClear, IsFree, IsPast}
use Rattle.hart.proofs.Common.{is_stop}
use Rattle.std.proofs.lemmas.List.Folds.{list_any_more}

-- ---- stops

-- a shorter range is clear, too
pub less-clear : (stops : List ℕ) (base : ℕ) {from to end : ℕ} → to ≤ end → IsClear stops base from end
    → IsClear stops base from to
less-clear stops base within clear j more less = clear j more (omega (arith, within, less))

-- words after one that are free of stops are clear up to the end of these
pub free-clear : (stops : List ℕ) (base : ℕ) {from to k end : ℕ} → from ≤ k + 1 → end ≤ to → IsFree stops base from to
    → IsClear stops base k end
free-clear stops base first last free j more less = free j (omega (arith, first, more)) (omega (arith, last, less))

-- a word at no stop and the clear ones after it are free of stops
pub clear-free : (stops : List ℕ) (base : ℕ) {k end : ℕ} → is_stop stops (pc_at base k) ≡ false
    → IsClear stops base k end → IsFree stops base k end
clear-free stops base {k} {end} start clear j since less = elim (cases_lt k j) [
  | inl more ↦ clear j more less
  | inr same ↦ let at : j ≡ k = omega (arith, since, same) in rw at start
]

-- one more address, which is at no index up to there
pub clear-more : (stops : List ℕ) (i base k end to : ℕ) → i < length stops → IsClear (take i stops) base k end
    → to ≤ end → ((j : ℕ) → k < j → j < to → get_or stops i 0 ≡ pc_at base j → ⊥)
    → IsClear (take (i + 1) stops) base k to
clear-more stops i base k end to within clear before other j more less =
    let first = clear j more (omega (arith, less, before)) in
    let last : (get_or stops i 0 == pc_at base j) ≡ false =
    ne_eqb (get_or stops i 0) (pc_at base j) (other j more less) in
    list_any_more (λ s. s == pc_at base j) stops i 0 within ∙ rw (first, last) refl

-- after the first index none is at a stop
pub clear-past : (stops : List ℕ) (base : ℕ) {from k : ℕ} (n : ℕ) → from ≤ k → IsClear stops base from (k + 1)
    → IsPast stops n (pc_at base from) → IsPast stops (n + (k - from)) (pc_at base k)
clear-past stops base {from} {k} n since clear past more = elim (cases_lt from k) [
  | inl behind ↦ clear k behind (omega arith)
  | inr first ↦ let same : from ≡ k =
      omega (arith, since, first)
      in subst (λ j. is_stop stops (pc_at base j) ≡ false) same (past (omega (arith, more, same)))
]

pub behind-past : (stops : List ℕ) {done old new : ℕ} → IsBehind stops done old new → (n : ℕ) → IsPast stops n old
    → IsPast stops (n + done) new
behind-past stops (inl go) n past more = go.1
behind-past stops (inr none) n past more = let e =
    none.0 in subst (λ pc. is_stop stops pc ≡ false) (sym none.1) (past (omega (arith, more, e)))

pub behind-then : (stops : List ℕ) {x y old mid new : ℕ} → IsBehind stops x old mid → IsBehind stops y mid new
    → IsBehind stops (x + y) old new
behind-then stops a (inl go) = inl (let some = go.0 in omega (arith, some), go.1)
behind-then stops (inl go) (inr none) = inl (let some = go.0 in omega (arith, some), rw none.1 go.1)
behind-then stops (inr first) (inr none) =
    inr (let a = first.0 in let b = none.0 in omega (arith, a, b), none.1 ∙ first.1)
