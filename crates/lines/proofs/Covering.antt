-- What a search among rows in order, and among sequences in order, finds.
use Rattle.std.proofs.Common.{◌≡◌, ◌<◌, ◌≤◌, ◌-◌, ◌+◌, ◌∙◌, ◌∷◌, [], ℕ, zero, suc, List, None, Some, length, get_or}
use Rattle.std.proofs.Common.{ap, arith, true, false, sym, refl, inl, inr, leb, leb-true, le-leb, nat_le, subst, ltb}
use Rattle.std.proofs.Common.{◌++◌, ltb-true, lt-ltb, le-ltb}
use Rattle.std.proofs.lemmas.Bool.{cases_lt, leb-false, ltb-false}
use Rattle.std.proofs.lemmas.Bool.Decides.{nat_tests}
use Rattle.std.proofs.lemmas.List.{get_or_default}
use Rattle.std.proofs.lemmas.List.Elements.{All-push}
use Rattle.std.specs.List.{All}
use Rattle.std.specs.List.Sorted.{IsNonDecreasingBy, IsPartitionPoint}
use Rattle.lines.specs.Covering.{IsNearest, Rise, Rises, covering, is_above, rows_of}
use Rattle.lines.specs.declared.rows.Row.{Row}
use Rattle.lines.specs.declared.rows.Sequence.{Sequence}

module _ (address : ℕ) where
  -- the first of rows, if there is one, is not above
  not-above : (rows : List Row) → ((d : Row) → 0 < length rows → (get_or rows 0 d).address ≤ address)
      → is_above address rows ≡ false
  not-above [] h = refl
  not-above (row ∷ rows) h = le-ltb address row.address (h row (omega arith))

  -- all rows are above
  none-below : (rows : List Row) → ((k : ℕ) (d : Row) → k < length rows → address < (get_or rows k d).address)
      → covering address rows ≡ None
  none-below [] h = refl
  none-below (row ∷ rows) h =
      let over : address < row.address = h 0 row (omega arith) in
      let no : nat_le row.address address ≡ false = grind (arith, nat_tests, over) in
      rw no (none-below rows (λ k d less. h (suc k) d (omega arith)))

  -- none is
  none-above : (rows : List Row) → ((k : ℕ) (d : Row) → k < length rows → (get_or rows k d).address ≤ address)
      → covering address rows ≡ None
  none-above [] h = refl
  none-above (row ∷ rows) h =
      let under : row.address ≤ address = h 0 row (omega arith) in
      let yes : nat_le row.address address ≡ true = le-leb row.address address under in
      let no : is_above address rows ≡ false = not-above rows (λ d some. h 1 d (omega arith)) in
      rw (yes, no) (none-above rows (λ k d less. h (suc k) d (omega arith)))

  -- the first is
  is-above : (rows : List Row) → 0 < length rows → ((d : Row) → address < (get_or rows 0 d).address)
      → is_above address rows ≡ true
  is-above [] some h = let no : ⊥ = omega arith in absurd no
  is-above (row ∷ rows) some h = lt-ltb address row.address (h row)

  -- the rows up to i are not above, and the next is
  row-at : (rows : List Row) (i : ℕ) (e : Row) → suc i < length rows
      → ((k : ℕ) (d : Row) → k ≤ i → (get_or rows k d).address ≤ address)
      → ((d : Row) → address < (get_or rows (suc i) d).address) → covering address rows ≡ Some (get_or rows i e)
  row-at [] i e within low high = let no : ⊥ = omega arith in absurd no
  row-at (row ∷ rows) zero e within low high =
      let yes : nat_le row.address address ≡ true = le-leb row.address address (low 0 row (omega arith)) in
      let over : is_above address rows ≡ true = is-above rows (omega arith) high in
      rw (yes, over) refl
  row-at (row ∷ rows) (suc i) e within low high =
      let yes : nat_le row.address address ≡ true = le-leb row.address address (low 0 row (omega arith)) in
      let no : is_above address rows ≡ false = not-above rows (λ d some. low 1 d (omega arith)) in
      rw (yes, no) (row-at rows i e (omega arith) (λ k d at. low (suc k) d (omega arith)) high)

-- where a search among rows ends
module _ (rows : List Row) (address i : ℕ)
    (point : IsPartitionPoint (λ y. leb y.address address ≡ true) (λ y. leb y.address address ≡ false) rows i) where
  pub covering-none-below : i ≡ 0 → covering address rows ≡ None
  covering-none-below is = none-below address rows (λ k d within. leb-false _ _ (point.1 k d (omega arith) within))

  pub covering-none-above : i ≡ length rows → covering address rows ≡ None
  covering-none-above is =
      none-above address rows (λ k d within. leb-true _ _ (point.0 k d (omega arith) (omega arith)))

  pub covering-row : (row : Row) → 0 < i → i < length rows → row ≡ get_or rows (i - 1) row
      → covering address rows ≡ Some row
  covering-row row some within is =
      let next : suc (i - 1) ≡ i = omega arith in
      let high : (d : Row) → address < (get_or rows (suc (i - 1)) d).address
      = λ d. rw next (leb-false _ _ (point.1 i d (omega arith) within)) in
      let found : covering address rows ≡ Some (get_or rows (i - 1) row)
      = row-at address rows (i - 1) row (omega arith)
      (λ k d at. leb-true _ _ (point.0 k d (omega arith) (omega arith))) high in
      rw (← is) at found

-- all sequences begin after an address
pub nearest-none : (sequences : List Sequence) (address i : ℕ)
    → IsPartitionPoint (λ y. leb y.start address ≡ true) (λ y. leb y.start address ≡ false) sequences i
    → i ≡ 0 → All (λ (s : Sequence). address < s.start) sequences
nearest-none sequences address i low is k d here = leb-false _ _ (low.1 k d (omega (arith, is)) here)

-- where searches among sequences end: i is after those that begin at or below an address, j after those that begin
-- before the last of them
module _ (sequences : List Sequence) (address i j start : ℕ)
    (rising : IsNonDecreasingBy (λ (s : Sequence). s.start) sequences)
    (low : IsPartitionPoint (λ y. leb y.start address ≡ true) (λ y. leb y.start address ≡ false) sequences i)
    (lower : IsPartitionPoint (λ y. ltb y.start start ≡ true) (λ y. ltb y.start start ≡ false) sequences j)
    (some : 0 < i) (within : i ≤ length sequences) where
  module _ (last : Sequence) (begins : start ≡ (get_or sequences (i - 1) last).start) where
    the-last : (d : Sequence) → (get_or sequences (i - 1) d).start ≡ start
    the-last d = ap (λ (s : Sequence). s.start) (get_or_default sequences (i - 1) d last (omega arith)) ∙ sym begins

    first-within : j < i
    first-within = elim (cases_lt (i - 1) j) [
      | inl less ↦ (let h : (get_or sequences (i - 1) last).start < start
          = ltb-true _ _ (lower.0 (i - 1) last (omega arith) less) in
          omega (arith, h, the-last last))
      | inr more ↦ omega arith
    ]

    begins-there : (d : Sequence) → (get_or sequences j d).start ≡ start
    begins-there d =
        let in_order : (get_or sequences j d).start ≤ (get_or sequences (i - 1) d).start
        = rising j (i - 1) d (omega (arith, first-within)) (omega arith) in
        let at_least : start ≤ (get_or sequences j d).start
        = ltb-false _ _ (lower.1 j d (omega arith) (omega (arith, first-within))) in
        omega (arith, the-last d, in_order, at_least)

    pub first-index : j < length sequences
    first-index = omega (arith, first-within)

    pub nearest-found : (s : Sequence) → s ≡ get_or sequences j s → IsNearest sequences address s
    nearest-found s at = record {
      index = j;
      within = first-index;
      is = λ d. get_or_default sequences j d s first-index ∙ sym at;
      below = omega (arith, here, end);
      nearest = λ k d inside under. of k d inside under;
      first = λ k d before.
          (let h : (get_or sequences k d).start < start = ltb-true _ _ (lower.0 k d (omega arith) before) in
          omega (arith, h, here));
    } where
      here : s.start ≡ start
      here = rw at (begins-there s)

      end : start ≤ address
      end = let h : (get_or sequences (i - 1) last).start ≤ address
          = leb-true _ _ (low.0 (i - 1) last (omega arith) (omega arith)) in
          omega (arith, h, the-last last)

      of : (k : ℕ) (d : Sequence) → k < length sequences → (get_or sequences k d).start ≤ address
          → (get_or sequences k d).start ≤ s.start
      of k d inside under = elim (cases_lt k i) [
        | inl less ↦ (let h : (get_or sequences k d).start ≤ (get_or sequences (i - 1) d).start
            = rising k (i - 1) d (omega arith) (omega arith) in
            omega (arith, h, the-last d, here))
        | inr more ↦ (let h : address < (get_or sequences k d).start = leb-false _ _ (low.1 k d more inside) in
            omega (arith, h, under))
      ]

    pub nearest-at : (e : Sequence) → IsNearest sequences address (get_or sequences j e)
    nearest-at e =
        nearest-found (get_or sequences j e) (get_or_default sequences j e (get_or sequences j e) first-index)

module _ (sequences : List Sequence) (address : ℕ) where
  -- none begins at or below the address
  pub not-nearest : (s : Sequence) → All (λ (s : Sequence). address < s.start) sequences
      → IsNearest sequences address s → ⊥
  not-nearest s all near =
      let over : address < (get_or sequences near.index s).start = all near.index s near.within in
      let begins : (get_or sequences near.index s).start ≡ s.start = ap (λ (q : Sequence). q.start) (near.is s) in
      omega (arith, over, begins, near.below)

  no-later : (s t : Sequence) (a : IsNearest sequences address s) (b : IsNearest sequences address t)
      → a.index < b.index → ⊥
  no-later s t a b less =
      let before : (get_or sequences a.index s).start < t.start = b.first a.index s less in
      let begins : (get_or sequences a.index s).start ≡ s.start = ap (λ (q : Sequence). q.start) (a.is s) in
      let other : (get_or sequences b.index s).start ≡ t.start = ap (λ (q : Sequence). q.start) (b.is s) in
      let at_most : (get_or sequences b.index s).start ≤ s.start
      = a.nearest b.index s b.within (omega (arith, other, b.below)) in
      omega (arith, before, begins, other, at_most)

  -- there is one at most
  pub nearest-unique : (s t : Sequence) → IsNearest sequences address s → IsNearest sequences address t → s ≡ t
  nearest-unique s t a b = elim (cases_lt a.index b.index) [
    | inl less ↦ absurd (no-later s t a b less)
    | inr more ↦ elim (cases_lt b.index a.index) [
      | inl less ↦ absurd (no-later t s b a less)
      | inr least ↦ (let same : a.index ≡ b.index = omega (arith, more, least) in
          sym (a.is s) ∙ ap (λ k. get_or sequences k s) same ∙ b.is s)
    ]
  ]

-- the addresses of the first n rows do not fall, up to that address
pub record RiseTo (rows : List Row) (n last : ℕ) : Type 0 where
  pub rising : (i j : ℕ) (d : Row) → i ≤ j → j < n → (get_or rows i d).address ≤ (get_or rows j d).address
  pub under : (k : ℕ) (d : Row) → k < n → (get_or rows k d).address ≤ last

module _ (rows : List Row) where
  pub rise-none : (last : ℕ) → RiseTo rows 0 last
  rise-none last = record { rising = λ i j d at less. omega arith; under = λ k d less. omega arith }

  pub rise-more : (n last : ℕ) (row : Row) → RiseTo rows n last → n < length rows → row ≡ get_or rows n row
      → last ≤ row.address → RiseTo rows (n + 1) row.address
  rise-more n last row so within is over = record { rising = rising; under = under } where
    here : (d : Row) → (get_or rows n d).address ≡ row.address
    here d = ap (λ (r : Row). r.address) (get_or_default rows n d row within ∙ sym is)

    under : (k : ℕ) (d : Row) → k < n + 1 → (get_or rows k d).address ≤ row.address
    under k d less = elim (cases_lt k n) [
      | inl before ↦ (let h : (get_or rows k d).address ≤ last = so.under k d before in omega (arith, h, over))
      | inr after ↦ (let same : k ≡ n = omega (arith, less, after) in
          let e : (get_or rows k d).address ≡ row.address = rw same (here d) in omega (arith, e))
    ]

    rising : (i j : ℕ) (d : Row) → i ≤ j → j < n + 1 → (get_or rows i d).address ≤ (get_or rows j d).address
    rising i j d at less = elim (cases_lt j n) [
      | inl before ↦ so.rising i j d at before
      | inr after ↦ (let same : j ≡ n = omega (arith, less, after) in
          let e : (get_or rows j d).address ≡ row.address = rw same (here d) in
          let h : (get_or rows i d).address ≤ row.address = under i d (omega (arith, at, less)) in
          omega (arith, e, h))
    ]

  pub rise-at : (n last : ℕ) (d : Row) → RiseTo rows n last → n < length rows → last ≤ (get_or rows n d).address
      → RiseTo rows (n + 1) (get_or rows n d).address
  rise-at n last d so within over =
      rise-more n last (get_or rows n d) so within (get_or_default rows n d (get_or rows n d) within) over

-- one more sequence
pub all-pushed : (rows : List Row) (old new : List Sequence) (s : Sequence) → new ≡ old ++ s ∷ []
    → All (Rises rows) old → Rises rows s → All (Rises rows) new
all-pushed rows old new s is all this = rw is (All-push (Rises rows) old s all this)

-- the rows of a sequence that was found
pub rises-at : (rows : List Row) (sequences : List Sequence) (address : ℕ) (s : Sequence) (found : List Row)
    → IsNearest sequences address s → All (Rises rows) sequences → found ≡ rows_of rows s → Rise found
rises-at rows sequences address s found near all is =
    rw is (subst (λ (t : Sequence). Rises rows t) (near.is s) (all near.index s near.within))
