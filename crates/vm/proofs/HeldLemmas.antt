-- Lemmas on what a dense space holds: how many frames, and where a frame is.
use Rattle.vm.proofs.Common.{Ram, [], ap, arith, Bool, cases_eq, cases_lt, count_of, count_of-append, count_of-first}
use Rattle.vm.proofs.Common.{eq-eqb, eqb, false, frame_at, frames_below, frames_for, HasTable, held, if◌then◌else◌, inl}
use Rattle.vm.proofs.Common.{inr, IsDense, IsUsed, le-ltb, length, length-append, lookup_of, Low, low_node, lt-ltb, ltb}
use Rattle.vm.proofs.Common.{Mid, mid_node, ne_eqb, Node, one_if, refl, Root, root_at, Some, suc, sym, table_at}
use Rattle.vm.proofs.Common.{table_of, table_of-some, tables_below, tables_for, trap_page, true, zero, ℕ, ◌%◌, ◌*◌, ◌+◌}
use Rattle.vm.proofs.Common.{◌-◌, ◌/◌, ◌<◌, ◌^◌, ◌∙◌, ◌∷◌, ◌≡◌, ◌≢◌, ◌≤◌, ◌⊎◌}

-- ---- how many

length_if : (b : Bool) (t : ℕ) → length (if b then t ∷ [] else []) ≡ one_if b
length_if true t = refl
length_if false t = refl

-- one more page
pub frames_for-more : (n : ℕ) → frames_for (suc n) ≡ 1 + frames_for n + (one_if (eqb n 0) + one_if (eqb (n % 512) 0))
frames_for-more n =
    let later : one_if (ltb 0 (suc n)) ≡ 1 = ap one_if (lt-ltb 0 (suc n) (omega arith)) in
    let first : one_if (ltb 0 n) + one_if (eqb n 0) ≡ 1 = elim (cases_eq n 0) [
      | inl e ↦ rw (le-ltb 0 n (omega arith), eq-eqb n 0 e) refl
      | inr ne ↦ rw (lt-ltb 0 n (omega arith), ne_eqb n 0 ne) refl
    ] in
    let low : (suc n + 511) / 512 ≡ (n + 511) / 512 + one_if (eqb (n % 512) 0) = elim (cases_eq (n % 512) 0) [
      | inl e ↦ rw (eq-eqb (n % 512) 0 e) (omega arith)
      | inr ne ↦ rw (ne_eqb (n % 512) 0 ne) (omega arith)
    ] in
    omega arith

-- ---- where a frame is

module _ (m : Ram) (r : ℕ) where
  pub length-tables_for : (n : ℕ) → length (tables_for m r n) ≡ one_if (eqb n 0) + one_if (eqb (n % 512) 0)
  length-tables_for n =
      length-append (if eqb n 0 then table_of m r (mid_node n) ∷ [] else [])
      (if eqb (n % 512) 0 then table_of m r (low_node n) ∷ [] else [])
      ∙ rw (length_if (eqb n 0) (table_of m r (mid_node n)), length_if (eqb (n % 512) 0) (table_of m r (low_node n)))
      refl

  pub length-frames_below : (n : ℕ) → length (frames_below m r n) ≡ n
  unfolding frames_below
  length-frames_below zero = refl
  length-frames_below (suc n) = ap suc (length-frames_below n)

  pub length-tables_below : (n : ℕ) → length (tables_below m r n) + 1 + n ≡ frames_for n
  unfolding tables_below
  length-tables_below zero = refl
  length-tables_below (suc n) =
      omega (
        arith,
        length-append (tables_for m r n) (tables_below m r n),
        length-tables_for n,
        length-tables_below n,
        frames_for-more n,
      )

  -- a space of n pages holds as many frames
  pub length-held : (t n : ℕ) → length (held m r t n) ≡ frames_for n
  length-held t n = omega (
    arith,
    length-append (tables_below m r n) (t ∷ frames_below m r n),
    length-tables_below n,
    length-frames_below n,
  )

  pub count-held : (t n f : ℕ)
      → count_of f (held m r t n)
      ≡ count_of f (tables_below m r n) + (count_of f (t ∷ []) + count_of f (frames_below m r n))
  count-held t n f = rw (count_of-append f (tables_below m r n) (t ∷ frames_below m r n)) (omega arith)

  pub page-held : (n p : ℕ) → p < n → 0 < count_of (frame_at m r p) (frames_below m r n)
  unfolding frames_below
  page-held zero p h = absurd (omega arith)
  page-held (suc n) p h = elim (cases_eq p n) [
    | inl e ↦ omega (arith, count_of-first (frame_at m r p) (frame_at m r n) (frames_below m r n) (ap (frame_at m r) e))
    | inr ne ↦ omega (arith, page-held n p (omega arith))
  ]

  -- different pages have different frames
  pub pages-apart : (n p q : ℕ) → ((f : ℕ) → count_of f (frames_below m r n) ≤ 1) → p < q → q < n
      → frame_at m r p ≢ frame_at m r q
  unfolding frames_below
  pages-apart zero p q one low high e = omega arith
  pages-apart (suc n) p q one low high e = elim (cases_eq q n) [
    | inl last ↦ omega (
      arith,
      one (frame_at m r p),
      count_of-first (frame_at m r p) (frame_at m r n) (frames_below m r n) (e ∙ ap (frame_at m r) last),
      page-held n p (omega arith),
    )
    | inr ne ↦ pages-apart n p q (λ f. omega (arith, one f)) low (omega arith) e
  ]

  tables-after : (n d f : ℕ) → count_of f (tables_below m r n) ≤ count_of f (tables_below m r (d + n))
  unfolding tables_below
  tables-after n zero f = let e : 0 + n ≡ n = omega arith in rw e (omega arith)
  tables-after n (suc d) f = let e : suc d + n ≡ suc (d + n) =
      omega arith in rw e (omega (arith, tables-after n d f, count_of-append))

  tables-grow : (k n f : ℕ) → k ≤ n → count_of f (tables_below m r k) ≤ count_of f (tables_below m r n)
  tables-grow k n f h = let e : n ≡ (n - k) + k = omega arith in rw e (tables-after k (n - k) f)

  mid-first : 0 < count_of (table_of m r (mid_node 0)) (tables_below m r 1)
  unfolding tables_below
  mid-first = omega (
    arith,
    count_of-first (table_of m r (mid_node 0)) (table_of m r (mid_node 0))
        (table_of m r (low_node 0) ∷ tables_below m r 0) refl,
  )

  low-first : (p : ℕ) → p % 512 ≡ 0 → 0 < count_of (table_of m r (low_node p)) (tables_below m r (suc p))
  unfolding tables_below
  low-first p h =
      let t = table_of m r (low_node p) in
      let first = if eqb p 0 then table_of m r (mid_node p) ∷ [] else [] in
      rw (eq-eqb (p % 512) 0 h) (omega (arith, count_of-append, count_of-first t t [] refl))

  -- the tables of a space of no pages
  base : let count : ℕ → ℕ = λ t. count_of t (tables_below m r 0) in (0 < count r)
      × (0 < count (table_of m r (mid_node trap_page))) × (0 < count (table_of m r (low_node trap_page)))
  unfolding tables_below
  base =
      let mid = table_of m r (mid_node trap_page) in
      let low = table_of m r (low_node trap_page) in (
        omega (arith, count_of-first r r (mid ∷ low ∷ []) refl),
        omega (arith, count_of-first mid mid (low ∷ []) refl),
        omega (arith, count_of-first low low [] refl),
      )

pub low-0 : (p : ℕ) → p < 32768 → low_node p ≡ Low 0 (p / 512)
low-0 p h = let a : p / 262144 % 512 ≡ 0 = omega arith in let b : p / 512 % 512 ≡ p / 512 =
    omega arith in rw (a, b) refl

pub mid-0 : (p : ℕ) → p < 32768 → mid_node p ≡ Mid 0
mid-0 p h = let a : p / 262144 % 512 ≡ 0 = omega arith in rw a refl

-- the index of the table of the block that a page is in
block-start : (p : ℕ) → p < 32768 → low_node (p / 512 * 512) ≡ low_node p
block-start p h = let a : p / 512 * 512 / 512 ≡ p / 512 = omega arith in low-0 (p / 512 * 512) (omega arith)
    ∙ ap (Low 0) a ∙ sym (low-0 p h)

-- a table that is counted among those of fewer pages
counted : (m : Ram) (r : ℕ) (x y : Node) (v k n : ℕ) → x ≡ y → table_at m r y ≡ Some v
    → 0 < count_of (table_of m r x) (tables_below m r k) → k ≤ n → 0 < count_of v (tables_below m r n)
counted m r x y v k n e at some low =
    let same : table_of m r x ≡ v = ap (table_of m r) e ∙ table_of-some m r y v at in
    rw (← same) (omega (arith, tables-grow m r k n (table_of m r x) low))

pub cases_root : (x : Node) → (x ≡ Root) ⊎ (x ≢ Root)
cases_root Root = inl refl
cases_root (Mid a) = inr (λ e. cc)
cases_root (Low a b) = inr (λ e. cc)

module _ {m : Ram} {r t n : ℕ} (is : IsDense m r t n) where
  -- a mapped page is one of the pages or the trap frame's
  pub mapped-cases : (p : ℕ) {v : ℕ × ℕ} → p < 2 ^ 27 → lookup_of m r p ≡ Some v → (p < n) ⊎ (p ≡ trap_page)
  mapped-cases p small h = elim (cases_lt p n) [
    | inl low ↦ inl low
    | inr high ↦ elim (cases_eq p trap_page)
        [ inl e ↦ inr e | inr ne ↦ absurd (let none = is.rest p high small ne in cc) ]
  ]

  used-held : (x : Node) (v : ℕ) → IsUsed m r x → table_at m r x ≡ Some v → 0 < count_of v (tables_below m r n)
  used-held x v u at =
      let p = u.page in
      let q = p / 512 * 512 in
      elim (mapped-cases p u.inside u.mapped) [
        | inl low ↦ elim u.over [
          | inl e ↦ counted m r (mid_node 0) x v 1 n (mid-0 0 (omega arith) ∙ sym (mid-0 p (omega arith)) ∙ sym e)
              at (mid-first m r) (omega arith)
          | inr e ↦ counted m r (low_node q) x v (suc q) n (block-start p (omega arith) ∙ sym e)
              at (low-first m r q (omega arith)) (omega arith)
        ]
        | inr trap ↦ elim u.over [
          | inl e ↦ counted m r (mid_node trap_page) x v 0 n (ap mid_node (sym trap) ∙ sym e)
              at (base m r).1 (omega arith)
          | inr e ↦ counted m r (low_node trap_page) x v 0 n (ap low_node (sym trap) ∙ sym e)
              at (base m r).2 (omega arith)
        ]
      ]

  -- each table is counted
  pub table-held : {v : ℕ} → HasTable m r v → 0 < count_of v (tables_below m r n)
  table-held {v} h = elim (cases_root h.place) [
    | inl e ↦
        let same : Some r ≡ Some v = sym (root_at m r) ∙ ap (table_at m r) (sym e) ∙ h.at_place in
        let f : r ≡ v = cc in
        rw (← f) (omega (arith, (base m r).0, tables-grow m r 0 n r (omega arith)))
    | inr ne ↦ used-held h.place v (is.tidy.used h.place v h.is_node ne h.at_place) h.at_place
  ]
