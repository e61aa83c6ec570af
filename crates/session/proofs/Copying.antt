-- Bytes that are copied in two parts.
use Rattle.std.specs.Prelude.{min}
use Rattle.std.proofs.Common.{◌+◌, ◌++◌, ◌-◌, ◌<◌, ◌∙◌, ◌≡◌, ◌≤◌, [], ap, ap₂, append-nil, append_assoc, arith, drop}
use Rattle.std.proofs.Common.{inl, inr, length, List, refl, subst, sym, take, ℕ, ◌⊎◌}
use Rattle.std.proofs.Math.Nat.{min-eq_left, min-eq_right, min-le_left, min-le_right}
use Rattle.std.proofs.Math.Seq.{drop-append_seam, take-append_seam, take-append-add}
use Rattle.std.proofs.lemmas.Bool.{cases_lt}
use Rattle.std.proofs.lemmas.List.{drop-drop, drop_all, length-append, length-drop, length-take-le, take-append-le}
use Rattle.std.proofs.lemmas.List.{take_all}
use Rattle.session.specs.Copied.{copied}

-- the minimum of two numbers is one of them, and the other is no less
min-cases : (x y : ℕ) → ((min x y ≡ x) × (x ≤ y)) ⊎ ((min x y ≡ y) × (y ≤ x))
min-cases x y = elim (cases_lt x y) [
  | inl less ↦ let h : x ≤ y = omega (arith, less) in inl (min-eq_left h, h)
  | inr most ↦ inr (min-eq_right most, most)
]

-- a sum that is cut: the first part is cut, and the second to what is left
sums : (a b o f m n : ℕ) → ((f ≡ a) × (a ≤ o)) ⊎ ((f ≡ o) × (o ≤ a))
    → ((m ≡ b) × (b ≤ o - f)) ⊎ ((m ≡ o - f) × (o - f ≤ b))
    → ((n ≡ a + b) × (a + b ≤ o)) ⊎ ((n ≡ o) × (o ≤ a + b)) → n ≡ f + m
sums a b o f m n (inl (p, p')) (inl (q, q')) (inl (r, r')) = omega arith
sums a b o f m n (inl (p, p')) (inl (q, q')) (inr (r, r')) = omega arith
sums a b o f m n (inl (p, p')) (inr (q, q')) (inl (r, r')) = omega arith
sums a b o f m n (inl (p, p')) (inr (q, q')) (inr (r, r')) = omega arith
sums a b o f m n (inr (p, p')) (inl (q, q')) (inl (r, r')) = omega arith
sums a b o f m n (inr (p, p')) (inl (q, q')) (inr (r, r')) = omega arith
sums a b o f m n (inr (p, p')) (inr (q, q')) (inl (r, r')) = omega arith
sums a b o f m n (inr (p, p')) (inr (q, q')) (inr (r, r')) = omega arith

module _ (first second old : List ℕ) where
  abbrev front : ℕ
  front = min (length first) (length old)

  long : length (take front first) ≡ front
  long = length-take-le front first (min-le_left (length first) (length old))

  -- what was copied first, and what is after it
  pub copied-front : take front (copied first old) ≡ take front first
  copied-front = subst (λ n. take n (copied first old) ≡ take front first) long
      (take-append_seam (take front first) (drop front old))

  pub copied-rest : drop front (copied first old) ≡ drop front old
  copied-rest = subst (λ n. drop n (copied first old) ≡ drop front old) long
      (drop-append_seam (take front first) (drop front old))

  abbrev more : ℕ
  more = min (length second) (length (drop front old))

  -- how many are copied in all
  all : min (length (first ++ second)) (length old) ≡ front + more
  all = ap (λ n. min n (length old)) (length-append first second)
      ∙ sums (length first) (length second) (length old) front _ _ (min-cases (length first) (length old))
      (min-cases (length second) (length old - front)) (min-cases (length first + length second) (length old))
      ∙ ap (λ n. front + min (length second) n) (sym (length-drop front old))

  -- where the first are cut there is no room for more
  none-more : length old ≤ front → more ≡ 0
  none-more full =
      let left : length (drop front old) ≡ 0 = length-drop front old ∙ omega (arith, full) in
      let few = min-le_right (length second) (length (drop front old)) in
      omega (arith, left, few)

  heads : take (front + more) (first ++ second) ≡ take front first ++ take more second
  heads = elim (min-cases (length first) (length old)) [
    | inl fits ↦
        ap (λ n. take (n + more) (first ++ second)) fits.0 ∙ take-append-add first second more
        ∙ ap (λ xs. xs ++ take more second) (sym (take_all front first (let e = fits.0 in omega (arith, e))))
    | inr cut ↦
        let none = none-more (let e = cut.0 in omega (arith, e)) in
        ap (λ n. take n (first ++ second)) (omega (arith, none))
        ∙ take-append-le front first second (min-le_left (length first) (length old))
        ∙ sym (append-nil (take front first)) ∙ ap (λ n. take front first ++ take n second) (sym none)
  ]

  -- both parts are copied
  pub copied-both : take front first ++ copied second (drop front old) ≡ copied (first ++ second) old
  copied-both =
      sym (append_assoc (take front first) (take more second) (drop more (drop front old)))
      ∙ ap₂ (λ xs ys. xs ++ ys) (sym heads) (drop-drop more front old)
      ∙ ap (λ n. take n (first ++ second) ++ drop n old) (sym all)

-- what is left where the second part was copied after the first
pub copied-in : (first second old mid rest : List ℕ) (count : ℕ) → count ≡ min (length first) (length old)
    → mid ≡ copied first old → rest ≡ copied second (take (length mid - count) (drop count mid))
    → take count mid ++ (rest ++ drop (length mid - count) (drop count mid)) ≡ copied (first ++ second) old
copied-in first second old mid rest count counted made is =
    let past : drop (length mid - count) (drop count mid) ≡ [] = drop_all (length mid - count) (drop count mid)
    (omega (arith, length-drop count mid)) in
    let whole : take (length mid - count) (drop count mid) ≡ drop count mid = take_all (length mid - count)
    (drop count mid) (omega (arith, length-drop count mid)) in
    ap (λ xs. take count mid ++ (rest ++ xs)) past
    ∙ ap (λ xs. take count mid ++ xs) (append-nil rest ∙ is ∙ ap (copied second) whole)
    ∙ ap₂ (λ n xs. take n xs ++ copied second (drop n xs)) counted made
    ∙ ap₂ (λ xs ys. xs ++ copied second ys) (copied-front first second old) (copied-rest first second old)
    ∙ copied-both first second old
