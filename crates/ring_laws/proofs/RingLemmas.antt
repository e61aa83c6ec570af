-- Lemmas on the bytes of a ring.
use Rattle.std.proofs.Common.{◌≡◌, ◌≢◌, ◌<◌, ◌≤◌, ◌⊎◌, inl, inr, ℕ, zero, suc, ◌+◌, ◌-◌, ◌%◌, List, [], ◌∷◌, ◌++◌, drop}
use Rattle.std.proofs.Common.{length, take, get_or, set, slice_get, None, Some, refl, sym, ap, ap₂, ◌∙◌, arith}
use Rattle.std.proofs.Common.{mod-eq_of_lt, get_or-set_other, get_or-set_same}
use Rattle.std.proofs.Math.Nat.{mod-add-mod, mod-eq-sub-mod}
use Rattle.std.proofs.lemmas.Bool.{cases_lt}
use Rattle.ring_laws.specs.Ring.{ring}

pub length-ring : (room : ℕ) (xs : List ℕ) (k n : ℕ) → length (ring room xs k n) ≡ n
unfolding ring
length-ring room xs k zero = refl
length-ring room xs k (suc n) = ap suc (length-ring room xs (k + 1) n)

pub take-ring : (room : ℕ) (xs : List ℕ) (k m n : ℕ) → m ≤ n → take m (ring room xs k n) ≡ ring room xs k m
unfolding ring
take-ring room xs k zero n h = refl
take-ring room xs k (suc m) zero h = absurd (omega arith)
take-ring room xs k (suc m) (suc n) h =
    ap (λ l. get_or xs (k % room) 0 ∷ l) (take-ring room xs (k + 1) m n (omega arith))

-- one part of a ring, and the part after it
pub ring-append : (room : ℕ) (xs : List ℕ) (k n m t : ℕ) → t ≡ n + m
    → ring room xs k t ≡ ring room xs k n ++ ring room xs (k + n) m
unfolding ring
ring-append room xs k zero m t h =
    let a : t ≡ m = omega arith in
    let b : k ≡ k + zero = omega arith in
    ap (λ i. ring room xs k i) a ∙ ap (λ j. ring room xs j m) b
ring-append room xs k (suc n) m zero h = absurd (omega arith)
ring-append room xs k (suc n) m (suc t) h =
    let a : k + 1 + n ≡ k + suc n = omega arith in
    ap (λ l. get_or xs (k % room) 0 ∷ l)
    (ring-append room xs (k + 1) n m t (omega arith) ∙ ap (λ j. ring room xs (k + 1) n ++ ring room xs j m) a)

-- parts are the same where their slots hold the same
pub ring-same : (room : ℕ) (xs ys : List ℕ) (k j n : ℕ)
    → ((i : ℕ) → i < n → get_or xs ((k + i) % room) 0 ≡ get_or ys ((j + i) % room) 0)
    → ring room xs k n ≡ ring room ys j n
unfolding ring
ring-same room xs ys k j zero h = refl
ring-same room xs ys k j (suc n) h =
    let a : k ≡ k + 0 = omega arith in
    let b : j + 0 ≡ j = omega arith in
    ap₂ ◌∷◌
    (ap (λ i. get_or xs (i % room) 0) a ∙ h 0 (omega arith) ∙ ap (λ i. get_or ys (i % room) 0) b)
    (ring-same room xs ys (k + 1) (j + 1) n (λ i l.
    let c : k + 1 + i ≡ k + (i + 1) = omega arith in
    let d : j + (i + 1) ≡ j + 1 + i = omega arith in
    ap (λ i. get_or xs (i % room) 0) c ∙ h (i + 1) (omega arith) ∙ ap (λ i. get_or ys (i % room) 0) d))

-- a start past the end is a start from the beginning
pub ring-around : (room : ℕ) (xs : List ℕ) (k m n : ℕ) → ring room xs (k % room + m) n ≡ ring room xs (k + m) n
ring-around room xs k m n =
    ring-same room xs xs (k % room + m) (k + m) n (λ i l.
    let a : k % room + m + i ≡ k % room + (m + i) = omega arith in
    let b : k + (m + i) ≡ k + m + i = omega arith in
    ap (λ i. get_or xs (i % room) 0) (a) ∙ ap (λ i. get_or xs i 0) (mod-add-mod k room (m + i))
    ∙ ap (λ i. get_or xs (i % room) 0) b)

-- an index below twice the room wraps once at most
wraps_once : (room j : ℕ) → j < room + room → ((j < room) × (j % room ≡ j)) ⊎ ((room ≤ j) × (j % room ≡ j - room))
wraps_once room j h = elim (cases_lt j room) [
  | inl low ↦ inl (low, mod-eq_of_lt low)
  | inr high ↦ inr (high, mod-eq-sub-mod high ∙ mod-eq_of_lt (omega arith))
]

places-apart : (room a b : ℕ) → a < b → b < a + room → b < room + room → a % room ≢ b % room
places-apart room a b low near h e =
    let x = wraps_once room a (omega arith) in
    let y = wraps_once room b h in
    elim x [
      | inl p ↦ elim y [ inl q ↦ omega arith | inr q ↦ omega arith ]
      | inr p ↦ elim y [ inl q ↦ omega arith | inr q ↦ omega arith ]
    ]

-- a write after a part, and before it comes around, leaves it
pub ring-set_behind : (room : ℕ) (xs : List ℕ) (k n at b : ℕ) → k + n ≤ at → at < k + room → at < room + room
    → ring room (set xs (at % room) b) k n ≡ ring room xs k n
ring-set_behind room xs k n at b low near h =
    ring-same room (set xs (at % room) b) xs k k n
    (λ i l. get_or-set_other xs (at % room) ((k + i) % room) b 0
    (places-apart room (k + i) at (omega arith) (omega arith) h))

-- a byte that is written right after a part makes it longer
pub ring-push : (room : ℕ) (xs : List ℕ) (k n at b : ℕ) → room ≤ length xs → at ≡ k + n → n < room → at < room + room
    → ring room (set xs (at % room) b) k (n + 1) ≡ ring room xs k n ++ b ∷ []
unfolding ring
ring-push room xs k n at b full e fits h =
    let inside : at % room < length xs = elim (wraps_once room at h) [ inl p ↦ omega arith | inr p ↦ omega arith ] in
    ring-append room (set xs (at % room) b) k n 1 (n + 1) refl
    ∙ ap₂ ◌++◌
    (ring-set_behind room xs k n at b (omega arith) (omega arith) h)
    (ap (λ i. get_or (set xs (at % room) b) (i % room) 0 ∷ []) (sym e)
    ∙ ap (λ x. x ∷ []) (get_or-set_same xs (at % room) b 0 inside))

pub none-ring : (room : ℕ) (xs : List ℕ) (k n : ℕ) → n ≡ 0 → slice_get (ring room xs k n) 0 ≡ None
unfolding ring
none-ring room xs k zero h = refl
none-ring room xs k (suc n) h = absurd (omega arith)

pub first-ring : (room : ℕ) (xs : List ℕ) (k n : ℕ) → 0 < n → k < room
    → slice_get (ring room xs k n) 0 ≡ Some (get_or xs k 0)
unfolding ring
first-ring room xs k zero h l = absurd (omega arith)
first-ring room xs k (suc n) h l = ap (λ i. Some (get_or xs i 0)) (mod-eq_of_lt l)

-- the rest of a ring
pub drop-ring : (room : ℕ) (xs : List ℕ) (k m n : ℕ) → drop m (ring room xs k n) ≡ ring room xs (k + m) (n - m)
unfolding ring
drop-ring room xs k zero n =
    let a : k ≡ k + zero = omega arith in
    let b : n ≡ n - zero = omega arith in
    ap (λ i. ring room xs i n) a ∙ ap (λ i. ring room xs (k + zero) i) b
drop-ring room xs k (suc m) zero =
    let a : zero ≡ zero - suc m = omega arith in
    ap (λ i. ring room xs (k + suc m) i) a
drop-ring room xs k (suc m) (suc n) =
    let a : k + 1 + m ≡ k + suc m = omega arith in
    let b : n - m ≡ suc n - suc m = omega arith in
    drop-ring room xs (k + 1) m n ∙ ap (λ i. ring room xs i (n - m)) a ∙ ap (λ i. ring room xs (k + suc m) i) b
