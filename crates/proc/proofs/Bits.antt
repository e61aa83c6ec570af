-- The bits of a number, and the slots of a mask.
use Rattle.proc.proofs.Common.{Bool, List, ap, arith, false, inl, inr, length, refl, sym, suc, true, w64, zero, ℕ, ◌%◌}
use Rattle.proc.proofs.Common.{◌*◌, ◌+◌, ◌-◌, ◌/◌, ◌<◌, ◌==◌, ◌∙◌, ◌≡◌, ◌≢◌, ◌≤◌, ◌^◌, bit_and, bit_or, slice_set}
use Rattle.proc.proofs.Common.{cases_eq, cases_lt, ext_get_or, get_or-set_other, get_or-set_same, set_past, IsNext}
use Rattle.proc.proofs.Common.{NoneIsIn, bits_of, is_in, place_in_round}
use Rattle.std.specs.Int.{bit_at, bit_not, rotate_right, trailing_zeros}
use Rattle.std.proofs.lemmas.List.{length-set}
use Rattle.std.proofs.lemmas.Nat.{mod_below, or_lt, pow_pos, shr-shr, shr_le, shr_split}
use Rattle.std.proofs.lemmas.Nat.Bits.{bit_at-suc, bit_at-trailing_zeros, bit_at-zero, bit_at_above, bit_at_cat_high}
use Rattle.std.proofs.lemmas.Nat.Bits.{bit_at_cat_low, bit_at_clear_other, bit_at_clear_same, bit_at_lowest, bit_at_or}
use Rattle.std.proofs.lemmas.Nat.Bits.{bit_at_set_other, bit_at_set_same, shr_and_one}

-- ---- the list of bits

pub length-bits_of : (w n : ℕ) → length (bits_of w n) ≡ w
unfolding bits_of
length-bits_of zero n = refl
length-bits_of (suc w) n = ap suc (length-bits_of w _)

pub bit-in : (w n i : ℕ) → i < w → is_in (bits_of w n) i ≡ (bit_at n i == 1)
unfolding bits_of
bit-in zero n i h = absurd (omega arith)
bit-in (suc w) n zero h = ap (λ b. b == 1) (sym (bit_at_lowest n))
bit-in (suc w) n (suc i) h = bit-in w _ i (omega arith) ∙ ap (λ b. b == 1) (sym (bit_at-suc n i))

-- m has the bits of n, except for one
module _ (n m at : ℕ) (b : Bool) (low : at < 64) (here : (bit_at m at == 1) ≡ b)
    (others : (i : ℕ) → i < 64 → i ≢ at → bit_at m i ≡ bit_at n i) where
  one-bit : (i : ℕ) → i < 64 → is_in (bits_of 64 m) i ≡ is_in (slice_set (bits_of 64 n) at b) i
  one-bit i h = elim (cases_eq i at) [
    | inl same ↦ rw same (bit-in 64 m at low ∙ here
        ∙ sym (get_or-set_same (bits_of 64 n) at b true (omega (arith, length-bits_of 64 n))))
    | inr other ↦ bit-in 64 m i h ∙ ap (λ x. x == 1) (others i h other) ∙ sym (bit-in 64 n i h)
        ∙ sym (get_or-set_other (bits_of 64 n) at i b true other)
  ]

  one-changed : bits_of 64 m ≡ slice_set (bits_of 64 n) at b
  one-changed = ext_get_or true (bits_of 64 m) (slice_set (bits_of 64 n) at b)
      (length-bits_of 64 m ∙ sym (length-set (bits_of 64 n) at b ∙ length-bits_of 64 n))
      (λ i h. one-bit i (omega (arith, length-bits_of 64 m)))

pub bit-set : (n at : ℕ) → at < 64 → bits_of 64 (bit_or n (1 * 2 ^ at % 2 ^ 64)) ≡ slice_set (bits_of 64 n) at true
bit-set n at low = one-changed n (bit_or n (1 * 2 ^ at % 2 ^ 64))
    at true low (ap (λ b. b == 1) (bit_at_set_same w64 n at low)) (λ i h other. bit_at_set_other w64 n at low i other)

-- there is no such slot
pub bit-past : (n at : ℕ) → 64 ≤ at → bits_of 64 n ≡ slice_set (bits_of 64 n) at true
bit-past n at past = sym (set_past (bits_of 64 n) at true (omega (arith, length-bits_of 64 n)))

pub bit-cleared : (n at : ℕ) → at < 64
    → bits_of 64 (bit_and n (bit_not w64 (1 * 2 ^ at % 2 ^ 64))) ≡ slice_set (bits_of 64 n) at false
bit-cleared n at low = one-changed n (bit_and n (bit_not w64 (1 * 2 ^ at % 2 ^ 64)))
    at false low (ap (λ b. b == 1) (bit_at_clear_same w64 n at low))
    (λ i h other. bit_at_clear_other w64 n at low i h other)

-- the test of a bit
pub bit-tested : (n at : ℕ) → at < 64 → (bit_and (n / 2 ^ at) 1 == 1) ≡ is_in (bits_of 64 n) at
bit-tested n at low = ap (λ b. b == 1) (shr_and_one n at) ∙ sym (bit-in 64 n at low)

-- ---- a number that is rotated

-- the low bits are those of what is cut off
cut-bit : (n s : ℕ) {j : ℕ} → j < 64 → bit_at (n * 2 ^ s % 2 ^ 64) j ≡ bit_at (n * 2 ^ s + 0) j
cut-bit n s {j} low =
    let whole : n * 2 ^ s ≡ n * 2 ^ s + 0 = omega arith in
    sym (bit_at_cat_low _ 64 _ j low) ∙ ap (λ y. bit_at y j) (shr_split (n * 2 ^ s) 64 ∙ whole)

shifted-low : (n s j : ℕ) → j < 64 → j < s → bit_at (n * 2 ^ s % 2 ^ 64) j ≡ 0
shifted-low n s j low below = cut-bit n s low ∙ bit_at_cat_low n s 0 j below ∙ bit_at-zero j

shifted-high : (n s j : ℕ) → j < 64 → s ≤ j → bit_at (n * 2 ^ s % 2 ^ 64) j ≡ bit_at n (j - s)
shifted-high n s j low above = cut-bit n s low ∙ bit_at_cat_high n s 0 j (pow_pos s) above

right-bit : (n r j : ℕ) → bit_at (n / 2 ^ r) j ≡ bit_at n (r + j)
right-bit n r j = ap (λ x. x % 2) (shr-shr n r j)

turned-bit : (n r : ℕ) {s : ℕ} (j : ℕ) → n < 2 ^ 64 → j < 64 → r < 64 → s ≡ (64 - r) % 64
    → bit_at (bit_or (n / 2 ^ r) (n * 2 ^ s % 2 ^ 64)) j ≡ bit_at n ((j + r) % 64)
turned-bit n r {s} j fits short low is = elim (cases_lt (j + r) 64) [
  | inl inside ↦
      let at : r + j ≡ (j + r) % 64 = omega arith in
      elim (cases_eq r 0) [
        | inl none ↦ (let there : j - s ≡ r + j = omega arith
            in rw (bit_at_or, right-bit, shifted-high n s j short (omega arith), there, at) (omega arith))
        | inr some ↦ rw (bit_at_or, right-bit, shifted-low n s j short (omega arith), at) (omega arith)
      ]
  | inr past ↦ (let at : j - s ≡ (j + r) % 64 = omega arith
      in rw (
        bit_at_or,
        right-bit,
        bit_at_above n 64 (r + j) fits (omega arith),
        shifted-high n s j short (omega arith),
        at,
      ) (omega arith))
]

rotated-bit : (n r j : ℕ) → n < 2 ^ 64 → j < 64 → r < 64 → bit_at (rotate_right w64 n r) j ≡ bit_at n ((j + r) % 64)
rotated-bit n r j fits short low = let same : r % 64 ≡ r = omega arith in rw same (turned-bit n r j fits short low refl)

rotated-fits : (n r : ℕ) → n < 2 ^ 64 → rotate_right w64 n r < 2 ^ 64
rotated-fits n r fits = or_lt 64 (n / 2 ^ (r % 64)) (n * 2 ^ ((64 - r % 64) % 64) % 2 ^ 64)
    (omega (arith, fits, shr_le n (r % 64))) (mod_below _ _ (pow_pos 64))

-- ---- the lowest bit

-- no bit below bit t is 1, and bit t is 1, if there is one
record IsLowest (n t : ℕ) : Type 0 where
  pub below : (i : ℕ) → i < t → i < 64 → bit_at n i ≡ 0
  pub there : t < 64 → bit_at n t ≡ 1

lowest : {n : ℕ} → n < 2 ^ 64 → IsLowest n (trailing_zeros w64 n)
unfolding lib.Count.count_trailing_zeros
lowest {n} fits = elim (cases_lt 0 n) [
  | inl some ↦ (let l = bit_at-trailing_zeros w64 n some fits
      in record { below = λ i less short. l.2 i less; there = λ short. l.1 })
  | inr none ↦
      let zero' : n ≡ 0 = omega arith in
      let all : trailing_zeros w64 n ≡ 64 = ap (trailing_zeros w64) zero' in
      record {
        below = λ i less short. ap (λ x. bit_at x i) zero' ∙ bit_at-zero i;
        there = λ short. absurd (omega arith);
      }
]

-- ---- the next slot of a mask

-- the mask is the bits of n; ahead: n, rotated so that its bits begin with that turn
module _ {n last turn ahead : ℕ} {places : List Bool} (shows : bits_of 64 n ≡ places)
    (turns : ahead ≡ rotate_right w64 n ((last + turn) % 64)) (fits : n < 2 ^ 64) (in_last : last < 64)
    (in_turn : (1 ≤ turn) × (turn ≤ 65)) where
  first : IsLowest ahead (trailing_zeros w64 ahead)
  first = lowest (rw turns (rotated-fits n _ fits))

  place-bit : {k : ℕ} → turn ≤ k → k ≤ 64 → is_in places (place_in_round last k) ≡ (bit_at ahead (k - turn) == 1)
  place-bit {k} low high =
      let same : place_in_round last k ≡ ((k - turn) + (last + turn) % 64) % 64 = omega arith in
      rw (
        ← shows,
        bit-in 64 n (place_in_round last k) (omega arith),
        turns,
        rotated-bit n ((last + turn) % 64) (k - turn) fits (omega arith) (omega arith),
        same,
      ) refl

  passed : {k : ℕ} → turn ≤ k → k ≤ 64 → k < turn + trailing_zeros w64 ahead
      → is_in places (place_in_round last k) ≡ false
  passed {k} low high less = place-bit low high ∙ ap (λ b. b == 1) (first.below (k - turn) (omega arith) (omega arith))

  pub finds-one : turn + trailing_zeros w64 ahead ≤ 64 → IsNext places last turn (turn + trailing_zeros w64 ahead)
  finds-one within =
      let back : turn + trailing_zeros w64 ahead - turn ≡ trailing_zeros w64 ahead = omega arith in
      record {
        in_round = (omega arith, within);
        there = place-bit (omega arith) within ∙ rw (back, first.there (omega arith)) refl;
        before = λ j low high. passed low (omega arith) high;
      }

  pub finds-none : 64 < turn + trailing_zeros w64 ahead → NoneIsIn places last turn 65
  finds-none over = λ k low high. passed low (omega arith) (omega arith)
