-- Digits that are made sixteen at once, lane by lane.
use Rattle.std.proofs.Common.{add-zero, ◌≡◌, ◌<◌, ◌∙◌, ◌++◌, ◌∷◌, ◌+◌, ◌*◌, ◌/◌, ◌%◌, ◌^◌, ℕ, List, [], ap, arith}
use Rattle.std.proofs.Common.{bit_and, cond, length, ltb, map, refl, replicate, suc, sym, zero}
use Rattle.std.proofs.Math.Nat.{div-div-eq-div-mul}
use Rattle.tracetext.specs.Commits.{digit_of, low_digits, low_halves}
use lib.Bits.{and_mask}
use lib.Lanes.{Each1, digits_l, number_l, pick_l, sel_l, top, zip2}

-- ---- the digits of numbers below 16

-- what the code makes of n lanes
abbrev pub spelled : ℕ → List ℕ → List ℕ
spelled n xs = zip2 (λ a b. (a + b) % 256) (zip2 (λ a b. (a + b) % 256) xs (replicate n 48))
    (sel_l (map (top 7) (zip2 (λ a b. cond (ltb a b) 255 0) (replicate n 9) xs)) (replicate n 39) (replicate n 0))

one_lane : (x : ℕ) → x < 16
    → ((x + 48) % 256 + cond (top 7 (cond (ltb 9 x) 255 0)) 39 0) % 256 ≡ digit_of x
one_lane zero small = refl
one_lane (suc zero) small = refl
one_lane (suc (suc zero)) small = refl
one_lane (suc (suc (suc zero))) small = refl
one_lane (suc (suc (suc (suc zero)))) small = refl
one_lane (suc (suc (suc (suc (suc zero))))) small = refl
one_lane (suc (suc (suc (suc (suc (suc zero)))))) small = refl
one_lane (suc (suc (suc (suc (suc (suc (suc zero))))))) small = refl
one_lane (suc (suc (suc (suc (suc (suc (suc (suc zero)))))))) small = refl
one_lane (suc (suc (suc (suc (suc (suc (suc (suc (suc zero))))))))) small = refl
one_lane (suc (suc (suc (suc (suc (suc (suc (suc (suc (suc zero)))))))))) small = refl
one_lane (suc (suc (suc (suc (suc (suc (suc (suc (suc (suc (suc zero))))))))))) small = refl
one_lane (suc (suc (suc (suc (suc (suc (suc (suc (suc (suc (suc (suc zero)))))))))))) small = refl
one_lane (suc (suc (suc (suc (suc (suc (suc (suc (suc (suc (suc (suc (suc zero))))))))))))) small = refl
one_lane (suc (suc (suc (suc (suc (suc (suc (suc (suc (suc (suc (suc (suc (suc zero)))))))))))))) small = refl
one_lane (suc (suc (suc (suc (suc (suc (suc (suc (suc (suc (suc (suc (suc (suc (suc zero))))))))))))))) small = refl
one_lane (suc (suc (suc (suc (suc (suc (suc (suc (suc (suc (suc (suc (suc (suc (suc (suc n)))))))))))))))) small =
    absurd (omega arith)

each_lane : (xs : List ℕ) → Each1 (λ x. x < 16) xs → spelled (length xs) xs ≡ map digit_of xs
each_lane [] small = refl
each_lane (x ∷ xs) small = λ i. one_lane x small.0 i ∷ each_lane xs small.1 i

pub all_lanes : (n : ℕ) (xs : List ℕ) → length xs ≡ n → Each1 (λ x. x < 16) xs → spelled n xs ≡ map digit_of xs
all_lanes n xs long small = ap (λ k. spelled k xs) (sym long) ∙ each_lane xs small

-- ---- the halves of bytes

-- the lowest eight bytes of a number, the lowest first
abbrev pub bytes_of : ℕ → List ℕ
bytes_of n = (n % 256) ∷ (n / 256 ^ 1 % 256) ∷ (n / 256 ^ 2 % 256) ∷ (n / 256 ^ 3 % 256) ∷ (n / 256 ^ 4 % 256)
    ∷ (n / 256 ^ 5 % 256) ∷ (n / 256 ^ 6 % 256) ∷ (n / 256 ^ 7 % 256) ∷ []

next : (x n p q : ℕ) → q ≡ p * 256 → x ≡ n / p → x / 256 ≡ n / q
next x n p q is e = ap (λ m. m / 256) e ∙ div-div-eq-div-mul n p 256 ∙ ap (λ d. n / d) (sym is)

digits-are-bytes : (n : ℕ) → digits_l 256 8 n ≡ bytes_of n
digits-are-bytes n =
    let second : n / 256 ≡ n / 256 ^ 1 = refl in
    let third = next (n / 256) n (256 ^ 1) (256 ^ 2) refl second in
    let fourth = next _ n (256 ^ 2) (256 ^ 3) refl third in
    let fifth = next _ n (256 ^ 3) (256 ^ 4) refl fourth in
    let sixth = next _ n (256 ^ 4) (256 ^ 5) refl fifth in
    let seventh = next _ n (256 ^ 5) (256 ^ 6) refl sixth in
    let eighth = next _ n (256 ^ 6) (256 ^ 7) refl seventh in
    λ i. (n % 256) ∷ (second i % 256) ∷ (third i % 256) ∷ (fourth i % 256) ∷ (fifth i % 256) ∷ (sixth i % 256)
    ∷ (seventh i % 256) ∷ (eighth i % 256) ∷ []

upper_half : (n p q : ℕ) → q ≡ p * 16 → n / p % 256 / 16 ≡ n / q % 16
upper_half n p q is = omega (arith, div-div-eq-div-mul n p 16, ap (λ d. n / d) is)

lower_half : (n p : ℕ) → bit_and (n / p % 256) 15 ≡ n / p % 16
lower_half n p = and_mask (n / p % 256) 4 ∙ omega arith

lowest_upper_half : (n : ℕ) → n % 256 / 16 ≡ n / 16 % 16
lowest_upper_half n = omega arith

lowest_half : (n : ℕ) → bit_and (n % 256) 15 ≡ n / 1 % 16
lowest_half n = and_mask (n % 256) 4 ∙ omega arith

-- what the code makes of bytes, the lowest first
abbrev pub halves : List ℕ → List ℕ
halves bytes = pick_l 0 (zip2 (λ a b. a / 2 ^ b) bytes (replicate 8 4) ++ zip2 bit_and bytes (replicate 8 15))
    (7 ∷ 15 ∷ 6 ∷ 14 ∷ 5 ∷ 13 ∷ 4 ∷ 12 ∷ 3 ∷ 11 ∷ 2 ∷ 10 ∷ 1 ∷ 9 ∷ 0 ∷ 8 ∷ [])

halves-of : (n : ℕ) → halves (bytes_of n) ≡ low_halves 16 n
unfolding low_halves
halves-of n = λ i.
    upper_half n (256 ^ 7) (16 ^ 15) refl i ∷ lower_half n (256 ^ 7) i
    ∷ upper_half n (256 ^ 6) (16 ^ 13) refl i ∷ lower_half n (256 ^ 6) i
    ∷ upper_half n (256 ^ 5) (16 ^ 11) refl i ∷ lower_half n (256 ^ 5) i
    ∷ upper_half n (256 ^ 4) (16 ^ 9) refl i ∷ lower_half n (256 ^ 4) i
    ∷ upper_half n (256 ^ 3) (16 ^ 7) refl i ∷ lower_half n (256 ^ 3) i
    ∷ upper_half n (256 ^ 2) (16 ^ 5) refl i ∷ lower_half n (256 ^ 2) i
    ∷ upper_half n (256 ^ 1) (16 ^ 3) refl i ∷ lower_half n (256 ^ 1) i
    ∷ lowest_upper_half n i ∷ lowest_half n i
    ∷ []

pub halves_of_bytes : (n : ℕ) → halves (digits_l 256 8 (number_l (2 ^ 64) (n ∷ []))) ≡ low_halves 16 n
halves_of_bytes n =
    ap (λ m. halves (digits_l 256 8 m)) (add-zero n) ∙ ap halves (digits-are-bytes n) ∙ halves-of n

-- ---- all digits of a number

pub halves_are_small : (k n : ℕ) → Each1 (λ x. x < 16) (low_halves k n)
unfolding low_halves
halves_are_small zero n = tt
halves_are_small (suc k) n = (omega arith, halves_are_small k n)

pub digits_of_halves : (k n : ℕ) → map digit_of (low_halves k n) ≡ low_digits k n
unfolding low_digits low_halves
digits_of_halves zero n = refl
digits_of_halves (suc k) n = ap (λ more. digit_of (n / 16 ^ k % 16) ∷ more) (digits_of_halves k n)
