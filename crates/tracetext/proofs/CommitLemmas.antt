-- Lines that are put together from parts, and digits.
use Rattle.std.proofs.Common.{◌≡◌, ◌+◌, ◌-◌, ◌≤◌, ◌++◌, ◌∙◌, ℕ, List, ap, append_assoc, arith, drop, length, refl, suc}
use Rattle.std.proofs.Common.{decimal, take, zero, zero-add, ◌<◌, ◌∷◌, []}
use Rattle.std.proofs.lemmas.Fmt.{decimal_digit}
use Rattle.std.proofs.lemmas.List.{length-drop, take_all}
use Rattle.tracetext.specs.Commits.{at_right, low_digits}

-- what was put after what was put before
pub both : (old a b : List ℕ) {mid new : List ℕ} → mid ≡ old ++ a → new ≡ mid ++ b → new ≡ old ++ (a ++ b)
both old a b first second = second ∙ ap (λ text. text ++ b) first ∙ append_assoc old a b

-- the last m of more digits
later : (k m n : ℕ) → drop k (low_digits (k + m) n) ≡ low_digits m n
unfolding low_digits
later zero m n = ap (λ count. low_digits count n) (zero-add m)
later (suc k) m n = let e : suc k + m ≡ suc (k + m) = omega arith in rw e (later k m n)

sixteen : (n : ℕ) → length (low_digits 16 n) ≡ 16
unfolding low_digits
sixteen n = refl

pub last_digits : (m n : ℕ) → m ≤ 16 → take (16 - (16 - m)) (drop (16 - m) (low_digits 16 n)) ≡ low_digits m n
last_digits m n le =
    let whole : 16 ≡ 16 - m + m = omega arith in
    let fits : length (drop (16 - m) (low_digits 16 n)) ≤ 16 - (16 - m) =
    rw (length-drop (16 - m) (low_digits 16 n)) (rw (sixteen n) (omega arith)) in
    take_all (16 - (16 - m)) (drop (16 - m) (low_digits 16 n)) fits
    ∙ ap (λ count. drop (16 - m) (low_digits count n)) whole ∙ later (16 - m) m n

-- a digit at the right of four columns
pub one_digit : (n : ℕ) → n < 10 → at_right (decimal n) ≡ 32 ∷ 32 ∷ 32 ∷ (48 + n) ∷ []
one_digit n lt = ap at_right (decimal_digit n lt)
