-- Lemmas on numbers that are tested, and on their fields.
use Rattle.asmtext.proofs.Common.{ℤ, ◌≡◌, ◌≤◌, ◌<◌, ◌∙◌, ◌-◌, ◌%◌, ◌^◌, ℕ, Bool, None, Option, Some, ap, arith, false}
use Rattle.asmtext.proofs.Common.{option_map, refl, true, nat_le, if◌then◌else◌, pos, neg_ℤ, negsuc, suc, zero, sym}
use Rattle.asmtext.proofs.Common.{nat_tests, field_within}
use Rattle.std.proofs.Math.Nat.{mod-eq_of_lt, mod-lt}
use Rattle.std.proofs.lemmas.Nat.{pow_pos}
use Rattle.unixmodel.specs.Numbers.{field, lies_in}

pub none_above : (n most : ℕ) → most < n → None ≡ (if nat_le n most then Some n else None)
none_above n most h = grind (arith, nat_tests)

pub field_negated : (bits size : ℕ) → 0 < size → size < 2 ^ bits → field bits (neg_ℤ (pos size)) ≡ 2 ^ bits - size
field_negated bits zero h k = absurd (omega arith)
field_negated bits (suc n) h k = let e : n % 2 ^ bits ≡ n = mod-eq_of_lt (omega arith) in ap (λ r. 2 ^ bits - 1 - r) e
    ∙ omega arith

lies_negated : (below above size : ℕ) → lies_in below above (neg_ℤ (pos size)) ≡ nat_le size below
lies_negated below above zero = grind (arith, nat_tests)
lies_negated below above (suc n) = grind (arith, nat_tests)

pub negative_within : (below above bits n : ℕ) (found : Option ℕ) → found ≡ (if nat_le n below then Some n else None)
    → option_map (λ size. field bits (neg_ℤ (pos size))) found ≡ field_within below above bits (neg_ℤ (pos n))
negative_within below above bits n found e =
    rw (e, lies_negated below above n) (pass (nat_le n below))
  where
    pass : (b : Bool) → option_map (λ size. field bits (neg_ℤ (pos size))) (if b then Some n else None)
        ≡ (if b then Some (field bits (neg_ℤ (pos n))) else None)
    pass true = refl
    pass false = refl

pub positive_within : (below above bits n : ℕ) → above < 2 ^ bits
    → (if nat_le n above then Some n else None) ≡ field_within below above bits (pos n)
positive_within below above bits n h = step (nat_le n above) refl
  where
    step : (b : Bool) → nat_le n above ≡ b → (if b then Some n else None) ≡ (if b then Some (n % 2 ^ bits) else None)
    step true e = let le : n ≤ above = grind (arith, nat_tests, e) in ap Some (sym (mod-eq_of_lt (omega arith)))
    step false e = refl

field_below : (bits : ℕ) (n : ℤ) → field bits n < 2 ^ bits
field_below bits (pos n) = mod-lt n (pow_pos bits)
field_below bits (negsuc n) = let h : 0 < 2 ^ bits = pow_pos bits in omega (arith, h)

-- a field that is found has no more bits
pub field_fits : (below above bits found : ℕ) (n : ℤ) → Some found ≡ field_within below above bits n → found < 2 ^ bits
field_fits below above bits found n e = step (lies_in below above n) e
  where
    step : (b : Bool) → Some found ≡ (if b then Some (field bits n) else None) → found < 2 ^ bits
    step true h = let is : found ≡ field bits n = grind (arith, h) in let less : field bits n < 2 ^ bits =
        field_below bits n in omega (arith, is, less)
    step false h = grind (arith, h)
