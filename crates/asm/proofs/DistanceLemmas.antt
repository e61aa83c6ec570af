-- Ways between addresses, and offsets, as fields.
use Rattle.asm.proofs.Common.{ℤ, ◌≡◌, ◌≤◌, ◌<◌, ◌∙◌, ◌+◌, ◌-◌, ◌*◌, ◌%◌, ◌/◌, ◌^◌, ℕ, Bool, Err, None, Ok, Result, Some}
use Rattle.asm.proofs.Common.{ap, arith, false, if◌then◌else◌, neg_ℤ, negsuc, not, pos, refl, suc, sym, true, zero}
use Rattle.asm.proofs.Common.{◌==◌, div-add-mod, mod-lt, mul_right_comm, pow-suc, le-leb, lt-leb, away, field, lies_in}
use Rattle.asm.proofs.Common.{AsmKind, field_within}
use Rattle.std.proofs.lemmas.Nat.{pow_pos}
use Rattle.std.proofs.Math.Pow.{pow-lt}
use Rattle.unixmodel.specs.Assembly as the
use Rattle.unixmodel.specs.declared.assembly.AsmKind.TheVariants as kind
use Rattle.asmtext.proofs.NumberLemmas.{field_negated, negative_within, positive_within}

-- ---- the distance between two addresses

pub ahead_in : (a b below above bits : ℕ) → a ≤ b → b - a ≤ above → above < 2 ^ bits
    → Some (b - a) ≡ field_within below above bits (away a b)
ahead_in a b below above bits h k l =
    ap (λ t. if t then Some (b - a) else None) (sym (le-leb (b - a) above k))
    ∙ positive_within below above bits (b - a) l
    ∙ ap (λ t. field_within below above bits (if t then pos (b - a) else neg_ℤ (pos (a - b)))) (sym (le-leb a b h))

pub back_in : (a b below above bits : ℕ) → b < a → a - b ≤ below → below < 2 ^ bits
    → Some (2 ^ bits - (a - b)) ≡ field_within below above bits (away a b)
back_in a b below above bits h k l =
    ap Some (sym (field_negated bits (a - b) (omega arith) (omega arith)))
    ∙ negative_within below above bits (a - b) (Some (a - b))
    (ap (λ t. if t then Some (a - b) else None) (sym (le-leb (a - b) below k)))
    ∙ ap (λ t. field_within below above bits (if t then pos (b - a) else neg_ℤ (pos (a - b)))) (sym (lt-leb a b h))

-- ---- offsets: whether one is odd shows in its field

pub half_less : (bits : ℕ) → 1 ≤ bits → 2 ^ (bits - 1) < 2 ^ bits
half_less bits h = pow-lt (omega arith)

odd_part : (n m : ℕ) → n % (m * 2) % 2 ≡ n % 2
odd_part n m =
    let whole : m * 2 * (n / (m * 2)) + n % (m * 2) ≡ n = div-add-mod n (m * 2) in
    let twice : m * 2 * (n / (m * 2)) ≡ m * (n / (m * 2)) * 2 = mul_right_comm m 2 (n / (m * 2)) in
    omega (arith, whole, twice)

parity : (bits : ℕ) (n : ℤ) → 1 ≤ bits → field bits n % 2 ≡ field 1 n
parity zero n h = absurd (omega arith)
parity (suc k) (pos n) h = let two : 2 ^ suc k ≡ 2 ^ k * 2 = pow-suc 2 k in rw two (odd_part n (2 ^ k))
parity (suc k) (negsuc n) h =
    let two : 2 ^ suc k ≡ 2 ^ k * 2 = pow-suc 2 k in
    let odd : n % (2 ^ k * 2) % 2 ≡ n % 2 = odd_part n (2 ^ k) in
    let some : 0 < 2 ^ k * 2 = let one : 0 < 2 ^ k = pow_pos k in omega (arith, one) in
    let less : n % (2 ^ k * 2) < 2 ^ k * 2 = mod-lt n some in
    rw two (omega (arith, odd, less))

abbrev tested : (bits : ℕ) (n : ℤ) → Result ℕ AsmKind
tested bits n = if field 1 n == 1 then Err kind.Align else Ok (field bits n)

offset_some : (bits : ℕ) (n : ℤ) (found : ℕ) → Some found ≡ field_within (2 ^ (bits - 1)) (2 ^ (bits - 1) - 1) bits n
    → (found ≡ field bits n) × (the.offset_field bits n ≡ tested bits n)
offset_some bits n found e = step (lies_in (2 ^ (bits - 1)) (2 ^ (bits - 1) - 1) n) e
  where
    step : (b : Bool) → Some found ≡ (if b then Some (field bits n) else None)
        → (found ≡ field bits n) × ((if not b then Err kind.Range else tested bits n) ≡ tested bits n)
    step true h = (grind (arith, h), refl)
    step false h = grind (arith, h)

-- an offset that is found, by whether it is odd
pub offset_is : (bits : ℕ) (n : ℤ) (found : ℕ) → 1 ≤ bits
    → Some found ≡ field_within (2 ^ (bits - 1)) (2 ^ (bits - 1) - 1) bits n
    → (if found % 2 == 1 then Err kind.Align else Ok found) ≡ the.offset_field bits n
offset_is bits n found h e =
    let both = offset_some bits n found e in
    let one : field 1 n ≡ found % 2 = sym (parity bits n h) ∙ ap (λ f. f % 2) (sym both.0) in
    rw (both.1, one, ← both.0) refl
