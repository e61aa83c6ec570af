-- Numbers, digit by digit.
use Rattle.std.proofs.Common.{◌≡◌, ◌+◌, ◌-◌, ◌/◌, ◌%◌, ◌++◌, ◌<◌, ◌≤◌, ℕ, zero, List, [], ◌∷◌, None, Option, Some}
use Rattle.std.proofs.Common.{add-one, ap, append-nil, append_assoc, drop, drop-cons, get_or, length, option_map, refl}
use Rattle.std.proofs.Common.{suc, sym}
use Rattle.std.specs.Prelude.{Err, Ok, OnOk, Result, if◌then◌else◌}
use Rattle.std.specs.Result.{is_ok}
use native.Mathlib.Omega.{arith}
use Rattle.std.proofs.Math.ListN.{drop_of_length-le}
use Rattle.std.proofs.lemmas.Bool.{le-ltb, lt-ltb}
use Rattle.gdbwire.specs.Hex.{bytes_of, hex_digit, hex_up_to, number_from, number_of, pair_of, value_of, with_byte}
use Rattle.gdbwire.specs.Hex.{with_digit}

-- a number of digits begins with 0
pub begins : (codes : List ℕ) → 0 < length codes → number_of codes ≡ number_from (Some 0) codes
unfolding number_of
begins [] lt = absurd (omega (arith, lt))
begins (_ ∷ _) lt = refl

from-cons : (n code : ℕ) (codes : List ℕ)
    → number_from (Some n) (code ∷ codes) ≡ number_from (with_digit n (value_of code)) codes
unfolding number_from
from-cons n code codes = refl

-- the next digit makes the number more
pub next-digit : (n : ℕ) (codes : List ℕ) (k : ℕ) → k < length codes →
    number_from (Some n) (drop k codes) ≡ number_from (with_digit n (value_of (get_or codes k 0))) (drop (k + 1) codes)
next-digit n codes k lt =
    rw (drop-cons codes k 0 lt) (rw (add-one k) (from-cons n (get_or codes k 0) (drop (suc k) codes)))

-- no digits stand for no number
pub none-of-none : number_of [] ≡ None
unfolding number_of
none-of-none = refl

-- where a digit is none, there is no number
pub no-number : (codes : List ℕ) → number_from None codes ≡ None
unfolding number_from
no-number [] = refl
no-number (_ ∷ _) = refl

-- after the last digit the number is whole
pub whole : (n : ℕ) → number_from (Some n) [] ≡ Some n
unfolding number_from
whole n = refl

-- ---- digits, from the lowest on

pub short : (most n : ℕ) → (most ≡ 0 → ⊥) → n < 16 → hex_up_to most n ≡ hex_digit n ∷ []
unfolding hex_up_to
short zero n some less = absurd (some refl)
short (suc most) n some less = let same : n % 16 ≡ n = omega (arith, less) in rw (lt-ltb n 16 less, same) refl

pub long : (most n : ℕ) → (most ≡ 0 → ⊥) → 16 ≤ n
    → hex_up_to most n ≡ hex_up_to (most - 1) (n / 16) ++ hex_digit (n % 16) ∷ []
unfolding hex_up_to
long zero n some least = absurd (some refl)
long (suc most) n some least = let one : suc most - 1 ≡ most = omega arith in rw (le-ltb n 16 least, one) refl

-- what was put where memory doesn't fail
pub when-ok : {A E : Type 0} (r : Result A E) {new : List ℕ} (more old : List ℕ)
    → new ≡ (if is_ok r then more else old) → OnOk r (new ≡ more)
when-ok (Ok a) more old is = is
when-ok (Err e) more old is = tt

-- ---- bytes

-- a byte more
byte-more : (out : List ℕ) (byte : ℕ) (o : Option (List ℕ))
    → option_map (λ bytes. out ++ bytes) (with_byte (Some byte) o) ≡ option_map (λ bytes. (out ++ byte ∷ []) ++ bytes) o
byte-more out byte None = refl
byte-more out byte (Some bytes) = ap (λ x. Some x) (sym (append_assoc out (byte ∷ []) bytes))

two-digits : (digits : List ℕ) (at : ℕ) → at + 1 < length digits
    → bytes_of (drop at digits)
    ≡ with_byte (pair_of (value_of (get_or digits at 0)) (value_of (get_or digits (at + 1) 0)))
    (bytes_of (drop (at + 2) digits))
unfolding bytes_of
two-digits digits at within =
    let one : suc at ≡ at + 1 = omega arith in
    let two : suc (at + 1) ≡ at + 2 = omega arith in
    rw (drop-cons digits at 0 (omega (arith, within)), one, drop-cons digits (at + 1) 0 within, two) refl

pub bytes-more : (out digits : List ℕ) (at byte : ℕ) → at + 1 < length digits
    → pair_of (value_of (get_or digits at 0)) (value_of (get_or digits (at + 1) 0)) ≡ Some byte
    → option_map (λ bytes. out ++ bytes) (bytes_of (drop at digits))
    ≡ option_map (λ bytes. (out ++ byte ∷ []) ++ bytes) (bytes_of (drop (at + 2) digits))
bytes-more out digits at byte within is =
    rw (two-digits digits at within, is) (byte-more out byte (bytes_of (drop (at + 2) digits)))

-- no byte more
pub bytes-none : (digits : List ℕ) (at : ℕ) → at + 1 < length digits
    → pair_of (value_of (get_or digits at 0)) (value_of (get_or digits (at + 1) 0)) ≡ None
    → bytes_of (drop at digits) ≡ None
bytes-none digits at within is = rw (two-digits digits at within, is) refl

pub bytes-odd : (digits : List ℕ) (at : ℕ) → at + 1 ≡ length digits → bytes_of (drop at digits) ≡ None
unfolding bytes_of
bytes-odd digits at end =
    let past : length digits ≤ suc at = omega (arith, end) in
    let none : drop (suc at) digits ≡ [] = drop_of_length-le digits past in
    rw (drop-cons digits at 0 (omega (arith, end)), none) refl

pub bytes-end : (out digits : List ℕ) (at : ℕ)
    → length digits ≤ at → option_map (λ bytes. out ++ bytes) (bytes_of (drop at digits)) ≡ Some out
unfolding bytes_of
bytes-end out digits at end = rw (drop_of_length-le digits end, append-nil out) refl
