-- How long sleeps have lasted, as numbers.
use Rattle.std.proofs.Common.{arith, Bool, false, refl, sym, true, ℕ, ℤ, ap, ◌%◌, ◌+◌, ◌-◌, ◌<◌}
use Rattle.std.proofs.Common.{List, ◌^◌, ◌∙◌, ◌≡◌, ◌≤◌}
use Rattle.std.proofs.Math.Facts.{Fits-of_lt, sfits_to_z}
use Rattle.std.proofs.Math.Dec.{leb-zero}
use Rattle.std.proofs.lemmas.Bool.{eqb-false, eqb-true, le-leb, leb-false, leb-true, lt-leb}
use Rattle.std.specs.Int.{w32}
use Rattle.std.specs.Prelude.{FitsSigned, if◌then◌else◌, nat_eq, nat_le, negsuc, pos, slice_index, unwrap_or, ◌&&◌}
use Rattle.schedules.specs.Alike.{is_sleep}
use Rattle.unixmodel.specs.Numbers.{int_of, natural}
use Rattle.unixmodel.specs.declared.call.Call.{Call}
use Rattle.unixmodel.specs.declared.call.Call.TheVariants.{Sleep}

-- how long a call to sleep was to last
abbrev pub asked : List ℕ → ℕ
asked args = unwrap_or (natural (int_of (slice_index args 0))) 0

-- how long one that began then has lasted
abbrev pub lasted : ℕ → ℕ → ℕ
lasted k since = (k + (2 ^ 32 - since)) % 2 ^ 32

asked-z : (z : ℤ) → FitsSigned w32 z → unwrap_or (natural z) 0 < 2 ^ 31
asked-z (pos n) fits = let small : n < 2 ^ 31 = fits.sfits in omega (arith, small)
asked-z (negsuc n) fits = omega arith

pub asked-small : (args : List ℕ) → asked args < 2 ^ 31
asked-small args = asked-z (int_of (slice_index args 0)) (sfits_to_z (Fits-of_lt (omega arith)))

-- ---- a sleep that is over has just come to its end

-- when a call is taken to have begun
abbrev pub settled_since : Call → ℕ → ℕ → ℕ → ℕ
settled_since number k a since =
    if is_sleep number && nat_le a (lasted k since) then (k + (2 ^ 32 - a)) % 2 ^ 32 else since

and-right : (b c : Bool) → (b && c) ≡ true → c ≡ true
and-right true c both = both
and-right false c both = absurd cc

now-by : (k a : ℕ) (b : Bool) → k < 2 ^ 32 → (b ≡ true → a ≤ lasted k k)
    → (if b then (k + (2 ^ 32 - a)) % 2 ^ 32 else k) ≡ k
now-by k a true clock less = let none : a ≤ lasted k k = less refl in omega (arith, clock, none)
now-by k a false clock less = refl

-- a call that begins now
pub settled-now : (number : Call) (k a : ℕ) → k < 2 ^ 32 → settled_since number k a k ≡ k
settled-now number k a clock = now-by k a (is_sleep number && nat_le a (lasted k k)) clock
    (λ both. leb-true a (lasted k k) (and-right (is_sleep number) (nat_le a (lasted k k)) both))

over-by : (k a since : ℕ) (b : Bool) → nat_le a (lasted k since) ≡ b
    → nat_le a (lasted k (if b then (k + (2 ^ 32 - a)) % 2 ^ 32 else since)) ≡ b
over-by k a since true over =
    let less = leb-true a (lasted k since) over in
    le-leb a (lasted k ((k + (2 ^ 32 - a)) % 2 ^ 32)) (omega (arith, less))
over-by k a since false over = over

-- it is over as it was
pub settled-over : (k a since : ℕ) → nat_le a (lasted k (settled_since Sleep k a since)) ≡ nat_le a (lasted k since)
settled-over k a since = over-by k a since (nat_le a (lasted k since)) refl

-- as its clock is set back
abbrev pub back_since : Call → ℕ → ℕ → ℕ
back_since number k since = if is_sleep number then (2 ^ 32 - lasted k since) % 2 ^ 32 else 0

back-by : (k a since : ℕ) (b : Bool) → nat_le a (lasted k since) ≡ b
    → (2 ^ 32 - lasted k (if b then (k + (2 ^ 32 - a)) % 2 ^ 32 else since)) % 2 ^ 32
    ≡ (2 ^ 32 - lasted 0 (if b then (0 + (2 ^ 32 - a)) % 2 ^ 32 else (2 ^ 32 - lasted k since) % 2 ^ 32)) % 2 ^ 32
back-by k a since true over = let less = leb-true a (lasted k since) over in omega (arith, less)
back-by k a since false over = omega arith

-- it may be set back first
pub settled-back : (number : Call) (k a since : ℕ)
    → back_since number k (settled_since number k a since)
    ≡ back_since number 0 (settled_since number 0 a (back_since number k since))
settled-back Sleep k a since =
    let same : lasted 0 ((2 ^ 32 - lasted k since) % 2 ^ 32) ≡ lasted k since = omega arith in
    back-by k a since (nat_le a (lasted k since)) refl
    ∙ sym (ap (λ y. (2 ^ 32 - lasted 0 (if nat_le a y then (0 + (2 ^ 32 - a)) % 2 ^ 32
    else (2 ^ 32 - lasted k since) % 2 ^ 32)) % 2 ^ 32) same)
settled-back _ k a since = refl

-- ---- a tick later

-- a call is settled a tick later, settled before or not
again-by : (k a since : ℕ) (b : Bool) → nat_le a (lasted k since) ≡ b → lasted k since + 1 < 2 ^ 32
    → settled_since Sleep ((k + 1) % 2 ^ 32) a (if b then (k + (2 ^ 32 - a)) % 2 ^ 32 else since)
    ≡ settled_since Sleep ((k + 1) % 2 ^ 32) a since
again-by k a since true over short =
    let less = leb-true a (lasted k since) over in
    let j = (k + 1) % 2 ^ 32 in
    let here : nat_le a (lasted j ((k + (2 ^ 32 - a)) % 2 ^ 32)) ≡ true = le-leb a _ (omega (arith, less, short)) in
    let there : nat_le a (lasted j since) ≡ true = le-leb a _ (omega (arith, less, short)) in
    ap (λ b. if b then (j + (2 ^ 32 - a)) % 2 ^ 32 else (k + (2 ^ 32 - a)) % 2 ^ 32) here
    ∙ sym (ap (λ b. if b then (j + (2 ^ 32 - a)) % 2 ^ 32 else since) there)
again-by k a since false over short = refl

pub settled-again : (number : Call) (k a since : ℕ) → (is_sleep number ≡ true → lasted k since + 1 < 2 ^ 32)
    → settled_since number ((k + 1) % 2 ^ 32) a (settled_since number k a since)
    ≡ settled_since number ((k + 1) % 2 ^ 32) a since
settled-again Sleep k a since short = again-by k a since (nat_le a (lasted k since)) refl (short refl)
settled-again _ k a since short = refl

-- one that is over is settled now as a tick later
pub settled-late : (number : Call) (k a since : ℕ) → (is_sleep number ≡ true → lasted k since + 1 < 2 ^ 32)
    → (is_sleep number ≡ true → nat_le a (lasted k since) ≡ true)
    → back_since number k (settled_since number k a since)
    ≡ back_since number ((k + 1) % 2 ^ 32) (settled_since number ((k + 1) % 2 ^ 32) a since)
settled-late Sleep k a since short over =
    let less = leb-true a (lasted k since) (over refl) in
    let still = short refl in
    let j = (k + 1) % 2 ^ 32 in
    let there : nat_le a (lasted j since) ≡ true = le-leb a _ (omega (arith, less, still)) in
    ap (λ b. (2 ^ 32 - lasted k (if b then (k + (2 ^ 32 - a)) % 2 ^ 32 else since)) % 2 ^ 32) (over refl)
    ∙ omega (arith, less, still)
    ∙ sym (ap (λ b. (2 ^ 32 - lasted j (if b then (j + (2 ^ 32 - a)) % 2 ^ 32 else since)) % 2 ^ 32) there)
settled-late _ k a since short over = refl

-- ---- a sleep that has lasted more than n ticks

-- for how long another one may have lasted that is over as it is
abbrev pub other_time : ℕ → ℕ → ℕ
other_time a y = if nat_le a y then (if nat_eq y a then a + 1 else a) else 0

-- it is taken for that one
abbrev pub limited_since : ℕ → Call → ℕ → ℕ → ℕ → ℕ
limited_since n number k a since =
    if is_sleep number
    then (if nat_le (lasted k since) n then since else (k + (2 ^ 32 - other_time a (lasted k since))) % 2 ^ 32)
    else since

-- a call that begins now
pub limited-now : (n : ℕ) (number : Call) (k a : ℕ) → k < 2 ^ 32 → limited_since n number k a k ≡ k
limited-now n Sleep k a clock =
    let none : lasted k k ≡ 0 = omega (arith, clock) in
    ap (λ y. if nat_le y n then k else (k + (2 ^ 32 - other_time a y)) % 2 ^ 32) none
    ∙ ap (λ b. if b then k else (k + (2 ^ 32 - other_time a 0)) % 2 ^ 32) (leb-zero n)
limited-now n _ k a clock = refl

other-over : (k a y : ℕ) (c d : Bool) → a < 2 ^ 31 → nat_le a y ≡ c
    → nat_le a (lasted k ((k + (2 ^ 32 - (if c then (if d then a + 1 else a) else 0))) % 2 ^ 32)) ≡ c
other-over k a y true true small over = le-leb a _ (omega (arith, small))
other-over k a y true false small over = le-leb a _ (omega (arith, small))
other-over k a y false d small over = let more = leb-false a y over in lt-leb a _ (omega (arith, more))

over-limited : (k a since : ℕ) (b : Bool) → a < 2 ^ 31
    → nat_le a (lasted k (if b then since else (k + (2 ^ 32 - other_time a (lasted k since))) % 2 ^ 32))
    ≡ nat_le a (lasted k since)
over-limited k a since true small = refl
over-limited k a since false small =
    let y = lasted k since in other-over k a y (nat_le a y) (nat_eq y a) small refl

pub limited-over : (n k a since : ℕ) → a < 2 ^ 31
    → nat_le a (lasted k (limited_since n Sleep k a since)) ≡ nat_le a (lasted k since)
limited-over n k a since small = over-limited k a since (nat_le (lasted k since) n) small

other-apart : (n k a since : ℕ) (c d : Bool) → a < 2 ^ 31 → n < lasted k since → nat_eq (lasted k since) a ≡ d
    → (k + (2 ^ 32 - (if c then (if d then a + 1 else a) else 0))) % 2 ^ 32 ≡ since → ⊥
other-apart n k a since true true small more is same =
    let at = eqb-true (lasted k since) a is in omega (arith, small, at, same)
other-apart n k a since true false small more is same =
    let apart = eqb-false (lasted k since) a is in apart (omega (arith, small, same))
other-apart n k a since false d small more is same = omega (arith, more, same)

within-by : (n k a since : ℕ) (b : Bool) → a < 2 ^ 31 → nat_le (lasted k since) n ≡ b
    → (if b then since else (k + (2 ^ 32 - other_time a (lasted k since))) % 2 ^ 32) ≡ since
    → lasted k since ≤ n
within-by n k a since true small less same = leb-true (lasted k since) n less
within-by n k a since false small more same =
    let y = lasted k since in
    absurd (other-apart n k a since (nat_le a y) (nat_eq y a) small (leb-false y n more) refl same)

-- one that is taken for itself hasn't
pub limited-within : (n : ℕ) (number : Call) (k a since : ℕ) → a < 2 ^ 31 → limited_since n number k a since ≡ since
    → is_sleep number ≡ true → lasted k since ≤ n
limited-within n Sleep k a since small same sleeps = within-by n k a since (nat_le (lasted k since) n) small refl same
limited-within n _ k a since small same sleeps = absurd cc

pub within-limited : (n : ℕ) (number : Call) (k a since : ℕ) → (is_sleep number ≡ true → lasted k since ≤ n)
    → limited_since n number k a since ≡ since
within-limited n Sleep k a since within =
    ap (λ b. if b then since else (k + (2 ^ 32 - other_time a (lasted k since))) % 2 ^ 32)
    (le-leb (lasted k since) n (within refl))
within-limited n _ k a since within = refl
