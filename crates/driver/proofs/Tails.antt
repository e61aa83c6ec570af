-- The last bytes of an output.
use Rattle.std.proofs.Common.{arith, ap, drop, length, List, None, Option, refl, Some, sym, ℕ, ◌+◌, ◌++◌, ◌-◌, ◌∙◌, ◌∷◌}
use Rattle.std.proofs.Common.{[], inl, inr, ◌≡◌, ◌≤◌, ◌⊎◌, length-append, take}
use Rattle.std.proofs.lemmas.List.{drop-append-le, drop-drop, drop_all, length-drop}
use Rattle.std.proofs.KnownBytes.{Keeps-refl}
use Rattle.std.proofs.lemmas.Bool.{cases_lt}
use Rattle.std.proofs.lemmas.Bool.Decides.{nat_tests}
use Rattle.std.proofs.lemmas.Cmp.{nat_list_eq_equiv}
use Rattle.std.specs.Cmp.Lexicographic.{pointwise, same_text, told_text}
use Rattle.std.specs.Io.KnownBytes.{Appends, Keeps}
use Rattle.std.specs.Prelude.{Bool, IfSome, MatchBool, false, nat_eq, nat_le, option_map, suc, true, zero}
use Rattle.driver.specs.Goals.{EndsWith, last_bytes}
use Rattle.driver.specs.Tails.{known_if, remembered, shown_of, written_of}

-- without bytes that don't count
pub last-drop : (m k : ℕ) (bytes : List ℕ) → k ≤ length bytes - m → last_bytes m (drop k bytes) ≡ last_bytes m bytes
last-drop m k bytes few =
    let count : k + (length (drop k bytes) - m) ≡ length bytes - m = rw (length-drop k bytes) (omega (arith, few)) in
    drop-drop (length (drop k bytes) - m) k bytes ∙ ap (λ n. drop n bytes) count

-- of 64 bytes and others
pub last-more : (bytes more : List ℕ) → last_bytes 64 (last_bytes 64 bytes ++ more) ≡ last_bytes 64 (bytes ++ more)
last-more bytes more =
    let k = length bytes - 64 in
    ap (last_bytes 64) (sym (drop-append-le k bytes more (omega arith)))
    ∙ last-drop 64 k (bytes ++ more) (rw (length-append bytes more) (omega arith))

-- after others there is what comes
drop-front : (xs ys : List ℕ) → drop (length xs) (xs ++ ys) ≡ ys
drop-front xs ys =
    drop-append-le (length xs) xs ys (omega arith) ∙ ap (λ none. none ++ ys) (drop_all (length xs) xs (omega arith))

-- of bytes after others the last 64 suffice
last-rest : (xs ys : List ℕ) → last_bytes 64 (xs ++ last_bytes 64 ys) ≡ last_bytes 64 (xs ++ ys)
last-rest xs ys = elim (cases_lt 64 (length ys)) [
  | inl more ↦
      let k = length ys - 64 in
      let fewer : length (xs ++ drop k ys) - 64 ≡ length xs =
      rw (length-append xs (drop k ys), length-drop k ys) (omega (arith, more)) in
      let all : length (xs ++ ys) - 64 ≡ length xs + k = rw (length-append xs ys) (omega (arith, more)) in
      ap (λ n. drop n (xs ++ drop k ys)) fewer ∙ drop-front xs (drop k ys)
      ∙ sym (ap (λ n. drop n (xs ++ ys)) all ∙ sym (drop-drop k (length xs) (xs ++ ys))
      ∙ ap (drop k) (drop-front xs ys))
  | inr few ↦
      let none : length ys - 64 ≡ 0 = omega (arith, few) in
      ap (λ n. last_bytes 64 (xs ++ drop n ys)) none
]

-- the last of some bytes come after others, of which older ones may be forgotten
pub last-after : (old kept bytes newest items : List ℕ) → (kept ≡ old) ⊎ (kept ≡ last_bytes 64 old)
    → newest ≡ last_bytes 64 bytes → items ≡ kept ++ newest → last_bytes 64 items ≡ last_bytes 64 (old ++ bytes)
last-after old kept bytes newest items which last is = ap (last_bytes 64) (is ∙ ap (λ xs. kept ++ xs) last)
    ∙ last-rest kept bytes ∙ elim which [
      | inl all ↦ ap (λ xs. last_bytes 64 (xs ++ bytes)) all
      | inr some ↦ ap (λ xs. last_bytes 64 (xs ++ bytes)) some ∙ last-more old bytes
    ]

-- ---- what is known of them

same-told : (a b : ℕ) (xs ys : List ℕ) → a ≡ b → xs ≡ ys → a ∷ xs ≡ b ∷ ys
same-told a b xs ys first rest = rw (first, rest) refl

known-same : (count : ℕ) (last bytes : List ℕ) → last ≡ last_bytes 64 (last_bytes count bytes)
    → remembered (Some bytes) count last ≡ Some ((length bytes - count) ∷ bytes)
known-same count last bytes is =
    rw (is, nat_list_eq_equiv.refl (last_bytes 64 (last_bytes count bytes))) refl

-- as many bytes were there before
before-same : (xs more : List ℕ) (n : ℕ) → length (xs ++ more) - (n + length more) ≡ length xs - n
before-same xs more n = rw (length-append xs more) (omega arith)

-- the bytes since then, with those that come
since-more : (xs more : List ℕ) (n : ℕ) → last_bytes (n + length more) (xs ++ more) ≡ last_bytes n xs ++ more
since-more xs more n =
    ap (λ k. drop k (xs ++ more)) (before-same xs more n) ∙ drop-append-le (length xs - n) xs more (omega arith)

known-then : (b : Bool) (n k : ℕ) (last xs more all now : List ℕ)
    → b ≡ pointwise nat_eq last (last_bytes 64 (last_bytes n xs)) → all ≡ xs ++ more → k ≡ n + length more
    → now ≡ last_bytes 64 (last ++ more)
    → Appends (known_if b ((length xs - n) ∷ xs)) (remembered (Some all) k now) more
known-then false n k last xs more all now test grows counts is = tt
known-then true n k last xs more all now test grows counts is =
    let since : last_bytes k all ≡ last_bytes n xs ++ more = rw (grows, counts) (since-more xs more n) in
    let same : now ≡ last_bytes 64 (last_bytes k all) = is
    ∙ ap (λ l. last_bytes 64 (l ++ more)) (same_text last (last_bytes 64 (last_bytes n xs)) test)
    ∙ last-more (last_bytes n xs) more ∙ ap (last_bytes 64) (sym since) in
    rw (known-same k now all same)
    (same-told (length all - k) (length xs - n) all (xs ++ more) (rw (grows, counts) (before-same xs more n)) grows)

-- what a writer took is remembered
pub known-more : (before after : Option (List ℕ)) (n k : ℕ) (last now more : List ℕ) → Appends before after more
    → k ≡ n + length more → now ≡ last_bytes 64 (last ++ more)
    → Appends (remembered before n last) (remembered after k now) more
known-more None after n k last now more appends counts is = tt
known-more (Some xs) None n k last now more appends counts is = absurd appends
known-more (Some xs) (Some all) n k last now more appends counts is =
    known-then (pointwise nat_eq last (last_bytes 64 (last_bytes n xs))) n k last xs more all now refl appends counts is

known-kept : (b : Bool) (before : ℕ) (xs : List ℕ) → Keeps (written_of (known_if b (before ∷ xs))) (Some xs)
known-kept false before xs = tt
known-kept true before xs = refl

-- what is known is what the writer took
pub known-whole : (contents : Option (List ℕ)) (count : ℕ) (last : List ℕ)
    → Keeps (written_of (remembered contents count last)) contents
known-whole None count last = tt
known-whole (Some xs) count last =
    known-kept (pointwise nat_eq last (last_bytes 64 (last_bytes count xs))) (length xs - count) xs

-- the bytes are written out
pub known-flushed : (before after : Option (List ℕ)) (count : ℕ) (last : List ℕ) → Keeps before after
    → Keeps (remembered before count last) (remembered after count last)
known-flushed None after count last keeps = tt
known-flushed (Some xs) None count last keeps = absurd keeps
known-flushed (Some xs) (Some ys) count last keeps =
    rw keeps (Keeps-refl (known_if (pointwise nat_eq last (last_bytes 64 (last_bytes count xs)))
    ((length xs - count) ∷ xs)))

none-since : (bytes : List ℕ) → last_bytes 0 bytes ≡ []
none-since bytes = drop_all (length bytes - 0) bytes (omega arith)

less-none : (n : ℕ) → n - 0 ≡ n
less-none n = omega arith

-- ---- what was put out, of what is known

shown-if : (before : ℕ) (xs bytes : List ℕ) (b : Bool) → b ≡ nat_le before (length xs)
    → Appends (known_if b (drop before xs))
    (known_if (nat_le before (length (xs ++ bytes))) (drop before (xs ++ bytes))) bytes
shown-if before xs bytes false test = tt
shown-if before xs bytes true test =
    let within : before ≤ length xs = grind (arith, nat_tests, test) in
    let goes : nat_le before (length (xs ++ bytes)) ≡ true =
    rw (length-append xs bytes) (grind (arith, nat_tests, within)) in
    rw goes (drop-append-le before xs bytes within)

told-if : (before : ℕ) (xs ys bytes : List ℕ) → ys ≡ before ∷ (xs ++ bytes)
    → Appends (shown_of (Some (before ∷ xs))) (shown_of (Some ys)) bytes
told-if before xs ys bytes is = rw is (shown-if before xs bytes (nat_le before (length xs)) refl)

pub shown-appends : (before after : Option (List ℕ)) (bytes : List ℕ) → Appends before after bytes
    → Appends (shown_of before) (shown_of after) bytes
shown-appends None after bytes appends = tt
shown-appends (Some []) after bytes appends = tt
shown-appends (Some (before ∷ xs)) None bytes appends = absurd appends
shown-appends (Some (before ∷ xs)) (Some ys) bytes appends = told-if before xs ys bytes appends

pub written-appends : (before after : Option (List ℕ)) (bytes : List ℕ) → Appends before after bytes
    → Appends (written_of before) (written_of after) bytes
written-appends None after bytes appends = tt
written-appends (Some []) after bytes appends = tt
written-appends (Some (before ∷ xs)) None bytes appends = absurd appends
written-appends (Some (before ∷ xs)) (Some ys) bytes appends = rw appends refl

-- ---- an output over a writer

all-within : (n : ℕ) → nat_le n n ≡ true
all-within n = grind (arith, nat_tests)

pub first-written : (contents : Option (List ℕ)) → written_of (remembered contents 0 []) ≡ contents
first-written None = refl
first-written (Some bytes) = rw (none-since bytes) refl

pub first-shown : (contents : Option (List ℕ))
    → shown_of (remembered contents 0 []) ≡ option_map (λ bytes. []) contents
first-shown None = refl
first-shown (Some bytes) =
    rw (none-since bytes, less-none (length bytes), all-within (length bytes))
    (ap Some (drop_all (length bytes) bytes (omega arith)))

-- ---- how they end

ends-within : (c : Bool) (last since text : List ℕ) (r : Bool) → last ≡ last_bytes 64 since → length text ≤ 64
    → r ≡ pointwise nat_eq text (last_bytes (length text) last)
    → IfSome (known_if c since) (λ all. MatchBool r (EndsWith text all) (¬ EndsWith text all))
ends-within false last since text r test few is = tt
ends-within true last since text r test few is =
    let same : last_bytes (length text) last ≡ last_bytes (length text) since =
    ap (last_bytes (length text)) test ∙ last-drop (length text) (length since - 64) since (omega (arith, few)) in
    rw (← same) (told_text text (last_bytes (length text) last) r is)

ends-if : (b : Bool) (count : ℕ) (last xs text : List ℕ) (r : Bool)
    → b ≡ pointwise nat_eq last (last_bytes 64 (last_bytes count xs))
    → length text ≤ 64 → r ≡ pointwise nat_eq text (last_bytes (length text) last)
    → IfSome (shown_of (known_if b ((length xs - count) ∷ xs)))
    (λ all. MatchBool r (EndsWith text all) (¬ EndsWith text all))
ends-if false count last xs text r test few is = tt
ends-if true count last xs text r test few is =
    ends-within (nat_le (length xs - count) (length xs)) last (last_bytes count xs) text r
    (same_text last (last_bytes 64 (last_bytes count xs)) test) few is

-- a short text is what older bytes end with, too
pub ends-last : (last text : List ℕ) {r : Bool} → length text ≤ 64
    → r ≡ pointwise nat_eq text (last_bytes (length text) last)
    → r ≡ pointwise nat_eq text (last_bytes (length text) (last_bytes 64 last))
ends-last last text few is =
    rw (last-drop (length text) (length last - 64) last (omega (arith, few))) is

pub ends-known : (contents : Option (List ℕ)) (count : ℕ) (last text : List ℕ) (r : Bool) → length text ≤ 64
    → r ≡ pointwise nat_eq text (last_bytes (length text) last)
    → IfSome (shown_of (remembered contents count last)) (λ all. MatchBool r (EndsWith text all) (¬ EndsWith text all))
ends-known None count last text r few is = tt
ends-known (Some xs) count last text r few is =
    ends-if (pointwise nat_eq last (last_bytes 64 (last_bytes count xs))) count last xs text r refl few is

-- ---- what is taken

-- as many are taken as are asked for
pub taken-count : (n : ℕ) (xs : List ℕ) → n ≤ length xs → length (take n xs) ≡ n
taken-count zero [] few = refl
taken-count zero (x ∷ xs) few = refl
taken-count (suc n) [] few = absurd (omega (arith, few))
taken-count (suc n) (x ∷ xs) few = ap suc (taken-count n xs (omega (arith, few)))
