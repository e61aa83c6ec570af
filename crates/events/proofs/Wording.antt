-- The words of a line.
use Rattle.std.proofs.Common.{Bool, List, None, Option, Some, ℕ, [], arith, drop, false, get_or, inl, inr, length, refl}
use Rattle.std.proofs.Common.{suc, sym, take, true, zero}
use Rattle.std.proofs.Common.{ap, append_assoc, append-nil, cond, ltb, subst, ◌++◌, ◌+◌, ◌<◌, ◌∙◌, ◌∷◌, ◌≡◌, ◌≢◌, ◌≤◌}
use Rattle.std.specs.Borrow.{Bor}
use Rattle.std.specs.Prelude.{IfSome, not}
use Rattle.events.specs.Fields.{hex_pair}
use Rattle.std.specs.List.{All, position_or_len}
use Rattle.std.proofs.lemmas.Bool.Decides.{nat_tests}
use Rattle.std.proofs.lemmas.List.{drop_all, get_or-drop, get_or-take, length-drop, length-take, take-append-drop}
use Rattle.std.proofs.lemmas.List.Sums.{fails_before_first, passes_at_first, prefix_len-le-length}
use Rattle.events.specs.Words.{AreSpelled, EndsWord, IsEscape, IsInked, IsSpelled, IsUnblanked, IsWord, is_blank}

-- ---- the first byte that passes

-- what `position` found, or not
pub placed : (place count at : ℕ) (found : Option ℕ) → found ≡ cond (ltb place count) (Some place) None
    → found ≡ Some at → at ≡ place
placed place count at found e is = grind (arith, nat_tests)

pub unplaced : (place count : ℕ) (found : Option ℕ) → found ≡ cond (ltb place count) (Some place) None
    → found ≡ None → count ≤ place
unplaced place count found e is = grind (arith, nat_tests)

module _ (p : ℕ → Bool) (xs : List ℕ) where
  before-first : All (λ x. p x ≡ false) (take (position_or_len p xs) xs)
  before-first k d below =
      let short : k < position_or_len p xs = omega (arith, length-take (position_or_len p xs) xs) in
      subst (λ x. p x ≡ false) (sym (get_or-take (position_or_len p xs) xs k d short))
      (fails_before_first p xs k d short)

  at-first : (first : ℕ) (rest : List ℕ) → drop (position_or_len p xs) xs ≡ first ∷ rest → p first ≡ true
  at-first first rest is =
      let n = position_or_len p xs in
      let within : n < length xs = omega (arith, length-drop n xs, ap length is) in
      let same : get_or xs n 0 ≡ first =
      ap (λ k. get_or xs k 0) (omega arith) ∙ sym (get_or-drop n xs 0 0) ∙ ap (λ l. get_or l 0 0) is in
      subst (λ x. p x ≡ true) same (passes_at_first p xs 0 within)

-- ---- blanks

abbrev pub is_inked : ℕ → Bool
is_inked byte = not (is_blank byte)

blank-by : (b : Bool) → not b ≡ false → b ≡ true
blank-by true e = refl
blank-by false e = sym e

inked-by : (b : Bool) → not b ≡ true → b ≡ false
inked-by true e = sym e
inked-by false e = refl

are-inked : (line rest : List ℕ) → drop (position_or_len is_inked line) line ≡ rest → IsInked rest
are-inked line [] is = tt
are-inked line (first ∷ rest) is = inked-by (is_blank first) (at-first is_inked line first rest is)

pub unblanked : (line rest : List ℕ) → rest ≡ drop (position_or_len is_inked line) line → IsUnblanked line rest
unblanked line rest is = record {
  blanks = take (position_or_len is_inked line) line;
  parts = rw is (sym (take-append-drop (position_or_len is_inked line) line));
  blank = λ k d below. blank-by _ (before-first is_inked line k d below);
  inked = are-inked line rest (sym is);
}

-- there are blanks alone
pub all-blank : (line : List ℕ) → length line ≤ position_or_len is_inked line → IsUnblanked line []
all-blank line all = unblanked line [] (sym (drop_all (position_or_len is_inked line) line all))

-- ---- words

-- one that begins with a quote
pub quoted : (first : ℕ) (rest : List ℕ) (n : ℕ) → 0 < n → first ≡ 0x22
    → IsWord (take n (first ∷ rest)) (drop n (first ∷ rest))
quoted first rest (suc n) some is = inl is
quoted first rest zero some is = absurd (omega (arith, some))

ends-there : (bytes rest : List ℕ) → drop (position_or_len is_blank bytes) bytes ≡ rest → EndsWord rest
ends-there bytes [] is = tt
ends-there bytes (next ∷ rest) is = at-first is_blank bytes next rest is

-- one without a quote
plain-at : (first : ℕ) (rest : List ℕ) (n : ℕ) → 0 < n → first ≢ 0x23
    → All (λ x. is_blank x ≡ false) (take n (first ∷ rest)) → EndsWord (drop n (first ∷ rest))
    → IsWord (take n (first ∷ rest)) (drop n (first ∷ rest))
plain-at first rest zero some no_mark all ends = absurd (omega (arith, some))
plain-at first rest (suc n) some no_mark all ends = inr (no_mark, all, ends)

pub plain : (first : ℕ) (rest : List ℕ) → is_blank first ≡ false → first ≢ 0x23
    → IsWord (take (position_or_len is_blank (first ∷ rest)) (first ∷ rest))
    (drop (position_or_len is_blank (first ∷ rest)) (first ∷ rest))
plain first rest inked no_mark =
    let some : position_or_len is_blank (first ∷ rest) ≡ 1 + position_or_len is_blank rest = rw inked refl in
    plain-at first rest (position_or_len is_blank (first ∷ rest)) (omega arith) no_mark
    (before-first is_blank (first ∷ rest)) (ends-there (first ∷ rest) _ refl)

pub plain-in : (bytes : List ℕ) (first : ℕ) (rest : List ℕ) (count : ℕ) → bytes ≡ first ∷ rest → IsInked bytes
    → first ≢ 0x23 → count ≡ position_or_len is_blank bytes
    → (count ≤ length bytes) × IsWord (take count bytes) (drop count bytes)
plain-in bytes first rest count is inked no_mark found =
    rw (found, is)
    (prefix_len-le-length (λ x. not (is_blank x)) (first ∷ rest), plain first rest (rw is at inked) no_mark)

-- ---- quoted texts

-- one byte more
pub spelled-more : (text bytes piece : List ℕ) (byte : ℕ) → AreSpelled text bytes → IsSpelled piece byte
    → AreSpelled (text ++ piece) (bytes ++ byte ∷ [])
spelled-more text [] piece byte are is =
    (piece, [], rw are (sym (append-nil piece)), is, refl)
spelled-more text (b ∷ bytes) piece byte are is = (
  are.0,
  are.1 ++ piece,
  rw are.2 (append_assoc are.0 are.1 piece),
  are.3,
  spelled-more are.1 bytes piece byte are.4 is,
)

pub hex-escape : (bytes rest : List ℕ) (code : ℕ) (found : Option (ℕ × Bor (List ℕ))) → bytes ≡ code ∷ rest
    → code ≡ 0x78
    → IfSome found (λ two. (high : ℕ) × (low : ℕ) × (rest ≡ high ∷ low ∷ two.1.now) × (hex_pair high low ≡ Some two.0))
    → IfSome found (λ two. (text : List ℕ) × (bytes ≡ text ++ two.1.now) × IsEscape text two.0)
hex-escape bytes rest code None is mark h = tt
hex-escape bytes rest code (Some two) is mark h = (code ∷ h.0 ∷ h.1 ∷ [], rw (is, h.2) refl, (mark, h.3))

pub escape-first : (bytes rest : List ℕ) (first : ℕ) (found : Option (ℕ × Bor (List ℕ))) → bytes ≡ first ∷ rest
    → first ≡ 0x5c → IfSome found (λ two. (code : List ℕ) × (rest ≡ code ++ two.1.now) × IsEscape code two.0)
    → IfSome found (λ two. (text : List ℕ) × (bytes ≡ text ++ two.1.now) × IsSpelled text two.0)
escape-first bytes rest first None is mark h = tt
escape-first bytes rest first (Some two) is mark h = (0x5c ∷ h.0, rw (is, mark, h.1) refl, inr (h.0, refl, h.2))

pub quoted-more : (word text piece rest after : List ℕ) → word ≡ 0x22 ∷ (text ++ rest) → rest ≡ piece ++ after
    → word ≡ 0x22 ∷ ((text ++ piece) ++ after)
quoted-more word text piece rest after before first =
    before ∙ ap (λ r. 0x22 ∷ r) (ap (λ r. text ++ r) first ∙ sym (append_assoc text piece after))
