-- Lemmas on the text of a trace.
use Rattle.std.proofs.Common.{◌≡◌, ◌<◌, ◌∙◌, ◌+◌, ◌++◌, ◌-◌, ◌∷◌, ◌^◌, ℕ, List, None, Option, Some, [], ap, append-nil}
use Rattle.std.proofs.Common.{append_assoc, arith, codes, false, get_or, length, refl, suc, sym, zero}
use Rattle.std.specs.Fmt.{char_count, digits, format_spec, padded_integral}
use Rattle.std.specs.List.{slice_get}
use Rattle.tracetext.specs.Lines.{detail_text, filled_in, told_text, unfinished_text}
use Rattle.tracetext.specs.Quotes.{filled, quoted_byte, quoted_bytes}
use Rattle.tracetext.specs.declared.asked.CallText.{CallText}
use Rattle.tracetext.specs.declared.lines.Detail.TheVariants.{Word}
use Rattle.unixmodel.specs.declared.call.Call.{Call}
use Rattle.unixmodel.specs.declared.call.Call.TheVariants.{Read, Wait}

-- ---- numbers

pub three_digits : (text : List ℕ) → padded_integral (format_spec 32 0 4 3 (2 ^ 64 - 1)) false [] text ≡ filled 3 text
unfolding padded_integral char_count
three_digits text =
    let e : 3 - length text - 0 - 0 ≡ 3 - length text = omega arith in
    simp (append-nil, e)

eight_digits : (text : List ℕ) → padded_integral (format_spec 32 0 4 8 (2 ^ 64 - 1)) false [] text ≡ filled 8 text
unfolding padded_integral char_count
eight_digits text =
    let e : 8 - length text - 0 - 0 ≡ 8 - length text = omega arith in
    simp (append-nil, e)

pub word_is : (word : ℕ)
    → detail_text (Word word)
    ≡ codes " 0x" ++ padded_integral (format_spec 32 0 4 8 (2 ^ 64 - 1)) false [] (digits 16 false word)
unfolding detail_text
word_is word = ap (λ text. codes " 0x" ++ text) (sym (eight_digits (digits 16 false word)))

-- ---- what a call filled in

pub no_filler : (call : Option Call) (text : CallText) → (call ≡ Some Read → ⊥) → (call ≡ Some Wait → ⊥)
    → filled_in call text ≡ []
no_filler None text read wait = refl
no_filler (Some Read) text read wait = absurd (read refl)
no_filler (Some Wait) text read wait = absurd (wait refl)
no_filler (Some _) text read wait = refl

pub no_read : (call : Option Call) (number : ℕ) (text : CallText) → (call ≡ Some Read → ⊥)
    → unfinished_text call number text ≡ told_text number text ++ codes " <unfinished ...>"
no_read None number text read = refl
no_read (Some Read) number text read = absurd (read refl)
no_read (Some _) number text read = refl

-- ---- bytes in quotes

-- the first n bytes, of which each is followed by what follows it in all
unfoldable pub quoted_front : ℕ → List ℕ → List ℕ
quoted_front zero bytes = []
quoted_front (suc n) [] = []
quoted_front (suc n) (byte ∷ more) = quoted_byte byte (slice_get more 0) ++ quoted_front n more

more-front : (n : ℕ) (bytes : List ℕ) (next : Option ℕ) → n < length bytes → next ≡ slice_get bytes (suc n)
    → quoted_front n bytes ++ quoted_byte (get_or bytes n 0) next ≡ quoted_front (suc n) bytes
unfolding quoted_front
more-front n [] next low is = absurd (omega arith)
more-front zero (first ∷ more) next low is =
    ap (quoted_byte first) is ∙ sym (append-nil (quoted_byte first (slice_get more 0)))
more-front (suc n) (first ∷ more) next low is =
    append_assoc (quoted_byte first (slice_get more 0)) (quoted_front n more) (quoted_byte (get_or more n 0) next)
    ∙ ap (λ text. quoted_byte first (slice_get more 0) ++ text) (more-front n more next (omega arith) is)

pub one_more : (n : ℕ) (bytes : List ℕ) (next : Option ℕ) → n < length bytes → next ≡ slice_get bytes (n + 1)
    → quoted_front n bytes ++ quoted_byte (get_or bytes n 0) next ≡ quoted_front (n + 1) bytes
one_more n bytes next low is =
    let e : n + 1 ≡ suc n = omega arith in
    rw e (more-front n bytes next low (is ∙ ap (slice_get bytes) e))

pub none_so_far : (bytes : List ℕ) → quoted_front 0 bytes ≡ []
unfolding quoted_front
none_so_far bytes = refl

whole-front : (bytes : List ℕ) → quoted_front (length bytes) bytes ≡ quoted_bytes bytes
unfolding quoted_front quoted_bytes
whole-front [] = refl
whole-front (first ∷ more) = ap (λ text. quoted_byte first (slice_get more 0) ++ text) (whole-front more)

pub all_of_them : (n : ℕ) (bytes : List ℕ) → n ≡ length bytes → quoted_front n bytes ≡ quoted_bytes bytes
all_of_them n bytes is = ap (λ k. quoted_front k bytes) is ∙ whole-front bytes
