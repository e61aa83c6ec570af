-- A frame is heard as its body.
use Rattle.std.proofs.Common.{◌≡◌, ◌+◌, ◌*◌, ◌/◌, ◌%◌, ◌<◌, ◌≤◌, ◌++◌, ◌∷◌, ◌⊎◌, ◌∙◌, ℕ, Bool, List, [], None, Option}
use Rattle.std.proofs.Common.{Some, ap, append_assoc, append-nil, bit_xor, eq-eqb, false, inl, inr, length}
use Rattle.std.proofs.Common.{length-append, lit<, refl, subst, sum, sym, true, zero-add}
use native.Mathlib.Omega.{arith}
use Rattle.std.proofs.lemmas.Grind.{common_steps}
use Rattle.gdbwire.specs.Hex.{hex_byte, hex_digit, value_of}
use Rattle.gdbwire.specs.Frames.{FramesAreHeard, Reading, adding, begun, between, checksum, framed, hears, hears_all}
use Rattle.gdbwire.specs.Frames.{hears_at, inside, is_reserved, judged, longest, sent, sent_byte, told}
use Rattle.gdbwire.specs.declared.reader.Heard.TheVariants.{Packet}
use Rattle.gdbwire.specs.declared.reader.Stage.{Stage}
use Rattle.gdbwire.specs.declared.reader.Stage.TheVariants.{Between, Body, Escaped, Sum, LastDigit}

-- a reader that is there, with this sum and this body so far
abbrev at : Stage → ℕ → List ℕ → Reading
at stage total body = record { stage = stage; sum = total; body = body; is_long = false }

-- a byte with which nothing is heard
passes : (r next : Reading) (b : ℕ) (bs : List ℕ) → hears r b ≡ (next, None) → hears_all r (b ∷ bs) ≡ hears_all next bs
unfolding hears_all
passes r next b bs is = ap (λ step. told step ++ hears_all step.0 bs) is

-- a digit stands for what it was made of
pub digit-read : (n : ℕ) → n < 16 → value_of (hex_digit n) ≡ Some n
unfolding value_of hex_digit
digit-read n lt = grind arith

-- a byte that is not reserved is heard as itself
plain : (total : ℕ) (body : List ℕ) (b : ℕ) → is_reserved b ≡ false → length body < longest →
    hears (at Body total body) b ≡ (at Body ((total + b) % 256) (body ++ b ∷ []), None)
unfolding is_reserved inside adding
plain total body b is lt = grind arith

-- after } a byte is heard flipped
flipped : (total : ℕ) (body : List ℕ) (b : ℕ) → 36 < b ⊎ b < 35 → length body < longest →
    hears (at Escaped total body) b ≡ (at Body ((total + b) % 256) (body ++ bit_xor b 32 ∷ []), None)
unfolding inside adding
flipped total body b other lt = grind arith

escape : (total : ℕ) (body : List ℕ) → hears (at Body total body) 125 ≡ (at Escaped ((total + 125) % 256) body, None)
unfolding inside
escape total body = refl

-- which bytes are reserved
reserved : (b : ℕ) → is_reserved b ≡ true → (b ≡ 35) ⊎ (b ≡ 36) ⊎ (b ≡ 42) ⊎ (b ≡ 125)
unfolding is_reserved
reserved b is = grind arith

flip-twice : (b : ℕ) → bit_xor (bit_xor b 32) 32 ≡ b
flip-twice b = grind (arith, common_steps)

-- a reserved byte that is flipped is none of # and $
flips-apart : (b : ℕ) → is_reserved b ≡ true → (36 < bit_xor b 32) ⊎ (bit_xor b 32 < 35)
flips-apart b is = let P : ℕ → Type 0 = λ n. (36 < bit_xor n 32) ⊎ (bit_xor n 32 < 35) in
    elim (reserved b is) [
      | inl e ↦ subst P (sym e) (inr (lit< tt))
      | inr f ↦ elim f [
        | inl e ↦ subst P (sym e) (inr (lit< tt))
        | inr g ↦ elim g [ inl e ↦ subst P (sym e) (inr (lit< tt)) | inr e ↦ subst P (sym e) (inl (lit< tt)) ]
      ]
    ]

-- a byte that is sent is heard as itself
byte-heard : (test : Bool) (total : ℕ) (body : List ℕ) (b : ℕ) (bs : List ℕ) → is_reserved b ≡ test
    → length body < longest →
    hears_all (at Body total body) (sent_byte b ++ bs)
    ≡ hears_all (at Body ((total + sum (sent_byte b)) % 256) (body ++ b ∷ [])) bs
unfolding sent_byte
byte-heard false total body b bs is lt =
    rw is (rw (zero-add b) (passes (at Body total body) (at Body ((total + b) % 256) (body ++ b ∷ [])) b bs
    (plain total body b is lt)))
byte-heard true total body b bs is lt =
    let c = bit_xor b 32 in
    let half = (total + 125) % 256 in
    let sums : (half + c) % 256 ≡ (total + (0 + 125 + c)) % 256 = omega arith in
    rw is (
    passes (at Body total body) (at Escaped half body) 125 (c ∷ bs) (escape total body)
    ∙ passes (at Escaped half body) (at Body ((half + c) % 256) (body ++ bit_xor c 32 ∷ [])) c bs
    (flipped half body c (flips-apart b is) lt)
    ∙ ap (λ t. hears_all (at Body t (body ++ bit_xor c 32 ∷ [])) bs) sums
    ∙ ap (λ byte. hears_all (at Body ((total + (0 + 125 + c)) % 256) (body ++ byte ∷ [])) bs) (flip-twice b))

sum-append : (xs ys : List ℕ) → sum (xs ++ ys) ≡ sum xs + sum ys
sum-append xs ys = grind (arith, common_steps)

-- a body that is sent is heard as itself
body-heard : (total : ℕ) (before body rest : List ℕ) → total < 256 → length before + length body ≤ longest →
    hears_all (at Body total before) (sent body ++ rest)
    ≡ hears_all (at Body ((total + sum (sent body)) % 256) (before ++ body)) rest
body-heard total before [] rest lt le =
    let e : total ≡ (total + 0) % 256 = omega arith in
    ap (λ t. hears_all (at Body t before) rest) e
    ∙ ap (λ b. hears_all (at Body ((total + 0) % 256) b) rest) (sym (append-nil before))
body-heard total before (b ∷ bs) rest lt le =
    let room : length before < longest = omega (arith, le) in
    let next = (total + sum (sent_byte b)) % 256 in
    let below : next < 256 = omega arith in
    let more : length (before ++ b ∷ []) + length bs ≤ longest =
    rw (length-append before (b ∷ [])) (omega (arith, le)) in
    let sums : (next + sum (sent bs)) % 256 ≡ (total + sum (sent_byte b ++ sent bs)) % 256 =
    rw (sum-append (sent_byte b) (sent bs)) (omega arith) in
    ap (λ bytes. hears_all (at Body total before) bytes) (append_assoc (sent_byte b) (sent bs) rest)
    ∙ byte-heard (is_reserved b) total before b (sent bs ++ rest) refl room
    ∙ body-heard next (before ++ b ∷ []) bs rest below more
    ∙ ap (λ t. hears_all (at Body t ((before ++ b ∷ []) ++ bs)) rest) sums
    ∙ ap (λ text. hears_all (at Body ((total + sum (sent_byte b ++ sent bs)) % 256) text) rest)
    (append_assoc before (b ∷ []) bs)

-- a whole frame with the right digits
judged-right : (total : ℕ) (body : List ℕ) (high low : Option ℕ) → high ≡ Some (total / 16) → low ≡ Some (total % 16) →
    judged (at (LastDigit high) total body) high low ≡ Packet
judged-right total body high low h l =
    let whole : 16 * (total / 16) + total % 16 ≡ total = omega arith in
    rw h (rw l (rw (eq-eqb _ _ whole) refl))

begins : (r : Reading) → r.stage ≡ Between → hears r 36 ≡ (begun, None)
unfolding between
begins r is = ap (λ stage. hears_at stage r 36) is

ends-body : (total : ℕ) (body : List ℕ) → hears (at Body total body) 35 ≡ (at Sum total body, None)
unfolding inside
ends-body total body = refl

-- the sum after a body
sum-heard : (total : ℕ) (body rest : List ℕ) → total < 256 →
    hears_all (at Body total body) (35 ∷ hex_byte total ++ rest) ≡ (Packet, body)
    ∷ hears_all (at Between total body) rest
unfolding hears_all hex_byte
sum-heard total body rest lt =
    let high = digit-read (total / 16) (omega (arith, lt)) in
    let low = digit-read (total % 16) (omega arith) in
    passes (at Body total body) (at Sum total body) 35 (hex_byte total ++ rest) (ends-body total body)
    ∙ ap (λ heard. (heard, body) ∷ hears_all (at Between total body) rest)
    (judged-right total body (value_of (hex_digit (total / 16))) (value_of (hex_digit (total % 16))) high low)

pub frame : FramesAreHeard
unfolding framed
frame r body rest is le =
    let total = checksum (sent body) in
    let behind = 35 ∷ hex_byte total ++ rest in
    passes r begun 36 _ (begins r is)
    ∙ ap (λ bytes. hears_all begun bytes)
    (append_assoc (sent body ++ 35 ∷ []) (hex_byte total) rest
    ∙ append_assoc (sent body) (35 ∷ []) (hex_byte total ++ rest))
    ∙ body-heard 0 [] body behind (lit< tt) (rw (zero-add (length body)) le)
    ∙ ap (λ t. hears_all (at Body (t % 256) body) behind) (zero-add (sum (sent body)))
    ∙ sum-heard total body rest (omega arith)
