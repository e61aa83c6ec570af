-- Frames of gdb's remote protocol: `$`, a body, `#`, and the sum of the body's bytes as two hexadecimal digits.
use Rattle.std.specs.Prelude.{◌==◌, ◌≡◌, ◌≤◌, ◌||◌, ◌++◌, ◌∷◌, ◌%◌, ◌+◌, ◌*◌, ℕ, Bool, List, [], None, Option, Some}
use Rattle.std.specs.Prelude.{bit_xor, flat_map, if◌then◌else◌, length, nat_lt, sum, true, false}
use Rattle.gdbwire.specs.Hex.{hex_byte, value_of}
use Rattle.gdbwire.specs.declared.reader.Heard.{Heard}
use Rattle.gdbwire.specs.declared.reader.Heard.TheVariants.{Packet, TooLong, Damaged, Acknowledged, Refused, Interrupt}
use Rattle.gdbwire.specs.declared.reader.Stage.{Stage}
use Rattle.gdbwire.specs.declared.reader.Stage.TheVariants.{Between, Body, Escaped, Sum, LastDigit}

-- whether a byte must be escaped in a body: # $ * }
unfoldable pub is_reserved : ℕ → Bool
is_reserved b = b == 35 || b == 36 || b == 42 || b == 125

-- a byte as it is sent: a reserved one as } and the byte xor 32
unfoldable pub sent_byte : ℕ → List ℕ
sent_byte b = if is_reserved b then 125 ∷ bit_xor b 32 ∷ [] else b ∷ []

abbrev pub sent : List ℕ → List ℕ
sent body = flat_map sent_byte body

-- what follows the body
abbrev pub checksum : List ℕ → ℕ
checksum bytes = sum bytes % 256

-- the frame of a body
unfoldable pub framed : List ℕ → List ℕ
framed body = (36 ∷ []) ++ sent body ++ (35 ∷ []) ++ hex_byte (checksum (sent body))

-- the longest body that is read
abbrev pub longest : ℕ
longest = 16384

-- A reader of bytes: where it is, the sum and the body of the frame so far, and whether that body has more bytes than
-- are read.
pub record Reading : Type 0 where
  pub stage : Stage
  pub sum : ℕ
  pub body : List ℕ
  pub is_long : Bool

-- a frame begins
abbrev pub begun : Reading
begun = record { stage = Body; sum = 0; body = []; is_long = false }

-- one byte more of the frame, which counts in its sum
abbrev pub counting : ℕ → Reading → Reading
counting b r = record r { sum = (r.sum + b) % 256 }

-- one byte more of the body, where it is not too long
unfoldable pub adding : ℕ → Reading → Reading
adding b r = if nat_lt (length r.body) longest then record r { stage = Body; body = r.body ++ b ∷ [] }
    else record r { stage = Body; is_long = true }

-- a byte of a frame before its sum: # ends the body, and $ begins another frame
unfoldable pub inside : ℕ → Reading → Reading → Reading
inside b r other = if b == 35 then record r { stage = Sum } else (if b == 36 then begun else other)

-- whether two digits are the sum
abbrev pub is_sum : ℕ → Option ℕ → Option ℕ → Bool
is_sum total (Some high) (Some low) = 16 * high + low == total
is_sum total _ _ = false

-- what a whole frame is
abbrev pub judged : Reading → Option ℕ → Option ℕ → Heard
judged r high low = if is_sum r.sum high low then (if r.is_long then TooLong else Packet) else Damaged

-- what is heard between frames: an acknowledgement of the last frame that was sent, a wish to interrupt, or nothing
unfoldable pub between : ℕ → Option Heard
between b = if b == 43 then Some Acknowledged
    else (if b == 45 then Some Refused else (if b == 3 then Some Interrupt else None))

-- what a byte makes of a reader, and what is heard with it
abbrev pub hears_at : Stage → Reading → ℕ → Reading × Option Heard
hears_at Between r b = ((if b == 36 then begun else r), between b)
hears_at Body r b = (
  inside b r
      (if b == 125 then counting b (record r { stage = Escaped }) else adding b (counting b r)),
  None,
)
hears_at Escaped r b = (inside b r (adding (bit_xor b 32) (counting b r)), None)
hears_at Sum r b = (record r { stage = LastDigit (value_of b) }, None)
hears_at (LastDigit high) r b = (record r { stage = Between }, Some (judged r high (value_of b)))

abbrev pub hears : Reading → ℕ → Reading × Option Heard
hears r b = hears_at r.stage r b

-- what was heard, with the body that the reader then has
abbrev pub told : Reading × Option Heard → List (Heard × List ℕ)
told (r, Some h) = (h, r.body) ∷ []
told (r, None) = []

-- what a reader hears of bytes, one after the other
unfoldable pub hears_all : Reading → List ℕ → List (Heard × List ℕ)
hears_all r [] = []
hears_all r (b ∷ bs) = told (hears r b) ++ hears_all (hears r b).0 bs

-- a reader that has heard the frame of a body
abbrev pub has_heard : List ℕ → Reading
has_heard body = record { stage = Between; sum = checksum (sent body); body = body; is_long = false }

-- a frame is heard as its body, whatever comes before and after it
abbrev pub FramesAreHeard : Type 0
FramesAreHeard = (r : Reading) (body rest : List ℕ) → r.stage ≡ Between → length body ≤ longest →
    hears_all r (framed body ++ rest) ≡ (Packet, body) ∷ hears_all (has_heard body) rest
