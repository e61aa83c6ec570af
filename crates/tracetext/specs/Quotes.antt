-- Bytes in quotes, as strace has them.
use Rattle.std.specs.Prelude.{Bool, List, None, Option, Some, [], codes, false, if◌then◌else◌, length, nat_le}
use Rattle.std.specs.Prelude.{replicate, ℕ, ◌&&◌, ◌++◌, ◌-◌, ◌==◌, ◌∷◌}
use Rattle.std.specs.Fmt.{digits}
use Rattle.std.specs.List.{slice_get}

-- zeros before the digits of a number, so that they are n at least
abbrev pub filled : ℕ → List ℕ → List ℕ
filled n numeral = replicate (n - length numeral) 48 ++ numeral

-- what follows begins with a digit of base 8
abbrev pub is_octal_digit : Option ℕ → Bool
is_octal_digit None = false
is_octal_digit (Some byte) = nat_le 48 byte && nat_le byte 55

-- a byte in octal, with all three digits where another digit follows
abbrev pub octal : ℕ → Option ℕ → List ℕ
octal byte next =
    codes "\\" ++ (if is_octal_digit next then filled 3 (digits 8 false byte) else digits 8 false byte)

-- a byte that has no letter of its own: itself where it is text, else in octal
abbrev pub plain_byte : ℕ → Option ℕ → List ℕ
plain_byte byte next = if nat_le 32 byte && nat_le byte 126 then byte ∷ [] else octal byte next

-- a byte, and what follows it, if anything does
unfoldable pub quoted_byte : ℕ → Option ℕ → List ℕ
quoted_byte byte next =
    if byte == 10 then codes "\\n"
    else (if byte == 9 then codes "\\t"
    else (if byte == 34 then codes "\\\""
    else (if byte == 92 then codes "\\\\"
    else plain_byte byte next)))

-- all bytes
unfoldable pub quoted_bytes : List ℕ → List ℕ
quoted_bytes [] = []
quoted_bytes (byte ∷ more) = quoted_byte byte (slice_get more 0) ++ quoted_bytes more

-- the quotes after them, and dots where more bytes follow
abbrev pub closing : Bool → List ℕ
closing is_cut = if is_cut then codes "\"..." else codes "\""

unfoldable pub quoted : List ℕ → Bool → List ℕ
quoted bytes is_cut = codes "\"" ++ quoted_bytes bytes ++ closing is_cut
