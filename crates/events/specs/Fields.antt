-- The words of a script's lines.
use Rattle.std.proofs.Common.{Global, Vec}
use Rattle.std.specs.Prelude.{◌≡◌, ℕ, ◌+◌, ◌-◌, ◌*◌, ◌<◌, ◌≤◌, ◌&&◌, List, Option, Some, None, if◌then◌else◌, nat_le}
use Rattle.std.specs.Prelude.{length, slice_index, MatchOption}
use Rattle.std.specs.Str.Parse.{IsNumeral, digits_value}

-- the most events of a line
abbrev pub MOST : ℕ
MOST = 1000000000

-- n, in decimal digits, is at most what a line may have of events
pub record IsCount (digits : List ℕ) (n : ℕ) : Type 0 where
  pub numeral : IsNumeral 10 digits
  pub value : digits_value 10 digits ≡ n
  pub bound : n ≤ MOST

-- what a hexadecimal digit, with lower case letters, stands for
abbrev pub hex_digit : ℕ → Option ℕ
hex_digit code = if nat_le 48 code && nat_le code 57 then Some (code - 48)
    else (if nat_le 97 code && nat_le code 102 then Some (code - 87) else None)

abbrev pub joined : Option ℕ → Option ℕ → Option ℕ
joined (Some high) (Some low) = Some (16 * high + low)
joined _ _ = None

-- the byte that two digits write
abbrev pub hex_pair : ℕ → ℕ → Option ℕ
hex_pair high low = joined (hex_digit high) (hex_digit low)

-- the digits write the bytes, two each
pub record IsHexOf (digits bytes : List ℕ) : Type 0 where
  pub pairs : length digits ≡ 2 * length bytes
  pub each : (k : ℕ) → k < length bytes
      → hex_pair (slice_index digits (2 * k)) (slice_index digits (2 * k + 1)) ≡ Some (slice_index bytes k)

-- the bytes that the digits write are found, or they write none
abbrev pub FindsBytes : List ℕ → Option (Vec ℕ Global) → Type 0
FindsBytes digits found =
    MatchOption found ((bytes : List ℕ) → ¬ IsHexOf digits bytes) (λ bytes. IsHexOf digits bytes.items)
