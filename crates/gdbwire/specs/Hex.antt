-- Hexadecimal numbers: the highest digit first.
use Rattle.std.specs.Prelude.{◌≡◌, ◌<◌, ◌^◌, ◌++◌, ◌+◌, ◌-◌, ◌*◌, ◌/◌, ◌%◌, ◌&&◌, ◌∷◌, ℕ, zero, suc, List, [], None}
use Rattle.std.specs.Prelude.{Option, Some, flat_map, get_or, if◌then◌else◌, nat_le, nat_lt}

-- the digit of a number below 16; letters are of lower case
unfoldable pub hex_digit : ℕ → ℕ
hex_digit n = if nat_lt n 10 then 48 + n else 87 + n

-- a byte as two digits
unfoldable pub hex_byte : ℕ → List ℕ
hex_byte n = hex_digit (n / 16) ∷ hex_digit (n % 16) ∷ []

-- bytes as two digits each
abbrev pub hex_bytes : List ℕ → List ℕ
hex_bytes bytes = flat_map hex_byte bytes

-- what a digit stands for; letters are of either case
unfoldable pub value_of : ℕ → Option ℕ
value_of code = if nat_le 48 code && nat_le code 57 then Some (code - 48)
    else (if nat_le 97 code && nat_le code 102 then Some (code - 87)
    else (if nat_le 65 code && nat_le code 70 then Some (code - 55) else None))

-- a number so far, and one digit more, where that is below 2 ^ 64
abbrev pub with_digit : ℕ → Option ℕ → Option ℕ
with_digit n (Some digit) = if nat_lt n 1152921504606846976 then Some (16 * n + digit) else None
with_digit n None = None

-- a number so far, and the digits after it
unfoldable pub number_from : Option ℕ → List ℕ → Option ℕ
number_from (Some n) (code ∷ codes) = number_from (with_digit n (value_of code)) codes
number_from n _ = n

-- what digits stand for: none where one is no digit, where there are none, and where they stand for 2 ^ 64 or more
unfoldable pub number_of : List ℕ → Option ℕ
number_of [] = None
number_of codes = number_from (Some 0) codes

-- the digits of a number, at most n of them; the first is 0 for 0 alone
unfoldable pub hex_up_to : ℕ → ℕ → List ℕ
hex_up_to zero n = []
hex_up_to (suc most) n = (if nat_lt n 16 then [] else hex_up_to most (n / 16)) ++ hex_digit (n % 16) ∷ []

-- the digits of a number of 64 bits
abbrev pub hex_number : ℕ → List ℕ
hex_number n = hex_up_to 16 n

-- the byte that two digits stand for
abbrev pub pair_of : Option ℕ → Option ℕ → Option ℕ
pair_of (Some high) (Some low) = Some (16 * high + low)
pair_of high low = None

abbrev pub with_byte : Option ℕ → Option (List ℕ) → Option (List ℕ)
with_byte (Some byte) (Some bytes) = Some (byte ∷ bytes)
with_byte byte bytes = None

-- the bytes that digits stand for, two digits a byte
unfoldable pub bytes_of : List ℕ → Option (List ℕ)
bytes_of [] = Some []
bytes_of (high ∷ []) = None
bytes_of (high ∷ low ∷ codes) = with_byte (pair_of (value_of high) (value_of low)) (bytes_of codes)

-- what is written is read as what it was
abbrev pub NumbersAreRead : Type 0
NumbersAreRead = (n : ℕ) → n < 2 ^ 64 → number_of (hex_number n) ≡ Some n

abbrev pub BytesAreRead : Type 0
BytesAreRead = (bytes : List ℕ) → ((i : ℕ) → get_or bytes i 0 < 256) → bytes_of (hex_bytes bytes) ≡ Some bytes
