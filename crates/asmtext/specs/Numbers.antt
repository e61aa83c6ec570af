-- Numbers as the definitions see them.
use Rattle.std.specs.Prelude.{Bool, List, None, Option, Some, if◌then◌else◌, nat_le, neg_ℤ, negsuc, pos, ℕ, ℤ}
use Rattle.std.specs.Str.Parse.{digits_value}
use Rattle.unixmodel.specs.Numbers.{field, lies_in}
use Rattle.unixmodel.specs.Operands as the
use Rattle.asmtext.specs.declared.number.Number.{Number}
use Rattle.asmtext.specs.declared.number.Radix.{Radix}
use Rattle.asmtext.specs.declared.number.Radix.TheVariants as radix

abbrev pub signed_of : Bool → ℕ → ℤ
signed_of negative n = if negative then neg_ℤ (pos n) else pos n

abbrev pub base_of : Radix → ℕ
base_of radix.Decimal = 10
base_of radix.Hexadecimal = 16

abbrev pub number_of : Number → ℤ
number_of n = signed_of n.negative (digits_value (base_of n.radix) n.digits.items)

-- the field of `bits` bits that has a number, where it lies from -below to above
abbrev pub field_within : (below above bits : ℕ) (n : ℤ) → Option ℕ
field_within below above bits n = if lies_in below above n then Some (field bits n) else None

-- a number, where it lies from 0 to that
abbrev pub natural_within : (most : ℕ) (n : ℤ) → Option ℕ
natural_within most (pos n) = if nat_le n most then Some n else None
natural_within most (negsuc n) = None

-- the number that digits spell
abbrev pub numeral_of : Radix → List ℕ → Option ℕ
numeral_of radix digits = the.numeral (base_of radix) digits
