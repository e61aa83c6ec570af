-- What the operations on numbers give.
-- From gdb's manual, its appendix on agent expressions.
use Rattle.std.specs.Prelude.{None, Option, Some, bit_and, bit_or, bit_xor, if◌then◌else◌, int_div, int_rem, min}
use Rattle.std.specs.Prelude.{nat_lt, ℕ, ◌%◌, ◌*◌, ◌-◌, ◌/◌, ◌==◌, ◌^◌}
use Rattle.std.specs.Int.{cast_signed, w64}
use Rattle.conditions.specs.declared.operation.Binary.{Binary}
use Rattle.conditions.specs.declared.operation.Binary.TheVariants.{Add, And, DivideSigned, DivideUnsigned, Equal}
use Rattle.conditions.specs.declared.operation.Binary.TheVariants.{LessSigned, LessUnsigned, Multiply, Or}
use Rattle.conditions.specs.declared.operation.Binary.TheVariants.{RemainderSigned, RemainderUnsigned, ShiftLeft}
use Rattle.conditions.specs.declared.operation.Binary.TheVariants.{ShiftRightSigned, ShiftRightUnsigned, Subtract, Xor}
use Rattle.conditions.specs.declared.operation.Unary.{Unary}
use Rattle.conditions.specs.declared.operation.Unary.TheVariants.{Complement, IsZero, SignExtend, ZeroExtend}
use Rattle.conditions.specs.declared.operation.Width.{Width}
use Rattle.conditions.specs.declared.operation.Width.TheVariants.{Byte, Double, Half, Word}
use Rattle.unixmodel.specs.Meaning.{flag, is_below, shift_signed}
use Rattle.unixmodel.specs.Numbers.{field, minus, plus}

abbrev pub unless_zero : ℕ → ℕ → Option ℕ
unless_zero b value = if b == 0 then None else Some value

-- of the number below the top of the stack, and the top; nothing is divided by 0
unfoldable pub binary_value : Binary → ℕ → ℕ → Option ℕ
binary_value Add a b = Some (plus a b)
binary_value Subtract a b = Some (minus a b)
binary_value Multiply a b = Some ((a * b) % 2 ^ 64)
binary_value DivideSigned a b = unless_zero b (field 64 (int_div (cast_signed w64 a) (cast_signed w64 b)))
binary_value DivideUnsigned a b = unless_zero b (a / b)
binary_value RemainderSigned a b = unless_zero b (field 64 (int_rem (cast_signed w64 a) (cast_signed w64 b)))
binary_value RemainderUnsigned a b = unless_zero b (a % b)
binary_value ShiftLeft a b = Some (if nat_lt b 64 then (a * 2 ^ b) % 2 ^ 64 else 0)
binary_value ShiftRightSigned a b = Some (shift_signed a (min b 63))
binary_value ShiftRightUnsigned a b = Some (if nat_lt b 64 then a / 2 ^ b else 0)
binary_value And a b = Some (bit_and a b)
binary_value Or a b = Some (bit_or a b)
binary_value Xor a b = Some (bit_xor a b)
binary_value Equal a b = Some (flag (a == b))
binary_value LessSigned a b = Some (flag (is_below a b))
binary_value LessUnsigned a b = Some (flag (nat_lt a b))

-- the low n bits, as a number without a sign and with one; all 64 where n is 64 or more, or 0
abbrev pub cut_to : ℕ → ℕ → ℕ
cut_to n a = if nat_lt n 64 then a % 2 ^ n else a

unfoldable pub unary_value : Unary → ℕ → ℕ
unary_value IsZero a = flag (a == 0)
unary_value Complement a = 2 ^ 64 - 1 - a
unary_value (SignExtend n) a = shift_signed ((a * 2 ^ (64 - n)) % 2 ^ 64) (64 - n)
unary_value (ZeroExtend n) a = cut_to n a

-- how many bytes are read
abbrev pub count_of : Width → ℕ
count_of Byte = 1
count_of Half = 2
count_of Word = 4
count_of Double = 8
