-- The instruction of each operation, and the numbers that it takes.
use Rattle.std.specs.Prelude.{Option, ℕ, ℤ}
use Rattle.unixmodel.specs.declared.instr.Instr.{Instr}
use Rattle.unixmodel.specs.declared.instr.Instr.TheVariants as instr
use Rattle.asmtext.specs.Numbers.{field_within}
use Rattle.asmtext.specs.declared.operations.BareOp.{BareOp}
use Rattle.asmtext.specs.declared.operations.BareOp.TheVariants as bare
use Rattle.asmtext.specs.declared.operations.BaseOp.{BaseOp}
use Rattle.asmtext.specs.declared.operations.BaseOp.TheVariants as base
use Rattle.asmtext.specs.declared.operations.NumberOp.{NumberOp}
use Rattle.asmtext.specs.declared.operations.NumberOp.TheVariants as numbered
use Rattle.asmtext.specs.declared.operations.Partial.{Partial}
use Rattle.asmtext.specs.declared.operations.Partial.TheVariants as partial
use Rattle.asmtext.specs.declared.operations.RegisterOp.{RegisterOp}
use Rattle.asmtext.specs.declared.operations.RegisterOp.TheVariants as registers
use Rattle.asmtext.specs.declared.operations.UpperOp.{UpperOp}
use Rattle.asmtext.specs.declared.operations.UpperOp.TheVariants as upper

abbrev pub register_instr : RegisterOp → ℕ → ℕ → ℕ → Instr
register_instr (registers.Reg op) = instr.Reg op
register_instr (registers.RegW op) = instr.RegW op

abbrev pub numbered_instr : NumberOp → ℕ → ℕ → ℕ → Instr
numbered_instr (numbered.Imm op) = instr.Imm op
numbered_instr numbered.Addiw = instr.Addiw
numbered_instr (numbered.Shift op) = instr.Shift op
numbered_instr (numbered.ShiftW op) = instr.ShiftW op

-- the first register is what a store stores, or where the others put something
abbrev pub based_instr : BaseOp → ℕ → ℕ → ℕ → Instr
based_instr (base.Load op) = instr.Load op
based_instr (base.Store op) = λ rs2 rs1. instr.Store op rs1 rs2
based_instr base.Jalr = instr.Jalr

abbrev pub upper_instr : UpperOp → ℕ → ℕ → Instr
upper_instr upper.Lui = instr.Lui
upper_instr upper.Auipc = instr.Auipc

abbrev pub bare_instr : BareOp → Instr
bare_instr bare.Fence = instr.Fence 0 0 0x0ff
bare_instr bare.Ecall = instr.Ecall
bare_instr bare.Ebreak = instr.Ebreak
bare_instr bare.Return = instr.Jalr 0 1 0

abbrev pub partial_instr : Partial → ℕ → Instr
partial_instr (partial.Numbered op rd rs1) = numbered_instr op rd rs1
partial_instr (partial.Based op register rs1) = based_instr op register rs1
partial_instr (partial.Upper op rd) = upper_instr op rd

-- ---- its number lies from -below to above, and is put into a field of this many bits

abbrev pub number_below : NumberOp → ℕ
number_below (numbered.Imm op) = 2048
number_below numbered.Addiw = 2048
number_below (numbered.Shift op) = 0
number_below (numbered.ShiftW op) = 0

abbrev pub number_above : NumberOp → ℕ
number_above (numbered.Imm op) = 2047
number_above numbered.Addiw = 2047
number_above (numbered.Shift op) = 63
number_above (numbered.ShiftW op) = 31

abbrev pub number_bits : NumberOp → ℕ
number_bits (numbered.Imm op) = 12
number_bits numbered.Addiw = 12
number_bits (numbered.Shift op) = 6
number_bits (numbered.ShiftW op) = 5

abbrev pub below_of : Partial → ℕ
below_of (partial.Numbered op rd rs1) = number_below op
below_of (partial.Based op register rs1) = 2048
below_of (partial.Upper op rd) = 0

abbrev pub above_of : Partial → ℕ
above_of (partial.Numbered op rd rs1) = number_above op
above_of (partial.Based op register rs1) = 2047
above_of (partial.Upper op rd) = 0xfffff

abbrev pub bits_of : Partial → ℕ
bits_of (partial.Numbered op rd rs1) = number_bits op
bits_of (partial.Based op register rs1) = 12
bits_of (partial.Upper op rd) = 20

-- a number as a field of the operation's instruction, where it fits
abbrev pub number_within : NumberOp → ℤ → Option ℕ
number_within op n = field_within (number_below op) (number_above op) (number_bits op) n

abbrev pub partial_within : Partial → ℤ → Option ℕ
partial_within p n = field_within (below_of p) (above_of p) (bits_of p) n
