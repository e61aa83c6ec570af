-- The form of each word.
use Rattle.std.specs.Prelude.{List, ℕ}
use Rattle.std.specs.Borrow.{Bor}
use Rattle.unixmodel.specs.Statements as the
use Rattle.unixmodel.specs.Statements.Statement.{Data, Padding as Pad, Whole, Zeros as Fill}
use Rattle.unixmodel.specs.declared.instr.Instr.TheVariants as instr
use Rattle.asmtext.specs.Operations.{bare_instr, based_instr, number_above, number_below, number_bits, numbered_instr}
use Rattle.asmtext.specs.Operations.{register_instr, upper_instr}
use Rattle.asmtext.specs.declared.mnemonics.Width.{Width}
use Rattle.asmtext.specs.declared.mnemonics.Width.TheVariants as width
use Rattle.asmtext.specs.declared.mnemonics.Word.{Word}
use Rattle.asmtext.specs.declared.mnemonics.Word.TheVariants as word

abbrev pub size_of : Width → ℕ
size_of width.Byte = 1
size_of width.Word = 4
size_of width.DoubleWord = 8

abbrev pub form_of : Word → the.Form
form_of (word.Register op) = the.registers (register_instr op)
form_of (word.Number op) = the.numbered (number_below op) (number_above op) (number_bits op) (numbered_instr op)
form_of (word.Base op) = the.memorial (based_instr op)
form_of (word.Upper op) = the.upper (upper_instr op)
form_of (word.Branch op) = the.branch (instr.Branch op)
form_of (word.Bare op) = the.bare (Whole (bare_instr op))
form_of word.JumpAndLink = the.jump
form_of word.Jump = the.plain_jump
form_of word.LoadNumber = the.load_number
form_of word.LoadAddress = the.load_address
form_of word.Move = the.move
form_of (word.Data width) = the.counted (Data (size_of width))
form_of word.Ascii = the.quoted
form_of word.Zeros = the.counted Fill
form_of word.Padding = the.counted Pad

-- a row of the table of words
abbrev pub named_form : Bor (List ℕ) × Word → List ℕ × the.Form
named_form row = (row.0.now, form_of row.1)
