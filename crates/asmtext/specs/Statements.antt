-- Statements and lines, as the definitions see them.
use Rattle.std.specs.Prelude.{Err, List, Ok, Option, Result, ℕ, option_map}
use Rattle.std.specs.Borrow.{Bor}
use Rattle.unixmodel.specs.Operands as operands
use Rattle.unixmodel.specs.Statements as the
use Rattle.unixmodel.specs.declared.assembly.AsmKind.{AsmKind}
use Rattle.unixmodel.specs.declared.instr.Instr.{Instr}
use Rattle.unixmodel.specs.declared.instr.Instr.TheVariants as instr
use Rattle.asmtext.specs.Forms.{size_of}
use Rattle.asmtext.specs.Numbers.{number_of}
use Rattle.asmtext.specs.Operations.{above_of, below_of, bits_of, partial_instr}
use Rattle.asmtext.specs.declared.statement.Leap.{Leap}
use Rattle.asmtext.specs.declared.statement.Leap.TheVariants as leap
use Rattle.asmtext.specs.declared.statement.Line.{Line}
use Rattle.asmtext.specs.declared.statement.Statement.{Statement}
use Rattle.asmtext.specs.declared.statement.Statement.TheVariants as statement
use Rattle.asmtext.specs.declared.statement.Target.{Target}
use Rattle.asmtext.specs.declared.statement.Target.TheVariants as target

-- how many bits its offset has
abbrev pub leap_bits : Leap → ℕ
leap_bits (leap.Branch op rs1 rs2) = 13
leap_bits (leap.Jal rd) = 21

abbrev pub leap_instr : Leap → ℕ → Instr
leap_instr (leap.Branch op rs1 rs2) = instr.Branch op rs1 rs2
leap_instr (leap.Jal rd) = instr.Jal rd

abbrev pub target_of : Target → operands.Target
target_of (target.Number n) = operands.Target.Number (number_of n)
target_of (target.Label name) = operands.Target.Label name.items

abbrev pub statement_of : Statement → the.Statement
statement_of statement.Empty = the.Statement.Empty
statement_of (statement.Whole i) = the.Statement.Whole i
statement_of (statement.Numbered p n) =
    the.Statement.Numbered (below_of p) (above_of p) (bits_of p) (partial_instr p) (number_of n)
statement_of (statement.Jump l to) = the.Statement.Jump (leap_bits l) (leap_instr l) (target_of to)
statement_of (statement.Load rd value) = the.Statement.Load rd (target_of value)
statement_of (statement.Data width n) = the.Statement.Data (size_of width) (number_of n)
statement_of (statement.Text bytes) = the.Statement.Text bytes.items
statement_of (statement.Zeros n) = the.Statement.Zeros (number_of n)
statement_of (statement.Padding n) = the.Statement.Padding (number_of n)

abbrev pub said_seen : Result Statement AsmKind → Result the.Statement AsmKind
said_seen (Ok s) = Ok (statement_of s)
said_seen (Err k) = Err k

abbrev pub label_seen : Option (Bor (List ℕ)) → Option (List ℕ)
label_seen label = option_map (λ (l : Bor (List ℕ)). l.now) label

abbrev pub line_seen : Line → the.Line
line_seen l = record { label = label_seen l.label; says = said_seen l.says }
