-- What the operations of a line number program do to the registers (DWARF 5, sections 6.2.5.1 to 6.2.5.3).
use Rattle.std.specs.Prelude.{ℕ, ℤ, pos, negsuc, suc, ◌+◌, ◌-◌, ◌*◌, ◌/◌, ◌%◌, ◌^◌, ◌+ℤ◌, min}
use Rattle.lines.specs.declared.operation.Operation.{Operation}
use Rattle.lines.specs.declared.operation.Operation.TheVariants.{AddConstant, AdvanceAddress, AdvanceBytes, AdvanceLine}
use Rattle.lines.specs.declared.operation.Operation.TheVariants.{Copy, EndSequence, Other, SetAddress, SetFile, Special}
use Rattle.lines.specs.declared.registers.Registers.{Registers}
use Rattle.lines.specs.declared.unit.Steps.{Steps}

-- a line after an advance: the first line is the least, 2 ^ 64 - 1 the greatest
abbrev pub advanced_line : ℕ → ℤ → ℕ
advanced_line line (pos n) = min (line + n) (2 ^ 64 - 1)
advanced_line line (negsuc n) = line - suc n

-- an address that many bytes on
abbrev pub on : ℕ → ℕ → ℕ
on address bytes = (address + bytes) % 2 ^ 64

-- by how many bytes an adjusted opcode advances the address
abbrev pub advance_of : Steps → ℕ → ℕ
advance_of steps adjusted = steps.minimum * (adjusted / steps.line_range)

-- the registers as a sequence begins
abbrev pub start : Registers
start = record { address = 0; file = 1; line = 1 }

abbrev pub after : Steps → Operation → Registers → Registers
after steps (Special adjusted) r = record {
  address = on r.address (advance_of steps adjusted);
  file = r.file;
  line = advanced_line r.line (steps.line_base +ℤ pos (adjusted % steps.line_range));
}
after steps Copy r = r
after steps Other r = r
after steps (AdvanceAddress advance) r =
    record { address = on r.address (steps.minimum * advance % 2 ^ 64); file = r.file; line = r.line }
after steps (AdvanceLine advance) r = record { address = r.address; file = r.file; line = advanced_line r.line advance }
after steps (SetFile file) r = record { address = r.address; file = file; line = r.line }
after steps AddConstant r =
    record { address = on r.address (advance_of steps (255 - steps.opcode_base)); file = r.file; line = r.line }
after steps (AdvanceBytes bytes) r = record { address = on r.address bytes; file = r.file; line = r.line }
after steps EndSequence r = start
after steps (SetAddress address) r = record { address = address; file = r.file; line = r.line }
