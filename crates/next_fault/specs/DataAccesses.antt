-- What the next instruction of a process loads or stores.
use Rattle.std.specs.Prelude.{List, None, Option, Some, false, option_and_then, option_map, slice_index, true, ℕ}
use Rattle.next_fault.specs.declared.accesses.DataAccess.{DataAccess}
use Rattle.unixmodel.specs.declared.instr.Instr.{Instr}
use Rattle.unixmodel.specs.declared.instr.Instr.TheVariants.{Load, Store}
use Rattle.unixmodel.specs.declared.trap.Access.TheVariants.{Fetch}
use Rattle.unixmodel.specs.Meaning.{load_size, store_size}
use Rattle.unixmodel.specs.Memory.{Memory, bytes_at, page_for}
use Rattle.unixmodel.specs.Numbers.{extend, number, plus}
use Rattle.unixmodel.specs.Process.{Process}
use Rattle.unixmodel.specs.Words.{instruction_of}

-- what an instruction loads or stores, where these are the registers
abbrev pub access_by : List ℕ → Instr → Option DataAccess
access_by regs (Load op rd rs1 imm) = Some (record {
  is_store = false;
  address = plus (slice_index regs rs1) (extend 12 imm);
  size = load_size op;
})
access_by regs (Store op rs1 rs2 imm) = Some (record {
  is_store = true;
  address = plus (slice_index regs rs1) (extend 12 imm);
  size = store_size op;
})
access_by regs _ = None

-- the word at an address, where it may be fetched
abbrev pub word_fetched : Memory → ℕ → Option ℕ
word_fetched memory pc = option_map (λ page. number (bytes_at 4 pc page)) (page_for Fetch memory pc)

-- what the instruction at the pc loads or stores
abbrev pub access_read : List ℕ → ℕ → Memory → Option DataAccess
access_read regs pc memory =
    option_and_then (access_by regs) (option_and_then instruction_of (word_fetched memory pc))

abbrev pub access_shown : Process → Option DataAccess
access_shown p = access_read p.registers p.pc p.memory
