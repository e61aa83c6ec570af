-- One instruction from its address on: the word at the pc is fetched, decoded and executed.
-- From the RISC-V unprivileged manual; a fetch reads memory as it is now.
use Rattle.std.specs.Prelude.{List, None, Option, Some, ℕ}
use Rattle.unixmodel.specs.declared.instr.Instr.{Instr}
use Rattle.unixmodel.specs.declared.trap.Access.TheVariants.{Fetch}
use Rattle.unixmodel.specs.declared.trap.Cause.TheVariants.{IllegalInstruction, InstructionPageFault}
use Rattle.unixmodel.specs.Meaning.{Effect, act, trap}
use Rattle.unixmodel.specs.Memory.{Memory, Page, bytes_at, page_for}
use Rattle.unixmodel.specs.Numbers.{number}
use Rattle.unixmodel.specs.Words.{instruction_of}

-- a word that is no instruction is cause 2
abbrev pub act_word : Option Instr → List ℕ → ℕ → Memory → Effect
act_word None regs pc mem = trap IllegalInstruction pc
act_word (Some instr) regs pc mem = act instr regs pc mem

abbrev pub fetched : Option Page → List ℕ → ℕ → Memory → Effect
fetched None regs pc mem = trap InstructionPageFault pc
fetched (Some page) regs pc mem = act_word (instruction_of (number (bytes_at 4 pc page))) regs pc mem

-- what the instruction at the pc does
unfoldable pub cycle : List ℕ → ℕ → Memory → Effect
cycle regs pc mem = fetched (page_for Fetch mem pc) regs pc mem
