-- The causes of traps by the manual's names, as words.
use Rattle.std.specs.Prelude.{List, codes, ℕ}
use Rattle.unixmodel.specs.declared.trap.Cause.{Cause}
use Rattle.unixmodel.specs.declared.trap.Cause.TheVariants as cause

abbrev pub cause_word : Cause → List ℕ
cause_word cause.InstructionMisaligned = codes "instruction_misaligned"
cause_word cause.IllegalInstruction = codes "illegal_instruction"
cause_word cause.Breakpoint = codes "breakpoint"
cause_word cause.EnvironmentCall = codes "environment_call"
cause_word cause.LoadMisaligned = codes "load_misaligned"
cause_word cause.StoreMisaligned = codes "store_misaligned"
cause_word cause.InstructionPageFault = codes "instruction_page_fault"
cause_word cause.LoadPageFault = codes "load_page_fault"
cause_word cause.StorePageFault = codes "store_page_fault"
