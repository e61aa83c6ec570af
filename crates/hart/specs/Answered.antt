-- What an instruction does where a translator serves its accesses, whatever the tables are.
use Rattle.std.specs.Prelude.{ℕ, ◌≡◌, ◌%◌, ◌==◌, false, true, if◌then◌else◌, List, [], Option, Some, None, MatchResult}
use Rattle.std.specs.Prelude.{option_map, slice_index, slice_index_or, slice_set}
use Rattle.unixmodel.specs.declared.instr.Instr.{Instr}
use Rattle.unixmodel.specs.declared.instr.LoadOp.{LoadOp}
use Rattle.unixmodel.specs.declared.instr.StoreOp.{StoreOp}
use Rattle.unixmodel.specs.declared.trap.Access.{Access}
use Rattle.unixmodel.specs.declared.trap.Access.TheVariants.{Fetch, Load, Store}
use Rattle.unixmodel.specs.declared.trap.Cause.TheVariants.{IllegalInstruction, InstructionPageFault, LoadMisaligned}
use Rattle.unixmodel.specs.declared.trap.Cause.TheVariants.{StoreMisaligned}
use Rattle.unixmodel.specs.declared.trap.Trap.{Trap}
use Rattle.unixmodel.specs.Meaning.{Change, Effect, act, load_from, load_size, store_size, store_to, trap}
use Rattle.unixmodel.specs.Meaning.Change.{Bytes, Nothing}
use Rattle.unixmodel.specs.Memory.{Page, bytes_at, overwrite}
use Rattle.unixmodel.specs.Numbers.{extend, le, number, plus}
use Rattle.unixmodel.specs.Translation.{Held, IsAnswer, place_in}
use Rattle.unixmodel.specs.Words.{instruction_of}
use Rattle.hart.specs.declared.state.Hart.{Hart}
use Rattle.unixmodel.specs.declared.instr.Instr.TheVariants as instr

-- ---- the results of a translator

-- for each access to an address the frame of its page, or None: a page fault
abbrev pub Answers : Type 0
Answers = Access → ℕ → Option ℕ

-- each of them is one that the law of translators allows
abbrev pub AreAllowed : Held → List (List ℕ) → ℕ → Answers → Type 0
AreAllowed held ram root answers =
    (access : Access) (address : ℕ)
    → IsAnswer held ram root address access (option_map (place_in address) (answers access address))

-- what an access to an address finds
abbrev pub Sight : Type 0
Sight = Access → ℕ → Option Page

-- a frame that an access was given: its marks have been looked at
abbrev pub given : List (List ℕ) → ℕ → Page
given ram f = record {
  bytes = slice_index_or ram f [];
  marks = record { writable = true; executable = true; user = true; shared = false };
}

abbrev pub seen : List (List ℕ) → Answers → Sight
seen ram answers access address = option_map (given ram) (answers access address)

-- ---- the instruction: its meaning, with what its accesses find instead of a memory

abbrev pub load_by : List ℕ → ℕ → LoadOp → ℕ → ℕ → Sight → Effect
load_by regs pc op rd address see =
    if address % load_size op == 0 then load_from regs pc op rd address (see Load address)
    else trap LoadMisaligned address

abbrev pub store_by : List ℕ → ℕ → StoreOp → ℕ → ℕ → Sight → Effect
store_by regs pc op address value see =
    if address % store_size op == 0 then store_to regs pc address (le (store_size op) value) (see Store address)
    else trap StoreMisaligned address

-- all but loads and stores access no memory
unfoldable pub act_by : Instr → List ℕ → ℕ → Sight → Effect
act_by (instr.Load op rd rs1 imm) regs pc see = load_by regs pc op rd (plus (slice_index regs rs1) (extend 12 imm)) see
act_by (instr.Store op rs1 rs2 imm) regs pc see =
    store_by regs pc op (plus (slice_index regs rs1) (extend 12 imm)) (slice_index regs rs2) see
act_by i regs pc see = act i regs pc []

abbrev pub word_by : Option Instr → List ℕ → ℕ → Sight → Effect
word_by None regs pc see = trap IllegalInstruction pc
word_by (Some i) regs pc see = act_by i regs pc see

abbrev pub fetched_by : Option Page → List ℕ → ℕ → Sight → Effect
fetched_by None regs pc see = trap InstructionPageFault pc
fetched_by (Some page) regs pc see = word_by (instruction_of (number (bytes_at 4 pc page))) regs pc see

-- the instruction at the pc
unfoldable pub cycle_by : List ℕ → ℕ → Sight → Effect
cycle_by regs pc see = fetched_by (see Fetch pc) regs pc see

-- ---- the step

abbrev pub put_at : List (List ℕ) → Option ℕ → ℕ → List ℕ → List (List ℕ)
put_at ram None at bytes = ram
put_at ram (Some f) at bytes = slice_set ram f (overwrite (slice_index_or ram f []) at bytes)

-- the frames after a change: the addressed bytes of the frame that a store was given are new, and nothing else
abbrev pub stored : List (List ℕ) → Answers → Change → List (List ℕ)
stored ram answers Nothing = ram
stored ram answers (Bytes address bytes) = put_at ram (answers Store address) (address % 4096) bytes

-- The registers, the pc and the frames are the effect's. A trap changes nothing.
abbrev pub HasEffect : Effect → Answers → Option Trap → Hart → Hart → List (List ℕ) → List (List ℕ) → Type 0
HasEffect effect answers result old new ram ram' = MatchResult effect
    (λ d. (result ≡ None) × (new.registers ≡ d.regs) × (new.pc ≡ d.pc) × (new.root ≡ old.root)
    × (ram' ≡ stored ram answers d.change))
    (λ t. (result ≡ Some t) × (new ≡ old) × (ram' ≡ ram))

-- A hart does what an instruction means, with each access translated as the law of translators allows. What the law
-- allows later in a step it allows at its start too, as a translator adds only what the walk gives.
pub record IsStep (held : Held) (meaning : Sight → Effect) (result : Option Trap) (old new : Hart)
    (ram ram' : List (List ℕ)) : Type 0 where
  pub answers : Answers
  pub allowed : AreAllowed held ram old.root.0 answers
  pub does : HasEffect (meaning (seen ram answers)) answers result old new ram ram'

-- the word at the pc, in a frame that the law of translators allows
abbrev pub IsFetched : Held → List (List ℕ) → Hart → ℕ → Type 0
IsFetched held ram hart word =
    (f : ℕ) × IsAnswer held ram hart.root.0 hart.pc Fetch (Some (place_in hart.pc f))
    × (word ≡ number (bytes_at 4 hart.pc (given ram f)))
