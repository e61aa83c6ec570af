-- What operations do: each is an instruction with its fields taken from its word.
use Rattle.std.specs.Prelude.{ℕ, ◌≡◌, ◌<◌, ◌≤◌, ◌+◌, ◌*◌, ◌/◌, List, length, Option, Some, None, Ok, slice_index}
use Rattle.std.specs.Prelude.{slice_index_or, suc, zero}
use Rattle.unixmodel.specs.declared.instr.BranchOp.{BranchOp}
use Rattle.unixmodel.specs.declared.instr.ImmOp.{ImmOp}
use Rattle.unixmodel.specs.declared.instr.RegOp.{RegOp}
use Rattle.unixmodel.specs.declared.instr.RegOpW.{RegOpW}
use Rattle.unixmodel.specs.declared.trap.Cause.TheVariants.{Breakpoint, EnvironmentCall, IllegalInstruction}
use Rattle.unixmodel.specs.Meaning.{Effect, branch, imm_value, is_taken, jump, reg_value, reg_w_value, set_register}
use Rattle.unixmodel.specs.Meaning.{shifted, shifted_word, trap, word}
use Rattle.unixmodel.specs.Meaning.Change.{Nothing}
use Rattle.unixmodel.specs.Numbers.{extend, low, plus}
use Rattle.unixmodel.specs.Words.{instruction_of}
use Rattle.hart.specs.Answered.{Sight, load_by, store_by, word_by}
use Rattle.hart.specs.declared.operation.Op.{Op}
use Rattle.hart.specs.declared.operation.Op.TheVariants as op
use Rattle.unixmodel.specs.declared.instr.BranchOp.TheVariants as by
use Rattle.unixmodel.specs.declared.instr.ImmOp.TheVariants as imm
use Rattle.unixmodel.specs.declared.instr.LoadOp.TheVariants as load
use Rattle.unixmodel.specs.declared.instr.RegOp.TheVariants as reg
use Rattle.unixmodel.specs.declared.instr.RegOpW.TheVariants as reg_w
use Rattle.unixmodel.specs.declared.instr.ShiftOp.TheVariants as shift
use Rattle.unixmodel.specs.declared.instr.StoreOp.TheVariants as store

-- the number of a register that can be written
abbrev pub target_of : ℕ → Option ℕ
target_of zero = None
target_of (suc n) = Some (suc n)

-- what an instruction means where a hart is, by what its accesses find
abbrev pub Meant : Type 0
Meant = List ℕ → ℕ → Sight → Effect

-- a register and an immediate of 32 bits
abbrev pub offset_by : List ℕ → ℕ → ℕ → ℕ
offset_by regs rs1 i = plus (slice_index regs rs1) (extend 32 i)

abbrev pub by_registers : RegOp → ℕ → ℕ → ℕ → List ℕ → ℕ → Effect
by_registers o rd rs1 rs2 regs pc = set_register regs pc rd (reg_value o (slice_index regs rs1) (slice_index regs rs2))

abbrev pub by_words : RegOpW → ℕ → ℕ → ℕ → List ℕ → ℕ → Effect
by_words o rd rs1 rs2 regs pc = set_register regs pc rd (reg_w_value o (slice_index regs rs1) (slice_index regs rs2))

abbrev pub by_immediate : ImmOp → ℕ → ℕ → ℕ → List ℕ → ℕ → Effect
by_immediate o rd rs1 value regs pc = set_register regs pc rd (imm_value o (slice_index regs rs1) value)

abbrev pub by_branch : BranchOp → ℕ → ℕ → ℕ → List ℕ → ℕ → Effect
by_branch o rs1 rs2 offset regs pc =
    branch regs pc (is_taken o (slice_index regs rs1) (slice_index regs rs2)) (plus pc offset)

-- what an operation does
unfoldable pub op_by : Op → Meant
op_by (op.Lui rd i) regs pc see = set_register regs pc rd (extend 32 i)
op_by (op.Auipc rd i) regs pc see = set_register regs pc rd (plus pc (extend 32 i))
op_by (op.Jal rd i) regs pc see = jump regs pc rd (plus pc (extend 32 i))
op_by (op.J i) regs pc see = jump regs pc 0 (plus pc (extend 32 i))
op_by (op.Jalr rd rs1 i) regs pc see = jump regs pc rd (offset_by regs rs1 i / 2 * 2)
op_by (op.Jr rs1 i) regs pc see = jump regs pc 0 (offset_by regs rs1 i / 2 * 2)
op_by (op.Beq rs1 rs2 i) regs pc see = by_branch by.Beq rs1 rs2 (extend 32 i) regs pc
op_by (op.Bne rs1 rs2 i) regs pc see = by_branch by.Bne rs1 rs2 (extend 32 i) regs pc
op_by (op.Blt rs1 rs2 i) regs pc see = by_branch by.Blt rs1 rs2 (extend 32 i) regs pc
op_by (op.Bge rs1 rs2 i) regs pc see = by_branch by.Bge rs1 rs2 (extend 32 i) regs pc
op_by (op.Bltu rs1 rs2 i) regs pc see = by_branch by.Bltu rs1 rs2 (extend 32 i) regs pc
op_by (op.Bgeu rs1 rs2 i) regs pc see = by_branch by.Bgeu rs1 rs2 (extend 32 i) regs pc
op_by (op.Lb rd rs1 i) regs pc see = load_by regs pc load.Lb rd (offset_by regs rs1 i) see
op_by (op.Lh rd rs1 i) regs pc see = load_by regs pc load.Lh rd (offset_by regs rs1 i) see
op_by (op.Lw rd rs1 i) regs pc see = load_by regs pc load.Lw rd (offset_by regs rs1 i) see
op_by (op.Ld rd rs1 i) regs pc see = load_by regs pc load.Ld rd (offset_by regs rs1 i) see
op_by (op.Lbu rd rs1 i) regs pc see = load_by regs pc load.Lbu rd (offset_by regs rs1 i) see
op_by (op.Lhu rd rs1 i) regs pc see = load_by regs pc load.Lhu rd (offset_by regs rs1 i) see
op_by (op.Lwu rd rs1 i) regs pc see = load_by regs pc load.Lwu rd (offset_by regs rs1 i) see
op_by (op.Probe o rs1 i) regs pc see = load_by regs pc o 0 (offset_by regs rs1 i) see
op_by (op.Sb rs1 rs2 i) regs pc see = store_by regs pc store.Sb (offset_by regs rs1 i) (slice_index regs rs2) see
op_by (op.Sh rs1 rs2 i) regs pc see = store_by regs pc store.Sh (offset_by regs rs1 i) (slice_index regs rs2) see
op_by (op.Sw rs1 rs2 i) regs pc see = store_by regs pc store.Sw (offset_by regs rs1 i) (slice_index regs rs2) see
op_by (op.Sd rs1 rs2 i) regs pc see = store_by regs pc store.Sd (offset_by regs rs1 i) (slice_index regs rs2) see
op_by (op.Addi rd rs1 i) regs pc see = by_immediate imm.Addi rd rs1 (extend 32 i) regs pc
op_by (op.Slti rd rs1 i) regs pc see = by_immediate imm.Slti rd rs1 (extend 32 i) regs pc
op_by (op.Sltiu rd rs1 i) regs pc see = by_immediate imm.Sltiu rd rs1 (extend 32 i) regs pc
op_by (op.Xori rd rs1 i) regs pc see = by_immediate imm.Xori rd rs1 (extend 32 i) regs pc
op_by (op.Ori rd rs1 i) regs pc see = by_immediate imm.Ori rd rs1 (extend 32 i) regs pc
op_by (op.Andi rd rs1 i) regs pc see = by_immediate imm.Andi rd rs1 (extend 32 i) regs pc
op_by (op.Slli rd rs1 amount) regs pc see = set_register regs pc rd (shifted shift.Sll (slice_index regs rs1) amount)
op_by (op.Srli rd rs1 amount) regs pc see = set_register regs pc rd (shifted shift.Srl (slice_index regs rs1) amount)
op_by (op.Srai rd rs1 amount) regs pc see = set_register regs pc rd (shifted shift.Sra (slice_index regs rs1) amount)
op_by (op.Add rd rs1 rs2) regs pc see = by_registers reg.Add rd rs1 rs2 regs pc
op_by (op.Sub rd rs1 rs2) regs pc see = by_registers reg.Sub rd rs1 rs2 regs pc
op_by (op.Sll rd rs1 rs2) regs pc see = by_registers reg.Sll rd rs1 rs2 regs pc
op_by (op.Slt rd rs1 rs2) regs pc see = by_registers reg.Slt rd rs1 rs2 regs pc
op_by (op.Sltu rd rs1 rs2) regs pc see = by_registers reg.Sltu rd rs1 rs2 regs pc
op_by (op.Xor rd rs1 rs2) regs pc see = by_registers reg.Xor rd rs1 rs2 regs pc
op_by (op.Srl rd rs1 rs2) regs pc see = by_registers reg.Srl rd rs1 rs2 regs pc
op_by (op.Sra rd rs1 rs2) regs pc see = by_registers reg.Sra rd rs1 rs2 regs pc
op_by (op.Or rd rs1 rs2) regs pc see = by_registers reg.Or rd rs1 rs2 regs pc
op_by (op.And rd rs1 rs2) regs pc see = by_registers reg.And rd rs1 rs2 regs pc
op_by (op.Mul rd rs1 rs2) regs pc see = by_registers reg.Mul rd rs1 rs2 regs pc
op_by (op.Mulh rd rs1 rs2) regs pc see = by_registers reg.Mulh rd rs1 rs2 regs pc
op_by (op.Mulhsu rd rs1 rs2) regs pc see = by_registers reg.Mulhsu rd rs1 rs2 regs pc
op_by (op.Mulhu rd rs1 rs2) regs pc see = by_registers reg.Mulhu rd rs1 rs2 regs pc
op_by (op.Div rd rs1 rs2) regs pc see = by_registers reg.Div rd rs1 rs2 regs pc
op_by (op.Divu rd rs1 rs2) regs pc see = by_registers reg.Divu rd rs1 rs2 regs pc
op_by (op.Rem rd rs1 rs2) regs pc see = by_registers reg.Rem rd rs1 rs2 regs pc
op_by (op.Remu rd rs1 rs2) regs pc see = by_registers reg.Remu rd rs1 rs2 regs pc
op_by (op.Addiw rd rs1 i) regs pc see = set_register regs pc rd (word (offset_by regs rs1 i))
op_by (op.Slliw rd rs1 amount) regs pc see =
    set_register regs pc rd (shifted_word shift.Sll (low (slice_index regs rs1)) amount)
op_by (op.Srliw rd rs1 amount) regs pc see =
    set_register regs pc rd (shifted_word shift.Srl (low (slice_index regs rs1)) amount)
op_by (op.Sraiw rd rs1 amount) regs pc see =
    set_register regs pc rd (shifted_word shift.Sra (low (slice_index regs rs1)) amount)
op_by (op.Addw rd rs1 rs2) regs pc see = by_words reg_w.Addw rd rs1 rs2 regs pc
op_by (op.Subw rd rs1 rs2) regs pc see = by_words reg_w.Subw rd rs1 rs2 regs pc
op_by (op.Sllw rd rs1 rs2) regs pc see = by_words reg_w.Sllw rd rs1 rs2 regs pc
op_by (op.Srlw rd rs1 rs2) regs pc see = by_words reg_w.Srlw rd rs1 rs2 regs pc
op_by (op.Sraw rd rs1 rs2) regs pc see = by_words reg_w.Sraw rd rs1 rs2 regs pc
op_by (op.Mulw rd rs1 rs2) regs pc see = by_words reg_w.Mulw rd rs1 rs2 regs pc
op_by (op.Divw rd rs1 rs2) regs pc see = by_words reg_w.Divw rd rs1 rs2 regs pc
op_by (op.Divuw rd rs1 rs2) regs pc see = by_words reg_w.Divuw rd rs1 rs2 regs pc
op_by (op.Remw rd rs1 rs2) regs pc see = by_words reg_w.Remw rd rs1 rs2 regs pc
op_by (op.Remuw rd rs1 rs2) regs pc see = by_words reg_w.Remuw rd rs1 rs2 regs pc
op_by op.Nop regs pc see = Ok (record { regs = regs; pc = plus pc 4; change = Nothing })
op_by op.Ecall regs pc see = trap EnvironmentCall pc
op_by op.Ebreak regs pc see = trap Breakpoint pc
op_by op.Illegal regs pc see = trap IllegalInstruction pc

-- an operation does what is meant, wherever a hart is and whatever it sees
abbrev pub Means : Op → Meant → Type 0
Means op meant = (regs : List ℕ) (pc : ℕ) (see : Sight) → op_by op regs pc see ≡ meant regs pc see

-- an operation is that of a word
abbrev pub IsOp : Op → ℕ → Type 0
IsOp op word = Means op (word_by (instruction_of word))

-- The operations of a page are those of its words. After those of each 64 words is one of the word 0, which is no
-- instruction.
pub record AreDecoded (words : List ℕ) (ops : List Op) : Type 0 where
  pub of_words : (k : ℕ) (d : Op) → k < 1024 → IsOp (slice_index_or ops (k + k / 64) d) (slice_index words k)
  pub of_ends : (part : ℕ) (d : Op) → part < 16 → IsOp (slice_index_or ops (65 * part + 64) d) 0

-- the operations of a part by the indices of its words in their page, and the one after them
pub record AreOps (words : List ℕ) (part : ℕ) (ops : List Op) : Type 0 where
  pub long : 64 * part + 64 < length ops
  pub of_words : (k : ℕ) (d : Op) → 64 * part ≤ k → k < 64 * part + 64
      → IsOp (slice_index_or ops k d) (slice_index words k)
  pub of_end : (d : Op) → IsOp (slice_index_or ops (64 * part + 64) d) 0
