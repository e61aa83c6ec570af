-- What instructions give, against values that were worked out by another program.
-- Register 6 is a, register 7 is b, the pc is 0x1000, and rd is 5.
use Rattle.model_examples.proofs.Common.{minus_one, Trap, Memory, Page, pages_of, zero_page, zeros, memory_after, Cause}
use Rattle.model_examples.proofs.Common.{String, le}
use Rattle.std.specs.Prelude.{◌+◌, ◌++◌, ◌-◌, [], ◌^◌, codes, Err, false, flat_map, length, List, map, None, Ok, Option}
use Rattle.std.specs.Prelude.{refl, replicate, Result, slice_index, slice_range, Some, true, ℕ, ◌∷◌, ◌≡◌}
use Rattle.unixmodel.specs.ElfFile.{elf_file}
use Rattle.unixmodel.specs.declared.trap.Cause.TheVariants.{InstructionMisaligned, LoadMisaligned, LoadPageFault}
use Rattle.unixmodel.specs.declared.trap.Cause.TheVariants.{StoreMisaligned, StorePageFault}
use Rattle.unixmodel.specs.Assembly.{assembled, object}
use Rattle.unixmodel.specs.Disassembly.{word_text}
use Rattle.unixmodel.specs.Words.{instruction_of}
use Rattle.unixmodel.specs.declared.instr.ImmOp.TheVariants.{Addi, Andi, Ori, Slti, Sltiu, Xori}
use Rattle.unixmodel.specs.declared.instr.RegOp.{RegOp}
use Rattle.unixmodel.specs.declared.instr.RegOp.TheVariants.{Add, And, Div, Divu, Mul, Mulh, Mulhsu, Mulhu, Or, Rem}
use Rattle.unixmodel.specs.declared.instr.RegOp.TheVariants.{Remu, Sll, Slt, Sltu, Sra, Srl, Sub, Xor}
use Rattle.unixmodel.specs.declared.instr.RegOpW.{RegOpW}
use Rattle.unixmodel.specs.declared.instr.RegOpW.TheVariants.{Addw, Divuw, Divw, Mulw, Remuw, Remw, Sllw, Sraw, Srlw}
use Rattle.unixmodel.specs.declared.instr.RegOpW.TheVariants.{Subw}
use Rattle.unixmodel.specs.Meaning.{Effect, act}
use Rattle.unixmodel.specs.declared.instr.BranchOp.{BranchOp}
use Rattle.unixmodel.specs.declared.instr.BranchOp.TheVariants.{Beq, Bge, Bgeu, Blt, Bltu, Bne}
use Rattle.unixmodel.specs.declared.instr.ImmOp.{ImmOp}
use Rattle.unixmodel.specs.declared.instr.Instr.{Instr}
use Rattle.unixmodel.specs.declared.instr.LoadOp.{LoadOp}
use Rattle.unixmodel.specs.declared.instr.LoadOp.TheVariants.{Lb, Lbu, Ld, Lh, Lhu, Lw, Lwu}
use Rattle.unixmodel.specs.declared.instr.StoreOp.{StoreOp}
use Rattle.unixmodel.specs.declared.instr.StoreOp.TheVariants.{Sb, Sd, Sh, Sw}
use Rattle.model_examples.proofs.Scripts.{all_opened}
use Rattle.unixmodel.specs.declared.instr.Instr.TheVariants as instr
use Rattle.unixmodel.specs.declared.instr.ShiftOp.{ShiftOp}
use Rattle.unixmodel.specs.declared.instr.ShiftOp.TheVariants as shift
use Rattle.unixmodel.specs.declared.assembly.AsmKind.{AsmKind}
use Rattle.unixmodel.specs.declared.assembly.AsmKind.TheVariants.{Align, Label, Mnemonic, Operand, Range, Syntax, Twice}

abbrev two_registers : ℕ → ℕ → List ℕ
two_registers a b = zeros 6 ++ a ∷ b ∷ zeros 24

abbrev register_5 : Effect → ℕ
register_5 (Ok d) = slice_index d.regs 5
register_5 (Err t) = 0

abbrev pc_after : Effect → ℕ
pc_after (Ok d) = d.pc
pc_after (Err t) = 0

abbrev value : ℕ → ℕ → Instr → ℕ
value a b i = register_5 (act i (two_registers a b) 0x1000 [])

abbrev target : ℕ → ℕ → Instr → ℕ
target a b i = pc_after (act i (two_registers a b) 0x1000 [])

-- what operations give for a and b; and that they give it
abbrev Cases : Type 0 → Type 0
Cases Op = Op → List (ℕ × ℕ × ℕ)

abbrev Gives : {Op : Type 0} → (Op → ℕ → ℕ → ℕ) → Cases Op → List Op → Type 0
Gives gives cases ops = map (λ op. map (λ (c : ℕ × ℕ × ℕ). gives op c.0 c.1) (cases op)) ops
    ≡ map (λ op. map (λ (c : ℕ × ℕ × ℕ). c.2) (cases op)) ops

-- the least and the greatest number that is read as signed
abbrev lowest : ℕ
lowest = 2 ^ 63

abbrev highest : ℕ
highest = 2 ^ 63 - 1

-- on two registers
abbrev register_cases : Cases RegOp
register_cases Add = (2, 0, 2) ∷ (0x100000000, highest, 0x80000000ffffffff) ∷ (0x100000000, 1, 0x100000001)
    ∷ (1, 0x100000000, 0x100000001) ∷ (0x123456789abcdef0, 0x3f, 0x123456789abcdf2f)
    ∷ (highest, 0x95e60af593bd04cf, 0x15e60af593bd04ce) ∷ []
register_cases Sub = (0x3f, 0x123456789abcdef0, 0xedcba9876543214f) ∷ (0x80000000, 1, 0x7fffffff)
    ∷ (0x100000000, 0x1a61dbe22e44158b, 0xe59e241ed1bbea75) ∷ (lowest, 1, highest)
    ∷ (1, highest, 0x8000000000000002) ∷ (lowest, 0xdeadbeefcafebabe, 0xa152411035014542) ∷ []
register_cases Sll = (highest, 0x4cbd87ad5c90a958, 0xffffffffff000000) ∷ (2, 0x3f, 0) ∷ (0x40, 0x7fffffff, 0)
    ∷ (0x9be4bcfc49b64a08, 0x830e07bc1e398f10, 0xbcfc49b64a080000) ∷ (0xdeadbeefcafebabe, 0xffffffff, 0)
    ∷ (lowest, 0x100000000, lowest) ∷ []
register_cases Slt = (0x123456789abcdef0, minus_one, 0) ∷ (0xffffffff, 0xffffffff, 0) ∷ (1, 0xb2715945795e8229, 0)
    ∷ (0, 0xa5aa3c814f426dcb, 0) ∷ (lowest, 0xb774eb5248db40af, 1)
    ∷ (lowest, 0xffffffff, 1) ∷ []
register_cases Sltu = (highest, 0, 0) ∷ (0x40, 0x3f, 0) ∷ (0x123456789abcdef0, 2, 0) ∷ (0x100000000, 2, 0)
    ∷ (0x8cdb305fdd2e1609, 0x80000000, 0) ∷ (0xe25a7605aec6f024, 0x3f, 0) ∷ []
register_cases Xor = (2, lowest, 0x8000000000000002) ∷ (0xffffffff, 0x43435cc52eae05cf, 0x43435cc5d151fa30)
    ∷ (2, 0x7fffffff, 0x7ffffffd) ∷ (0x7fffffff, 0xdbf4a8b2b0c4312d, 0xdbf4a8b2cf3bced2)
    ∷ (highest, minus_one, lowest) ∷ (0x123456789abcdef0, 0xae3a2b7fdfe01893, 0xbc0e7d07455cc663) ∷ []
register_cases Srl = (0x65e7e4236472f1a3, 1, 0x32f3f211b23978d1) ∷ (0x80000000, 1, 0x40000000)
    ∷ (0x298cb3a570ccec31, highest, 0) ∷ (0, 0x100000000, 0) ∷ (0x7fffffff, 1, 0x3fffffff)
    ∷ (0x6050914a9d33a01c, 0x40, 0x6050914a9d33a01c) ∷ []
register_cases Sra = (0x5d39d0a89a2ef80f, 1, 0x2e9ce8544d177c07) ∷ (0xfa529ba3fe3bfada, 0xffffffff, minus_one)
    ∷ (2, 0x7fffffff, 0) ∷ (0xd42fddbb7a86f7a2, 0x100000000, 0xd42fddbb7a86f7a2)
    ∷ (0x100000000, minus_one, 0) ∷ (0, 0xfa7f0eab4c4f9b06, 0) ∷ []
register_cases Or = (1, 0x40, 0x41) ∷ (2, 0x3f, 0x3f) ∷ (0xdeadbeefcafebabe, lowest, 0xdeadbeefcafebabe)
    ∷ (0xdeadbeefcafebabe, 0xda45e18ac2216b02, 0xdeedffefcafffbbe) ∷ (0x3f, 0xcda6c6fdbd685167, 0xcda6c6fdbd68517f)
    ∷ (0x100000000, minus_one, minus_one) ∷ []
register_cases And = (0, 0x4259405278e4b98d, 0) ∷ (highest, 0xcefe2a1f727d8349, 0x4efe2a1f727d8349)
    ∷ (0x597a1ecffcf00fec, 0x149e259b5d58c705, 0x101a048b5c500704) ∷ (0x3f, 0x7fffffff, 0x3f)
    ∷ (highest, 0xd726c86b9c3a23cd, 0x5726c86b9c3a23cd) ∷ (lowest, lowest, lowest) ∷ []
register_cases Mul = (lowest, minus_one, lowest) ∷ (0x123456789abcdef0, 0, 0)
    ∷ (0xfffffffffffffff9, 2, 0xfffffffffffffff2) ∷ (minus_one, minus_one, 1)
    ∷ (0xa15609271ff63c01, 0x89419f936769fc6f, 0x3322bd23423e006f)
    ∷ (0x100000000, 0xe9a60be9b440d80f, 0xb440d80f00000000) ∷ (0x80000000, 0xd1c5554eb2db3722, 0x596d9b9100000000)
    ∷ (2, 0x80000000, 0x100000000) ∷ []
register_cases Mulh = (lowest, minus_one, 0) ∷ (0, 0, 0) ∷ (0xfffffffffffffff9, 2, minus_one)
    ∷ (minus_one, minus_one, 0) ∷ (0x6726c87d156b2102, 2, 0)
    ∷ (0x1afc52d22cb0327c, 0x100000000, 0x1afc52d2) ∷ (0x80000000, 0x7902, 0)
    ∷ (0x80000000, 0xbe0d6c874bbdcdb5, 0xffffffffdf06b643) ∷ []
register_cases Mulhsu = (lowest, minus_one, lowest) ∷ (0xfffffffffffffff9, 0, 0) ∷ (0xfffffffffffffff9, 2, minus_one)
    ∷ (minus_one, minus_one, minus_one)
    ∷ (highest, 0x123456789abcdef0, 0x91a2b3c4d5e6f77) ∷ (1, 0x7fffffff, 0) ∷ (1, 0x47dfe420a433b9df, 0)
    ∷ (0, highest, 0) ∷ []
register_cases Mulhu = (lowest, minus_one, highest) ∷ (7, 0, 0) ∷ (0xfffffffffffffff9, 2, 1)
    ∷ (minus_one, minus_one, 0xfffffffffffffffe)
    ∷ (highest, 0xa453169f3907d9e2, 0x52298b4f9c83ecf0) ∷ (0x3cbc70f3ad391969, 0x3f, 0xe)
    ∷ (0xfffffffffffffff9, 0x4cf20, 0x4cf1f) ∷ (0x100000000, highest, 0x7fffffff) ∷ []
register_cases Div = (7, 0, minus_one) ∷ (lowest, minus_one, lowest) ∷ (1, 0, minus_one)
    ∷ (0xfffffffffffffff9, 2, 0xfffffffffffffffd) ∷ (minus_one, minus_one, 1) ∷ (7, 1, 7)
    ∷ (lowest, 0xfffffffffffffff9, 0x1249249249249249) ∷ (0x123456789abcdef0, lowest, 0)
    ∷ (0x83daa9f9b0d43153, 0xbf2a3, 0xfffff59bfbf3f7ac) ∷ []
register_cases Divu = (lowest, minus_one, 0) ∷ (lowest, 0, minus_one) ∷ (0xfffffffffffffff9, 2, 0x7ffffffffffffffc)
    ∷ (minus_one, minus_one, 1) ∷ (0x3f, 0xfb403, 0)
    ∷ (7, 0x540354e2804faeab, 0) ∷ (0xffffffff80000000, 0x3f, 0x41041040e38e38e) ∷ (0, highest, 0) ∷ []
register_cases Rem = (7, 0, 7) ∷ (lowest, minus_one, 0) ∷ (0x7fffffff, 0, 0x7fffffff)
    ∷ (0xfffffffffffffff9, 2, minus_one) ∷ (minus_one, minus_one, 0) ∷ (0x7fffffff, 0xffffffff, 0x7fffffff)
    ∷ (0x47640ccd79f92b5f, highest, 0x47640ccd79f92b5f) ∷ (0xfffffffffffffff9, 0x5c958, 0xfffffffffffffff9)
    ∷ (7, minus_one, 0) ∷ []
register_cases Remu = (lowest, minus_one, lowest) ∷ (0x123456789abcdef0, 0, 0x123456789abcdef0)
    ∷ (0xfffffffffffffff9, 2, 1) ∷ (minus_one, minus_one, 0)
    ∷ (0xbb0ab3c18bc986a, 2, 0) ∷ (0xe2cbeff405b1afe1, 0x9ae9c00be5f8844c, 0x47e22fe81fb92b95)
    ∷ (0xfffffffffffffff9, 0x7fffffff, 0x7ffffffc) ∷ (0x3f, 0x4b4ba733d5534dd9, 0x3f) ∷ []

-- on the words of two registers
abbrev word_cases : Cases RegOpW
word_cases Addw = (lowest, 0x80000000, 0xffffffff80000000) ∷ (0x330698a1c0093492, 2, 0xffffffffc0093494)
    ∷ (lowest, 0xdeadbeefcafebabe, 0xffffffffcafebabe)
    ∷ (0x6555abfeb8c9817a, minus_one, 0xffffffffb8c98179) ∷ (0x28aaca51b98c67c2, 2, 0xffffffffb98c67c4)
    ∷ (highest, 0xa7e6529bce76e9f4, 0xffffffffce76e9f3) ∷ []
word_cases Subw = (0x123456789abcdef0, 0xffffffff, 0xffffffff9abcdef1) ∷ (0x7fffffff, 0x100000000, 0x7fffffff)
    ∷ (0, 0xa6511445b9f3635c, 0x460c9ca4) ∷ (minus_one, 0xfc8e80b36f0e2289, 0xffffffff90f1dd76)
    ∷ (0xdfb85c0dd37ee915, 0x40, 0xffffffffd37ee8d5) ∷ (0x100000000, highest, 1) ∷ []
word_cases Sllw = (0x100000000, 2, 0) ∷ (minus_one, 0xffffffff, 0xffffffff80000000)
    ∷ (0x123456789abcdef0, 0xd3bf6d016bae4b5b, 0xffffffff80000000)
    ∷ (0x2179b37d806c10b5, 0x100000000, 0xffffffff806c10b5)
    ∷ (0x123456789abcdef0, 2, 0x6af37bc0) ∷ (0xdeadbeefcafebabe, 0x243d35702c1eea1f, 0) ∷ []
word_cases Srlw = (minus_one, 0, minus_one) ∷ (0x100000000, 0xffffffff, 0) ∷ (0xe21b37ca1b29fc99, 0x3f, 0)
    ∷ (0, 0x73c1cd2c81f98b52, 0) ∷ (0xdeadbeefcafebabe, 0x7178ba0a1038f0b5, 0x657)
    ∷ (0x100000000, 0x3f, 0) ∷ []
word_cases Sraw = (0xffffffff, 0xdeadbeefcafebabe, minus_one) ∷ (0x3f, 0x40, 0x3f)
    ∷ (0xf179f2d2e48b9662, 0xffffffff, minus_one) ∷ (1, 0x7fffffff, 0) ∷ (0x3f, 0x3f, 0)
    ∷ (0xdeadbeefcafebabe, 0xdeadbeefcafebabe, minus_one) ∷ []
word_cases Mulw = (0xffffffff80000000, minus_one, 0xffffffff80000000) ∷ (7, 0, 0)
    ∷ (0xfffffffffffffff9, 2, 0xfffffffffffffff2) ∷ (minus_one, minus_one, 1) ∷ (0, 0x3f, 0)
    ∷ (0xffffffff80000000, 0xf7a626d615ed440c, 0) ∷ (0, 0xfffffffffffffff9, 0)
    ∷ (0x123456789abcdef0, 0xe9bac01006972328, 0x1f8da580) ∷ []
word_cases Divw = (0xffffffff80000000, minus_one, 0xffffffff80000000) ∷ (0x100000000, 0, minus_one)
    ∷ (0xfffffffffffffff9, 2, 0xfffffffffffffffd) ∷ (minus_one, minus_one, 1)
    ∷ (0xe54d637b6cae2e58, lowest, minus_one) ∷ (0x3461bd51234d5045, 0x427a1, 0x87f)
    ∷ (0xd011d0a4dadff49a, 0x7fffffff, 0) ∷ (lowest, 0xae95b5c0977bbc45, 0) ∷ []
word_cases Divuw = (0x80000000, 1, 0xffffffff80000000) ∷ (0x80000000, 0, minus_one)
    ∷ (0xffffffff80000000, minus_one, 0) ∷ (0x7fffffff, 0, minus_one) ∷ (0xfffffffffffffff9, 2, 0x7ffffffc)
    ∷ (minus_one, minus_one, 1)
    ∷ (0xa7ca3999342c2d6e, 0xffffffff80000000, 0) ∷ (highest, 0x3fb46e4fb64e82e, 1)
    ∷ (0xdeadbeefcafebabe, 0, minus_one) ∷ (minus_one, 0, minus_one) ∷ []
word_cases Remw = (0xffffffff80000000, minus_one, 0) ∷ (0x7fffffff, 0, 0x7fffffff) ∷ (0xfffffffffffffff9, 2, minus_one)
    ∷ (minus_one, minus_one, 0) ∷ (2, 1, 0)
    ∷ (0x828f855c8dfa0d81, 0xdeadbeefcafebabe, 0xfffffffff7fc9805)
    ∷ (0xdeadbeefcafebabe, 0xffffffff80000000, 0xffffffffcafebabe) ∷ (0x100000000, 0x3f, 0) ∷ []
word_cases Remuw = (0x80000000, 1, 0) ∷ (0xffffffff80000000, minus_one, 0xffffffff80000000)
    ∷ (0x80000000, 0, 0xffffffff80000000) ∷ (0xfffffffffffffff9, 2, 1) ∷ (minus_one, minus_one, 0)
    ∷ (0xfffffffffffffff9, 0xb785468806343a87, 0x1a2a05a) ∷ (0xdeadbeefcafebabe, lowest, 0xffffffffcafebabe)
    ∷ (0x3f, 0xe6d8ff05fa8a599a, 0x3f) ∷ (0xffffffff, 0xffffffff, 0) ∷ []

-- on a register and an immediate
abbrev immediate_cases : Cases ImmOp
immediate_cases Addi = (minus_one, 0xa4b, 0xfffffffffffffa4a) ∷ (0x40, 1, 0x41)
    ∷ (0xbf268ea03836e865, 0, 0xbf268ea03836e865) ∷ (0xffffffff, 0x29a, 0x100000299)
    ∷ (0xb4d19ec12955d6f0, 0xfff, 0xb4d19ec12955d6ef) ∷ []
immediate_cases Slti = (0x80000000, 0x7ff, 0) ∷ (minus_one, 0, 1) ∷ (0xffffffff, 0x70c, 0) ∷ (0x7fffffff, 0xfff, 0)
    ∷ (1, 1, 0) ∷ []
immediate_cases Sltiu = (0x15850a031ad2d5f1, 0x7ff, 0) ∷ (0xdeadbeefcafebabe, 0x7ff, 0)
    ∷ (0x6c18d982d1dcec53, 0xd97, 1) ∷ (0x67ec326a42343354, 0xfff, 1) ∷ (0x7e9ee51d9212824c, 0x7ff, 0) ∷ []
immediate_cases Xori = (0, 0xccb, 0xfffffffffffffccb) ∷ (1, 0, 1) ∷ (0xdeadbeefcafebabe, 0, 0xdeadbeefcafebabe)
    ∷ (0x3f, 0x7ff, 0x7c0) ∷ (0x2f4b342742a8063, 0xfff, 0xfd0b4cbd8bd57f9c) ∷ []
immediate_cases Ori = (0x40, 1, 0x41) ∷ (minus_one, 0, minus_one) ∷ (0xce5af69430b91ed, 1, 0xce5af69430b91ed)
    ∷ (0x4e14d571a0f096da, 1, 0x4e14d571a0f096db) ∷ (0x100000000, 1, 0x100000001) ∷ []
immediate_cases Andi = (0xdeadbeefcafebabe, 0x7ff, 0x2be) ∷ (0, 0xfff, 0) ∷ (0x3f, 0x800, 0)
    ∷ (0xffffffff, 0x1b3, 0x1b3) ∷ (0xa81100a16ea330a1, 0xfff, 0xa81100a16ea330a1) ∷ []

-- a number, how many bits it is shifted by, and the result
abbrev shift_cases : Cases ShiftOp
shift_cases shift.Sll = (0xf86664ae64a149f5, 63, lowest) ∷ (0x3f, 1, 0x7e)
    ∷ (0x123456789abcdef0, 1, 0x2468acf13579bde0) ∷ []
shift_cases shift.Srl = (0x7fffffff, 0, 0x7fffffff) ∷ (0x121ae3e603a63966, 31, 0x2435c7cc) ∷ (0, 0, 0) ∷ []
shift_cases shift.Sra = (0x80000000, 63, 0) ∷ (0x40, 63, 0) ∷ (0x40, 0, 0x40) ∷ []

-- of a word
abbrev word_shift_cases : Cases ShiftOp
word_shift_cases shift.Sll = (2, 15, 0x10000) ∷ (0x40, 15, 0x200000) ∷ (0xfc2325a9f8fdd208, 15, 0xffffffffe9040000) ∷ []
word_shift_cases shift.Srl = (0x40, 1, 0x20) ∷ (0, 15, 0) ∷ (0xffffffff, 15, 0x1ffff) ∷ []
word_shift_cases shift.Sra = (0x3f, 1, 0x1f) ∷ (0, 0, 0) ∷ (1, 1, 0) ∷ []

abbrev word_adds : List (ℕ × ℕ × ℕ)
word_adds = (0, 0x64d, 0x64d) ∷ (0x40, 0xa13, 0xfffffffffffffa53) ∷ (highest, 0xf52, 0xffffffffffffff51)
    ∷ (0xdeadbeefcafebabe, 0x27b, 0xffffffffcafebd39) ∷ []

-- a branch with a, b, its offset, and where it goes
abbrev branch_cases : BranchOp → List (ℕ × ℕ × ℕ × ℕ)
branch_cases Beq = (minus_one, 0x63b759f598b81c66, 0x1000, 0x1004) ∷ (minus_one, minus_one, 0x1000, 0)
    ∷ (0x816b2332cfed943b, 0x100000000, 4, 0x1004) ∷ (0xcc4793d795850e21, 0xf4c18226aed23b0f, 8, 0x1004)
    ∷ []
branch_cases Bne = (0, 0x7fffffff, 0x1000, 0) ∷ (0xcfff0548efba442, lowest, 8, 0x1008) ∷ (0, 1, 4, 0x1004)
    ∷ (1, 0x408fc146794ec926, 0x1ffc, 0xffc) ∷ []
branch_cases Blt = (0xdeadbeefcafebabe, minus_one, 0x1000, 0) ∷ (0x80000000, 0x80000000, 4, 0x1004)
    ∷ (lowest, lowest, 0x1ffc, 0x1004) ∷ (minus_one, minus_one, 0x1000, 0x1004) ∷ []
branch_cases Bge = (0x40, 0x40, 0x1000, 0) ∷ (0x100000000, 0xffffffff, 4, 0x1004) ∷ (0x33020ccd8c90473e, 1, 4, 0x1004)
    ∷ (1, 0xfe9eb4adf7d5f124, 0x1ffc, 0xffc) ∷ []
branch_cases Bltu = (0x3f, 0x3f, 0x1ffc, 0x1004) ∷ (0x9a762d5421f267e2, 0x4791c2e9823d11ed, 0x1ffc, 0x1004)
    ∷ (0xffffffff, 0xffffffff, 0x1000, 0x1004) ∷ (0x80000000, 2, 0x1000, 0x1004) ∷ []
branch_cases Bgeu = (0x123456789abcdef0, 0x7fffffff, 0x1000, 0) ∷ (0x3f, 0x3f, 0x1ffc, 0xffc)
    ∷ (0x80000000, 0x138efef996d4480f, 0x1000, 0x1004) ∷ (0xc5b4c59dab07929, 0, 0x1ffc, 0xffc) ∷ []

operations : record {
  registers : Gives (λ op a b. value a b (instr.Reg op 5 6 7)) register_cases
      (Add ∷ Sub ∷ Sll ∷ Slt ∷ Sltu ∷ Xor ∷ Srl ∷ Sra ∷ Or ∷ And ∷ Mul ∷ Mulh ∷ Mulhsu ∷ Mulhu ∷ Div ∷ Divu ∷ Rem
      ∷ Remu ∷ []);
  words : Gives (λ op a b. value a b (instr.RegW op 5 6 7)) word_cases
      (Addw ∷ Subw ∷ Sllw ∷ Srlw ∷ Sraw ∷ Mulw ∷ Divw ∷ Divuw ∷ Remw ∷ Remuw ∷ []);
  immediates : Gives (λ op a b. value a 0 (instr.Imm op 5 6 b)) immediate_cases
      (Addi ∷ Slti ∷ Sltiu ∷ Xori ∷ Ori ∷ Andi ∷ []);
  shifts : Gives (λ op a b. value a 0 (instr.Shift op 5 6 b)) shift_cases (shift.Sll ∷ shift.Srl ∷ shift.Sra ∷ []);
  word_shifts : Gives (λ op a b. value a 0 (instr.ShiftW op 5 6 b)) word_shift_cases
      (shift.Sll ∷ shift.Srl ∷ shift.Sra ∷ []);
  addiw : map (λ (c : ℕ × ℕ × ℕ). value c.0 0 (instr.Addiw 5 6 c.1)) word_adds ≡ map (λ (c : ℕ × ℕ × ℕ). c.2) word_adds;
  upper : flat_map (λ n. value 0 0 (instr.Lui 5 n) ∷ value 0 0 (instr.Auipc 5 n) ∷ [])
      (0 ∷ 1 ∷ 0x7ffff ∷ 0x80000 ∷ 0xfffff ∷ [])
      ≡ 0 ∷ 0x1000 ∷ 0x1000 ∷ 0x2000 ∷ 0x7ffff000 ∷ 0x80000000 ∷ 0xffffffff80000000 ∷ 0xffffffff80001000
      ∷ 0xfffffffffffff000 ∷ 0 ∷ [];
  branches : map (λ op. map (λ (c : ℕ × ℕ × ℕ × ℕ). target c.0 c.1 (instr.Branch op 6 7 c.2)) (branch_cases op))
      (Beq ∷ Bne ∷ Blt ∷ Bge ∷ Bltu ∷ Bgeu ∷ [])
      ≡ map (λ op. map (λ (c : ℕ × ℕ × ℕ × ℕ). c.3) (branch_cases op)) (Beq ∷ Bne ∷ Blt ∷ Bge ∷ Bltu ∷ Bgeu ∷ []);
}
unfolding all_opened
operations = record {
  registers = refl;
  words = refl;
  immediates = refl;
  shifts = refl;
  word_shifts = refl;
  addiw = refl;
  upper = refl;
  branches = refl;
}

-- ---- jumps and traps

abbrev pub trap_of : Effect → Option Trap
trap_of (Ok d) = None
trap_of (Err t) = Some t

abbrev pub trap : Cause → ℕ → Option Trap
trap cause address = Some (record { cause = cause; address = address })

-- ---- loads and stores: a page at 0 without W, one at 4096 with W, one at 8192 without U

abbrev three_pages : Memory
three_pages =
    pages_of (record { writable = false; executable = true; user = true; shared = false }) 1
    (0x80 ∷ 0xff ∷ 0x34 ∷ 0x12 ∷ 0x78 ∷ 0x56 ∷ 0x34 ∷ 0x92 ∷ [])
    ++ zero_page (record { writable = true; executable = false; user = true; shared = false })
    ∷ zero_page (record { writable = true; executable = true; user = false; shared = false }) ∷ []

abbrev from_memory : LoadOp → ℕ → Effect
from_memory op at = act (instr.Load op 5 6 0) (two_registers at 0) 0x1000 three_pages

abbrev to_memory : StoreOp → ℕ → ℕ → Effect
to_memory op at b = act (instr.Store op 6 7 0) (two_registers at b) 0x1000 three_pages

abbrev stored_at : Effect → ℕ → ℕ → List ℕ
stored_at (Ok d) at n = slice_range (flat_map (λ (p : Page). p.bytes) (memory_after three_pages d.change)) at (at + n)
stored_at (Err t) at n = []

jumps_and_accesses : record {
  link_and_target : (value 0 0 (instr.Jal 5 0x100) ∷ target 0 0 (instr.Jal 5 0x1ffffc)
      ∷ value 0x2003 0 (instr.Jalr 5 6 0xffd) ∷ target 0x2003 0 (instr.Jalr 5 6 0xffe)
      ∷ target 0x2000 0 (instr.Jalr 6 6 4) ∷ [])
      ≡ 0x1004 ∷ 0xffc ∷ 0x1004 ∷ 0x2000 ∷ 0x2004 ∷ [];
  misaligned : (trap_of (act (instr.Jal 5 2) (two_registers 0 0) 0x1000 [])
      ∷ trap_of (act (instr.Branch Beq 0 0 6) (two_registers 0 0) 0x1000 []) ∷ [])
      ≡ trap InstructionMisaligned 0x1002 ∷ trap InstructionMisaligned 0x1006 ∷ [];
  loaded_values : map register_5
      (from_memory Lb 0 ∷ from_memory Lbu 0 ∷ from_memory Lh 0 ∷ from_memory Lhu 0 ∷ from_memory Lw 4
      ∷ from_memory Lwu 4 ∷ from_memory Ld 0 ∷ from_memory Lb 3 ∷ [])
      ≡ 0xffffffffffffff80 ∷ 0x80 ∷ 0xffffffffffffff80 ∷ 0xff80 ∷ 0xffffffff92345678 ∷ 0x92345678 ∷ 0x923456781234ff80
      ∷ 0x12 ∷ [];
  load_traps : map trap_of
      (from_memory Lh 1 ∷ from_memory Lb 8192 ∷ from_memory Lb 12288 ∷ from_memory Ld 0x4000000000
      ∷ from_memory Lw 4098 ∷ [])
      ≡ trap LoadMisaligned 1 ∷ trap LoadPageFault 8192 ∷ trap LoadPageFault 12288
      ∷ trap LoadPageFault 0x4000000000 ∷ trap LoadMisaligned 4098 ∷ [];
  store_traps : map trap_of
      (to_memory Sb 0 1 ∷ to_memory Sb 8192 1 ∷ to_memory Sw 4097 1 ∷ to_memory Sd 0x3fffffe000 1 ∷ to_memory Sh 4098 1
      ∷ [])
      ≡ trap StorePageFault 0 ∷ trap StorePageFault 8192 ∷ trap StoreMisaligned 4097
      ∷ trap StorePageFault 0x3fffffe000 ∷ None ∷ [];
  stored_bytes : stored_at (to_memory Sw 4100 0x11223344aabbccdd) 4098 8 ≡ 0 ∷ 0 ∷ 0xdd ∷ 0xcc ∷ 0xbb ∷ 0xaa ∷ 0 ∷ 0
      ∷ [];
}
unfolding all_opened
jumps_and_accesses = record {
  link_and_target = refl;
  misaligned = refl;
  loaded_values = refl;
  load_traps = refl;
  store_traps = refl;
  stored_bytes = refl;
}

-- ---- what assembly texts mean, or what is wrong with them, and the texts of words

-- a text of these lines, each ended by LF
abbrev text : List String → List ℕ
text [] = []
text (line ∷ lines) = codes line ++ 0x0a ∷ text lines

-- what is made of bytes, or the line of the first fault and its kind
abbrev Assembles : Type 0
Assembles = Result (List ℕ) (ℕ × AsmKind)

abbrev object_of : String → Assembles
object_of t = object (codes t)

abbrev refused : AsmKind → Assembles
refused kind = Err (1, kind)

abbrev bytes_of : List ℕ → List ℕ
bytes_of [] = []
bytes_of (w ∷ ws) = le 4 w ++ bytes_of ws

abbrev size_or_fault : Assembles → Result ℕ (ℕ × AsmKind)
size_or_fault (Ok bytes) = Ok (length bytes)
size_or_fault (Err fault) = Err fault

-- ---- instructions and data

instructions : record {
  number_11 : object_of "li a7, 11\necall\n" ≡ Ok (bytes_of (0x000008b7 ∷ 0x00b88893 ∷ 0x00000073 ∷ []));
  number_2048 : map object_of ("li a0, 2048" ∷ "li a0, -1" ∷ "li a0, -2147483648" ∷ "li a0, 2147481599" ∷ [])
      ≡ Ok (bytes_of (0x00001537 ∷ 0x80050513 ∷ []))
      ∷ Ok (bytes_of (0x00000537 ∷ 0xfff50513 ∷ []))
      ∷ Ok (bytes_of (0x80000537 ∷ 0x00050513 ∷ []))
      ∷ Ok (bytes_of (0x7ffff537 ∷ 0x7ff50513 ∷ []))
      ∷ [];
  -- the program that writes `hi` and ends
  hi_text : object (text (
      "    addi a0, zero, 1        # standard output"
      ∷ "    addi a1, zero, 32"
      ∷ "\taddi\ta2,x0,3"
      ∷ "    addi a7, zero, 16"
      ∷ "    ecall"
      ∷ ""
      ∷ "    addi a0, zero, 0"
      ∷ "    addi a7, zero, 2"
      ∷ "    ecall"
      ∷ "text: .ascii \"hi\\n\""
      ∷ []))
      ≡ Ok (bytes_of (0x00100513 ∷ 0x02000593 ∷ 0x00300613 ∷ 0x01000893 ∷ 0x00000073 ∷ 0x00000513 ∷ 0x00200893
      ∷ 0x00000073 ∷ []) ++ codes "hi\n");
  one_of_each_form : object (text (
      "sub a0, a1, x31" ∷ "sraw t0, t1, t2" ∷ "sltiu s0, s1, -2048" ∷ "srai a0, a0, 63" ∷ "sraiw ra, ra, 1"
      ∷ "lbu a0, -1(sp)" ∷ "jalr ra, 4(a0)" ∷ "sd ra, 8(sp)" ∷ "beq a0, a1, 8" ∷ "jal ra, -4" ∷ "lui a0, 0xfffff"
      ∷ "auipc a0, 0" ∷ "addiw a0, a0, 0" ∷ "fence" ∷ "ebreak" ∷ "mv a0, a1" ∷ "j 8" ∷ "ret" ∷ []))
      ≡ Ok (bytes_of (0x41f58533 ∷ 0x407352bb ∷ 0x8004b413 ∷ 0x43f55513 ∷ 0x4010d09b ∷ 0xfff14503 ∷ 0x004500e7
      ∷ 0x00113423 ∷ 0x00b50463 ∷ 0xffdff0ef
      ∷ 0xfffff537 ∷ 0x00000517 ∷ 0x0005051b ∷ 0x0ff0000f ∷ 0x00100073 ∷ 0x00058513 ∷ 0x0080006f ∷ 0x00008067 ∷ []));
  -- labels are positions, also of lines before and of what follows
  labels : object_of "start:\n  beq a0, zero, end\n  la a1, word # loads 16\nend: j start\nword: .word 0x01020304\n"
      ≡ Ok (bytes_of (0x00050663 ∷ 0x000005b7 ∷ 0x01058593 ∷ 0xff5ff06f ∷ 0x01020304 ∷ []));
}
unfolding all_opened
instructions = record { number_11 = refl; number_2048 = refl; hi_text = refl; one_of_each_form = refl; labels = refl }

of_data : record {
  numbers : map object_of (".byte 255" ∷ ".byte -128" ∷ ".word -1" ∷ ".dword 18446744073709551615"
      ∷ ".dword -9223372036854775808" ∷ [])
      ≡ Ok (0xff ∷ []) ∷ Ok (0x80 ∷ []) ∷ Ok (replicate 4 0xff) ∷ Ok (replicate 8 0xff)
      ∷ Ok (replicate 7 0 ++ 0x80 ∷ []) ∷ [];
  past_numbers : map object_of
      (".byte 256" ∷ ".byte -129" ∷ ".word 4294967296" ∷ ".dword 18446744073709551616" ∷ ".dword -9223372036854775809"
      ∷ ".byte 0xFF" ∷ [])
      ≡ replicate 5 (refused Range) ++ refused Operand ∷ [];
  strings : map object_of (".ascii \"a, # \\\\\\\"\\0\\n\" # all" ∷ ".ascii \"\"" ∷ ".ascii \"a" ∷ ".ascii \"\\t\""
      ∷ ".ascii a" ∷ ".ascii \"a\" \"b\"" ∷ "j \"" ∷ "j \"x\"" ∷ [])
      ≡ Ok (0x61 ∷ 0x2c ∷ 0x20 ∷ 0x23 ∷ 0x20 ∷ 0x5c ∷ 0x22 ∷ 0 ∷ 0x0a ∷ []) ∷ Ok [] ∷ refused Syntax ∷ refused Syntax
      ∷ refused Operand ∷ refused Operand ∷ refused Syntax ∷ refused Operand ∷ [];
  padded : map object_of (".byte 1\n.pad 4\n.pad 2\necall\n" ∷ ".pad 3" ∷ ".zero -1" ∷ ".zero 3" ∷ [])
      ≡ Ok (1 ∷ 0 ∷ 0 ∷ 0 ∷ 0x73 ∷ 0 ∷ 0 ∷ 0 ∷ []) ∷ refused Range ∷ refused Range ∷ Ok (0 ∷ 0 ∷ 0 ∷ []) ∷ [];
  -- at most 270336 bytes
  longest : map (λ t. size_or_fault (object_of t))
      (".zero 270336" ∷ ".zero 270337" ∷ ".zero 270335\n.byte 0\nend:\n" ∷ ".zero 270336\n.byte 0\n" ∷ [])
      ≡ Ok 270336 ∷ Err (1, Range) ∷ Ok 270336 ∷ Err (2, Range) ∷ [];
}
unfolding all_opened
of_data = record { numbers = refl; past_numbers = refl; strings = refl; padded = refl; longest = refl }

-- ---- faults, the file, and words as text

-- a word of each instruction: its text means it
abbrev back : List ℕ
back =
    0xfffff537 ∷ 0x00000517 ∷ 0xffdff0ef ∷ 0x004500e7 ∷ 0x00b50463 ∷ 0xfeb51ee3 ∷ 0x00b54463 ∷ 0x00b55463 ∷ 0x00b56463
    ∷ 0x00b57463
    ∷ 0xfff10503 ∷ 0xfff11503 ∷ 0xfff12503 ∷ 0xfff13503 ∷ 0xfff14503 ∷ 0xfff15503 ∷ 0xfff16503 ∷ 0x00110423
    ∷ 0x00111423 ∷ 0x00112423
    ∷ 0x00113423 ∷ 0x80050513 ∷ 0x7ff52513 ∷ 0x7ff53513 ∷ 0x7ff54513 ∷ 0x7ff56513 ∷ 0x7ff57513 ∷ 0x03f51513
    ∷ 0x03f55513 ∷ 0x43f55513
    ∷ 0x00c58533 ∷ 0x40c58533 ∷ 0x00c59533 ∷ 0x00c5a533 ∷ 0x00c5b533 ∷ 0x00c5c533 ∷ 0x00c5d533 ∷ 0x40c5d533
    ∷ 0x00c5e533 ∷ 0x00c5f533
    ∷ 0x8005051b ∷ 0x01f5151b ∷ 0x01f5551b ∷ 0x41f5551b ∷ 0x00c5853b ∷ 0x40c5853b ∷ 0x00c5953b ∷ 0x00c5d53b
    ∷ 0x40c5d53b ∷ 0x0ff0000f
    ∷ 0x00000073 ∷ 0x00100073 ∷ []

faults_and_texts : record {
  -- the lowest line, and in it the lowest kind
  kinds : map object_of (
      "li a0, 2147481600" ∷ "foo" ∷ "j x" ∷ "_x" ∷ "add a0, a1" ∷ "add a0, a1, 5"
      ∷ "beq a0, a1, 4095" ∷ "beq a0, a1, 4096" ∷ "jal ra, -3" ∷ "slli a0, a0, 64" ∷ "slliw a0, a0, 32" ∷ [])
      ++ object (codes "# " ++ 0xc3 ∷ 0xa9 ∷ []) ∷ []
      ≡ map refused (Range ∷ Mnemonic ∷ Label ∷ Syntax ∷ Operand ∷ Operand ∷ Align ∷ Range ∷ Align ∷ Range ∷ Range
      ∷ Syntax ∷ []);
  -- an instruction after one byte; a label twice, of which the first counts; a label whose line can't be read is
  -- defined
  lines : map object_of (".byte 1\necall\n" ∷ "j x\nx: ecall\nx: ebreak\n" ∷ "j x\nx: foo\n" ∷ "x:\nx: foo\nbar\n"
      ∷ "x:\n.byte 1\nx: ecall\n" ∷ "a: b: ret\n" ∷ "a :\n" ∷ [])
      ≡ Err (2, Align) ∷ Err (3, Twice) ∷ Err (2, Mnemonic) ∷ Err (2, Mnemonic) ∷ Err (3, Twice) ∷ refused Mnemonic
      ∷ refused Mnemonic ∷ [];
  nothing : map object_of ("" ∷ "# all" ∷ " \t# x" ∷ "a:b:#c" ∷ []) ≡ Ok [] ∷ Ok [] ∷ Ok [] ∷ refused Mnemonic ∷ [];
  file : assembled (codes "li a7, 11\necall\n") ≡ Ok (elf_file (bytes_of (0x000008b7 ∷ 0x00b88893 ∷ 0x00000073 ∷ [])));
  texts : map word_text (0x000008b7 ∷ 0x00b88893 ∷ 0x00000073 ∷ 0x4010d09b ∷ 0x0ff0000f ∷ 0x0000000f ∷ 0x4210d09b ∷ 0
      ∷ [])
      ≡ map codes ("lui a7, 0x0" ∷ "addi a7, a7, 11" ∷ "ecall" ∷ "sraiw ra, ra, 1" ∷ "fence" ∷ ".word 0x0000000f"
      ∷ ".word 0x4210d09b" ∷ ".word 0x00000000" ∷ []);
  there_and_back : map (λ w. object (word_text w)) back ≡ map (λ w. Ok (bytes_of (w ∷ []))) back;
}
unfolding all_opened
faults_and_texts = record
    { kinds = refl; lines = refl; nothing = refl; file = refl; texts = refl; there_and_back = refl }

-- ---- words that are instructions, words that are not, and their texts

abbrev all_words : List ℕ
all_words = 0x02b50533 ∷ 0x02b51533 ∷ 0x02b52533 ∷ 0x02b53533 ∷ 0x02b54533 ∷ 0x02b55533 ∷ 0x02b56533
    ∷ 0x02b57533 ∷ 0x02b5053b ∷ 0x02b5453b ∷ 0x02b5553b ∷ 0x02b5653b ∷ 0x02b5753b ∷ []

abbrev all_texts : List String
all_texts = "mul a0, a0, a1" ∷ "mulh a0, a0, a1" ∷ "mulhsu a0, a0, a1" ∷ "mulhu a0, a0, a1" ∷ "div a0, a0, a1"
    ∷ "divu a0, a0, a1" ∷ "rem a0, a0, a1" ∷ "remu a0, a0, a1" ∷ "mulw a0, a0, a1" ∷ "divw a0, a0, a1"
    ∷ "divuw a0, a0, a1" ∷ "remw a0, a0, a1" ∷ "remuw a0, a0, a1" ∷ []

words_and_texts : record {
  -- sraiw, fence, addi, lui, mul, div and remw
  words : map instruction_of
      (0x4010d09b ∷ 0x0ff0000f ∷ 0x00100513 ∷ 0x000008b7 ∷ 0x02b50533 ∷ 0x02b54533 ∷ 0x02b5653b ∷ [])
      ≡ map Some (
      instr.ShiftW shift.Sra 1 1 1 ∷ instr.Fence 0 0 0xff ∷ instr.Imm Addi 10 0 1 ∷ instr.Lui 17 0
      ∷ instr.Reg Mul 10 10 11 ∷ instr.Reg Div 10 10 11 ∷ instr.RegW Remw 10 10 11 ∷ []);
  -- sraiw with bit 25, fence.i, zeros and ones; words that have no operation at opcode 0111011, and other numbers
  -- funct7
  no_words : map instruction_of
      (0x4210d09b ∷ 0x0000100f ∷ 0 ∷ 0xffffffff ∷ 0x02b5153b ∷ 0x02b5253b ∷ 0x02b5353b ∷ 0x04b50533 ∷ 0x06b5453b ∷ [])
      ≡ replicate 9 None;
  shown : map word_text all_words ≡ map codes all_texts;
  assembled_all : object (text all_texts) ≡ Ok (bytes_of all_words);
}
unfolding all_opened
words_and_texts = record { words = refl; no_words = refl; shown = refl; assembled_all = refl }
