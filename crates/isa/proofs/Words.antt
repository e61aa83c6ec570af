-- What spells a word is listed among its possible instructions, and the eight hexadecimal digits of a word.
use Rattle.std.proofs.Common.{◌%◌, ◌*◌, ◌+◌, ◌++◌, ◌-◌, ◌/◌, ◌<◌, ◌≤◌, ◌==◌, [], ◌^◌, ap, append-nil, arith, Bool, cond}
use Rattle.std.proofs.Common.{Contains, false, find, IfSome, length, List, lit<, None, Option, refl, replicate}
use Rattle.std.proofs.Common.{slice_index_or, Some, suc, sym, true, zero, ℕ, ◌∙◌, ◌∷◌, ◌≡◌}
use Rattle.std.proofs.Math.Nat.{div-div-eq-div-mul, div-one}
use Rattle.std.proofs.lemmas.Bool.{eqb-true, eq-eqb}
use Rattle.std.proofs.lemmas.Bool.Decides.{nat_tests}
use Rattle.std.proofs.lemmas.Grind.{pow_more}
use Rattle.std.proofs.lemmas.Option.{none-some}
use Rattle.std.specs.Fmt.{char_count, digit_glyph, digits, digits_onto, format_spec, padded_integral}
use Rattle.std.specs.List.{AllByRecursion, position_or_len}
use Rattle.unixmodel.specs.Disassembly.{eight_digits}
use Rattle.unixmodel.specs.Spell.{branch_funct3, Fits, imm_funct3, load_funct3, part, reg_funct3, reg_funct7}
use Rattle.unixmodel.specs.Spell.{reg_w_funct3, reg_w_funct7, shift_funct3, shift_funct7, spell, store_funct3}
use Rattle.unixmodel.specs.Words.{branch_offset, instruction_of, jump_offset, possible}
use Rattle.unixmodel.specs.declared.instr.BranchOp.{BranchOp}
use Rattle.unixmodel.specs.declared.instr.ImmOp.{ImmOp}
use Rattle.unixmodel.specs.declared.instr.Instr.{Instr}
use Rattle.unixmodel.specs.declared.instr.LoadOp.{LoadOp}
use Rattle.unixmodel.specs.declared.instr.RegOp.{RegOp}
use Rattle.unixmodel.specs.declared.instr.RegOpW.{RegOpW}
use Rattle.unixmodel.specs.declared.instr.ShiftOp.{ShiftOp}
use Rattle.unixmodel.specs.declared.instr.StoreOp.{StoreOp}
use Rattle.unixmodel.specs.declared.instr.Instr.TheVariants as instr

-- ---- the numbers of operations are those of their fields

branch_fits : (op : BranchOp) → branch_funct3 op < 8
branch_fits BranchOp.Beq = lit< tt
branch_fits _ = lit< tt

load_fits : (op : LoadOp) → load_funct3 op < 8
load_fits LoadOp.Lb = lit< tt
load_fits _ = lit< tt

store_fits : (op : StoreOp) → store_funct3 op < 8
store_fits StoreOp.Sb = lit< tt
store_fits _ = lit< tt

imm_fits : (op : ImmOp) → imm_funct3 op < 8
imm_fits ImmOp.Addi = lit< tt
imm_fits _ = lit< tt

shift_fits : (op : ShiftOp)
    → (shift_funct3 op < 8) × (shift_funct7 op ≡ 2 * (shift_funct7 op / 2)) × (shift_funct7 op < 128)
shift_fits ShiftOp.Sll = (lit< tt, refl, lit< tt)
shift_fits _ = (lit< tt, refl, lit< tt)

reg_fits : (op : RegOp) → (reg_funct3 op < 8) × (reg_funct7 op < 128)
reg_fits RegOp.Add = (lit< tt, lit< tt)
reg_fits _ = (lit< tt, lit< tt)

reg_w_fits : (op : RegOpW) → (reg_w_funct3 op < 8) × (reg_w_funct7 op < 128)
reg_w_fits RegOpW.Addw = (lit< tt, lit< tt)
reg_w_fits _ = (lit< tt, lit< tt)

-- the index of an operation among the possible instructions, by the word that spells it
abbrev place : (ℕ → ℕ → ℕ → Instr) → ℕ
place make = position_or_len (λ i. spell i == spell (make 0 0 0)) (possible 0)

-- a value n times, before what follows
abbrev Times : ℕ → Type 0 → Type 0 → Type 0
Times zero A B = B
Times (suc n) A B = A × Times n A B

times : {A B : Type 0} (n : ℕ) → A → B → Times n A B
times zero a b = b
times (suc n) a b = (a, times n a b)

module _ (w : ℕ) where
  abbrev rd : ℕ
  rd = part w 7 5

  abbrev rs1 : ℕ
  rs1 = part w 15 5

  abbrev rs2 : ℕ
  rs2 = part w 20 5

  abbrev imm : ℕ
  imm = part w 20 12

  abbrev stored : ℕ
  stored = part w 25 7 * 2 ^ 5 + rd

  abbrev Has : Instr → Type 0
  Has = Contains (possible w)

  -- each possible instruction is listed
  listed_branch : (op : BranchOp) → Has (instr.Branch op rs1 rs2 (branch_offset w))
  listed_branch BranchOp.Beq = (place (instr.Branch BranchOp.Beq), lit< tt, refl)
  listed_branch op = (place (instr.Branch op), lit< tt, refl)

  listed_load : (op : LoadOp) → Has (instr.Load op rd rs1 imm)
  listed_load LoadOp.Lb = (place (instr.Load LoadOp.Lb), lit< tt, refl)
  listed_load op = (place (instr.Load op), lit< tt, refl)

  listed_store : (op : StoreOp) → Has (instr.Store op rs1 rs2 stored)
  listed_store StoreOp.Sb = (place (instr.Store StoreOp.Sb), lit< tt, refl)
  listed_store op = (place (instr.Store op), lit< tt, refl)

  listed_imm : (op : ImmOp) → Has (instr.Imm op rd rs1 imm)
  listed_imm ImmOp.Addi = (place (instr.Imm ImmOp.Addi), lit< tt, refl)
  listed_imm op = (place (instr.Imm op), lit< tt, refl)

  listed_shift : (op : ShiftOp) → Has (instr.Shift op rd rs1 (part w 20 6))
  listed_shift ShiftOp.Sll = (place (instr.Shift ShiftOp.Sll), lit< tt, refl)
  listed_shift op = (place (instr.Shift op), lit< tt, refl)

  listed_reg : (op : RegOp) → Has (instr.Reg op rd rs1 rs2)
  listed_reg RegOp.Add = (place (instr.Reg RegOp.Add), lit< tt, refl)
  listed_reg op = (place (instr.Reg op), lit< tt, refl)

  listed_shift_w : (op : ShiftOp) → Has (instr.ShiftW op rd rs1 rs2)
  listed_shift_w ShiftOp.Sll = (place (instr.ShiftW ShiftOp.Sll), lit< tt, refl)
  listed_shift_w op = (place (instr.ShiftW op), lit< tt, refl)

  listed_reg_w : (op : RegOpW) → Has (instr.RegW op rd rs1 rs2)
  listed_reg_w RegOpW.Addw = (place (instr.RegW RegOpW.Addw), lit< tt, refl)
  listed_reg_w op = (place (instr.RegW op), lit< tt, refl)

  -- and fits
  all_fit : AllByRecursion Fits (possible w)
  all_fit =
      let upper : (rd < 32) × (part w 12 20 < 2 ^ 20) = (omega arith, omega arith) in
      let jump : (rd < 32) × (jump_offset w < 2 ^ 21) × (jump_offset w % 2 ≡ 0) =
      (omega arith, omega arith, omega arith) in
      let immediate : (rd < 32) × (rs1 < 32) × (imm < 2 ^ 12) = (omega arith, omega arith, omega arith) in
      let registers : (rd < 32) × (rs1 < 32) × (rs2 < 32) = (omega arith, omega arith, omega arith) in
      let branch : (rs1 < 32) × (rs2 < 32) × (branch_offset w < 2 ^ 13) × (branch_offset w % 2 ≡ 0) =
      (omega arith, omega arith, omega arith, omega arith) in
      let store : (rs1 < 32) × (rs2 < 32) × (stored < 2 ^ 12) = (omega arith, omega arith, omega arith) in
      let shift : (rd < 32) × (rs1 < 32) × (part w 20 6 < 64) = (omega arith, omega arith, omega arith) in (
        upper,
        (
          upper,
          (
            jump,
            times 3 immediate (
              tt,
              (
                tt,
                times 6 branch
                    (times 7 immediate (times 4 store (times 6 immediate (times 3 shift (times 31 registers tt))))),
              ),
            ),
          ),
        ),
      )

  -- an instruction that is listed with the parts of a word is listed with what equals them
  two : (make : ℕ → ℕ → Instr) {a b x y : ℕ} → Has (make a b) → a ≡ x → b ≡ y → Has (make x y)
  two make at d e = rw (← d, ← e) at

  three : (make : ℕ → ℕ → ℕ → Instr) {a b c x y z : ℕ} → Has (make a b c) → a ≡ x → b ≡ y → c ≡ z → Has (make x y z)
  three make at d e f = rw (← d, ← e, ← f) at

  is_listed : (i : Instr) → Fits i → spell i ≡ w → Has i
  is_listed (instr.Lui a b) fits e =
      two instr.Lui {a = rd} {b = part w 12 20} (0, lit< tt, refl) (omega arith) (omega arith)
  is_listed (instr.Auipc a b) fits e =
      two instr.Auipc {a = rd} {b = part w 12 20} (1, lit< tt, refl) (omega arith) (omega arith)
  is_listed (instr.Jal a b) fits e =
      two instr.Jal {a = rd} {b = jump_offset w} (2, lit< tt, refl) (omega arith) (omega arith)
  is_listed (instr.Jalr a b c) fits e =
      three instr.Jalr {a = rd} {b = rs1} {c = imm} (3, lit< tt, refl) (omega arith) (omega arith) (omega arith)
  is_listed (instr.Addiw a b c) fits e =
      three instr.Addiw {a = rd} {b = rs1} {c = imm} (4, lit< tt, refl) (omega arith) (omega arith) (omega arith)
  is_listed (instr.Fence a b c) fits e =
      three instr.Fence {a = rd} {b = rs1} {c = imm} (5, lit< tt, refl) (omega arith) (omega arith) (omega arith)
  is_listed instr.Ecall fits e = (6, lit< tt, refl)
  is_listed instr.Ebreak fits e = (7, lit< tt, refl)
  is_listed (instr.Branch op a b c) fits e = let op-fits =
      branch_fits op in three (instr.Branch op) (listed_branch op) (omega arith) (omega arith) (omega arith)
  is_listed (instr.Load op a b c) fits e = let op-fits =
      load_fits op in three (instr.Load op) (listed_load op) (omega arith) (omega arith) (omega arith)
  is_listed (instr.Store op a b c) fits e = let op-fits =
      store_fits op in three (instr.Store op) (listed_store op) (omega arith) (omega arith) (omega arith)
  is_listed (instr.Imm op a b c) fits e = let op-fits =
      imm_fits op in three (instr.Imm op) (listed_imm op) (omega arith) (omega arith) (omega arith)
  is_listed (instr.Shift op a b c) fits e = let op-fits =
      shift_fits op in three (instr.Shift op) (listed_shift op) (omega arith) (omega arith) (omega arith)
  is_listed (instr.Reg op a b c) fits e = let op-fits =
      reg_fits op in three (instr.Reg op) (listed_reg op) (omega arith) (omega arith) (omega arith)
  is_listed (instr.ShiftW op a b c) fits e = let op-fits =
      shift_fits op in three (instr.ShiftW op) (listed_shift_w op) (omega arith) (omega arith) (omega arith)
  is_listed (instr.RegW op a b c) fits e = let op-fits =
      reg_w_fits op in three (instr.RegW op) (listed_reg_w op) (omega arith) (omega arith) (omega arith)

-- the first that passes fits, where all do
first_fits : (p : Instr → Bool) (xs : List Instr) → AllByRecursion Fits xs
    → IfSome (find p xs) (λ j. (p j ≡ true) × Fits j)
first_fits p [] fits = tt
first_fits p (x ∷ xs) fits =
    elim (p x) as (λ b. p x ≡ b → IfSome (cond b (Some x) (find p xs)) (λ j. (p j ≡ true) × Fits j))
    [ true ↦ λ is. (is, fits.0) | false ↦ λ is. first_fits p xs fits.1 ] refl

none_later : (b : Bool) (x : Instr) (later : Option Instr) → cond b (Some x) later ≡ None → later ≡ None
none_later true x later e = absurd (none-some x (sym e))
none_later false x later e = e

-- one that passes isn't missed
not_missed : (p : Instr → Bool) (xs : List Instr) (k : ℕ) (i : Instr) → k < length xs → slice_index_or xs k i ≡ i
    → p i ≡ true → find p xs ≡ None → ⊥
not_missed p [] k i l e t none = absurd (omega (arith, l))
not_missed p (x ∷ xs) zero i l e t none = none-some x (sym (rw (ap p e ∙ t) at none))
not_missed p (x ∷ xs) (suc n) i l e t none =
    not_missed p xs n i (omega (arith, l)) e t (none_later (p x) x (find p xs) none)

-- a result by the two clauses of a decoder is what is found
agrees_with : (w : ℕ) (r o : Option Instr) → find (λ j. spell j == w) (possible w) ≡ o
    → IfSome o (λ j. ((spell j == w) ≡ true) × Fits j) → IfSome r (λ i. Fits i × (spell i ≡ w))
    → ((i : Instr) → Fits i → spell i ≡ w → r ≡ Some i) → r ≡ o
agrees_with w r (Some j) e is found only = only j is.1 (eqb-true (spell j) w is.0)
agrees_with w None None e is found only = refl
agrees_with w (Some i) None e is found only =
    let at = is_listed w i found.0 found.1 in
    absurd (not_missed (λ j. spell j == w) (possible w) at.0 i at.1 at.2 (eq-eqb (spell i) w found.1) e)

pub agrees : (w : ℕ) (r : Option Instr) → IfSome r (λ i. Fits i × (spell i ≡ w))
    → ((i : Instr) → Fits i → spell i ≡ w → r ≡ Some i) → r ≡ instruction_of w
unfolding instruction_of
agrees w r found only = agrees_with w r (find (λ j. spell j == w) (possible w)) refl
    (first_fits (λ j. spell j == w) (possible w) (all_fit w)) found only

-- ---- hexadecimal digits, as many as are asked for

-- the k lowest digits of n, before what follows
abbrev lowest : ℕ → ℕ → List ℕ → List ℕ
lowest zero n behind = behind
lowest (suc k) n behind = lowest k (n / 16) (digit_glyph false (n % 16) ∷ behind)

zero_between : (k : ℕ) (behind : List ℕ) → replicate k 48 ++ 48 ∷ behind ≡ 48 ∷ (replicate k 48 ++ behind)
zero_between zero behind = refl
zero_between (suc k) behind = ap (λ xs. 48 ∷ xs) (zero_between k behind)

lowest_zero : (k : ℕ) (behind : List ℕ) → lowest k 0 behind ≡ replicate k 48 ++ behind
lowest_zero zero behind = refl
lowest_zero (suc k) behind = lowest_zero k (48 ∷ behind) ∙ zero_between k behind

abbrev with_zeros : ℕ → List ℕ → List ℕ
with_zeros k text = replicate (k - length text) 48 ++ text

last_digit : (k n : ℕ) (behind : List ℕ) → n / 16 ≡ 0
    → with_zeros (suc k + length behind) (digit_glyph false (n % 16) ∷ behind) ≡ lowest (suc k) n behind
last_digit k n behind none =
    let here : suc k + length behind - suc (length behind) ≡ k = omega arith in
    let text = digit_glyph false (n % 16) ∷ behind in
    rw (none, here) (sym (lowest_zero k text))

either_way : (P : List ℕ → Type 0) (b : Bool) (stop more : List ℕ) → (b ≡ true → P stop) → (b ≡ false → P more)
    → P (cond b stop more)
either_way P true stop more here there = here refl
either_way P false stop more here there = there refl

-- zeros before the digits of n, up to k of them and one more
zeros_before : (k j n : ℕ) (behind : List ℕ) → n < 16 ^ suc k → k ≤ j
    → with_zeros (suc k + length behind) (digits_onto (suc j) 16 false n behind) ≡ lowest (suc k) n behind
zeros_before zero j n behind small room =
    let none : n / 16 ≡ 0 = omega arith in
    either_way (λ text. with_zeros (suc zero + length behind) text ≡ lowest (suc zero) n behind) (n / 16 == 0) _ _
    (λ is. last_digit zero n behind none)
    (λ is. absurd (grind (arith, nat_tests)))
zeros_before (suc k) zero n behind small room = absurd (omega arith)
zeros_before (suc k) (suc j) n behind small room =
    let next : suc (suc k) ≡ suc k + 1 = omega arith in
    let more : 16 ^ suc (suc k) ≡ 16 ^ suc k * 16 = ap (λ j. 16 ^ j) next ∙ pow_more 16 (suc k) in
    let below : n / 16 < 16 ^ suc k = omega arith in
    let e : suc (suc k) + length behind ≡ suc k + suc (length behind) = omega arith in
    either_way (λ text. with_zeros (suc (suc k) + length behind) text ≡ lowest (suc (suc k)) n behind) (n / 16 == 0) _ _
    (λ is. last_digit (suc k) n behind (grind (arith, nat_tests)))
    (λ is. rw e (zeros_before k j (n / 16) (digit_glyph false (n % 16) ∷ behind) below (omega arith)))

-- digits of digits
eight_lowest : (n : ℕ) → lowest 8 n [] ≡ eight_digits n
eight_lowest n = simp (div-div-eq-div-mul, div-one)

zeros_in : (j n : ℕ) (text : List ℕ) → 7 ≤ j → n < 16 ^ 8 → digits_onto (suc j) 16 false n [] ≡ text
    → with_zeros 8 text ≡ lowest 8 n []
zeros_in j n text room small is = rw (← is) (zeros_before 7 j n [] small room)

all_digits : (n : ℕ) → digits_onto 64 16 false n [] ≡ digits 16 false n
unfolding digits
all_digits n = refl

-- padding up to eight with zeros
pad_eight : (text : List ℕ) → padded_integral (format_spec 32 0 4 8 (2 ^ 64 - 1)) false [] text ≡ with_zeros 8 text
unfolding padded_integral char_count
pad_eight text =
    let e : 8 - length text - 0 - 0 ≡ 8 - length text = omega arith in
    simp (append-nil, e)

-- a word of 32 bits has eight of them
pub eight : (n : ℕ) → n < 2 ^ 32
    → padded_integral (format_spec 32 0 4 8 (2 ^ 64 - 1)) false [] (digits 16 false n) ≡ eight_digits n
eight n small = pad_eight (digits 16 false n) ∙ zeros_in 63 n (digits 16 false n) (omega arith) small (all_digits n)
    ∙ eight_lowest n
