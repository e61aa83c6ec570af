-- What lines put out.
use Rattle.asm.proofs.Common.{◌≡◌, ◌∙◌, ◌+◌, ◌-◌, ◌++◌, ◌∷◌, ℕ, Bool, Err, List, None, Ok, OnOk, Option, Result, Some}
use Rattle.asm.proofs.Common.{[], ap, arith, false, if◌then◌else◌, is_ok, length, option_map, refl, replicate, take}
use Rattle.asm.proofs.Common.{true, take_all, AllocError, zeros, AsmKind}
use Rattle.unixmodel.specs.Assembly as the
use Rattle.unixmodel.specs.declared.assembly.AsmKind.TheVariants as kind
use Rattle.unixmodel.specs.declared.instr.Instr.{Instr}

abbrev code_with : ℕ → Option Instr → Result (List ℕ) AsmKind
code_with address None = Err kind.Range
code_with address (Some i) = the.code address (i ∷ [])

-- an instruction whose number is in range
pub code_in_range : (address : ℕ) (instr : Instr) (f : ℕ → Instr) (b : Bool) (x : ℕ)
    → Some instr ≡ option_map f (if b then Some x else None)
    → the.code address (instr ∷ []) ≡ (if b then the.code address (f x ∷ []) else Err kind.Range)
code_in_range address instr f true x e = ap (code_with address) e
code_in_range address instr f false x e = ap (code_with address) e

-- zeros at the end
pub with_zeros : (r : Result Unit AllocError) (new old : List ℕ) (count len : ℕ) → len ≡ length old
    → new ≡ (if is_ok r then take (len + count) old ++ replicate (len + count - len) 0 else old)
    → OnOk r (new ≡ old ++ zeros count)
unfolding zeros
with_zeros (Ok x) new old count len is e =
    let rest : len + count - len ≡ count = omega arith in
    let whole : take (len + count) old ≡ old = take_all (len + count) old (omega (arith, is)) in
    e ∙ rw (rest, whole) refl
with_zeros (Err x) new old count len is e = tt
