-- What a line puts out, and what a text becomes.
use Rattle.std.specs.Prelude.{◌≡◌, ◌⊎◌, ◌++◌, ◌∷◌, ◌*◌, ◌-◌, ◌^◌, Err, List, Ok, Result, [], if◌then◌else◌, ℕ, ℤ}
use Rattle.unixmodel.specs.Memory.{zeros}
use Rattle.unixmodel.specs.Assembly as the
use Rattle.unixmodel.specs.Numbers.{field, le, lies_in}
use Rattle.unixmodel.specs.declared.assembly.AsmKind.{AsmKind}
use Rattle.unixmodel.specs.declared.assembly.AsmKind.TheVariants as kind
use Rattle.asmtext.specs.Operations.{above_of, below_of, bits_of, partial_instr}
use Rattle.asmtext.specs.declared.operations.Partial.{Partial}
use Rattle.asm.specs.declared.fault.AsmFault.{AsmFault}
use Rattle.asm.specs.declared.emit.Output.{Output}
use Rattle.asm.specs.declared.emit.Output.TheVariants as output

abbrev pub bytes_of : Output → List ℕ
bytes_of output.Nothing = []
bytes_of (output.Byte b) = le 1 b
bytes_of (output.Word w) = le 4 w
bytes_of (output.Words first second) = le 4 first ++ le 4 second
bytes_of (output.DoubleWord n) = le 8 n
bytes_of (output.Bytes bytes) = bytes.now
bytes_of (output.Zeros n) = zeros n

abbrev pub coded_seen : Result Output AsmKind → Result (List ℕ) AsmKind
coded_seen (Ok o) = Ok (bytes_of o)
coded_seen (Err k) = Err k

-- the fault is the text's, or memory ran out
abbrev pub Tells : Result (List ℕ) (ℕ × AsmKind) → AsmFault → Type 0
Tells told fault = (told ≡ Err (fault.line, fault.kind)) ⊎ ((fault.line ≡ 0) × (fault.kind ≡ kind.NoMemory))

-- the bytes before those of a result, if it has any
abbrev pub behind : List ℕ → Result (List ℕ) (ℕ × AsmKind) → Result (List ℕ) (ℕ × AsmKind)
behind bytes (Ok more) = Ok (bytes ++ more)
behind bytes (Err fault) = Err fault

-- the bytes of an instruction with a number, where it is in its range
abbrev pub numbered_bytes : ℕ → Partial → ℤ → Result (List ℕ) AsmKind
numbered_bytes address partial n =
    if lies_in (below_of partial) (above_of partial) n
    then the.code address (partial_instr partial (field (bits_of partial) n) ∷ []) else Err kind.Range

-- a number as `size` bytes, signed or unsigned
abbrev pub data_bytes : ℕ → ℤ → Result (List ℕ) AsmKind
data_bytes size n = if lies_in (2 ^ (8 * size - 1)) (2 ^ (8 * size) - 1) n then Ok (le size (field (8 * size) n))
    else Err kind.Range
