-- The lines of a log of commits, in the form in which Spike writes them.
use Rattle.std.specs.Prelude.{Bool, List, [], codes, decimal, drop, if◌then◌else◌, length, nat_lt, slice_index, suc}
use Rattle.std.specs.Prelude.{zero, ℕ, ◌%◌, ◌*◌, ◌++◌, ◌+◌, ◌/◌, ◌==◌, ◌^◌, ◌||◌, ◌∷◌}
use Rattle.tracetext.specs.declared.commit_lines.Act.{Act}
use Rattle.tracetext.specs.declared.commit_lines.Act.TheVariants.{Load, Nothing, Register, Store}
use Rattle.unixmodel.specs.Numbers.{extend, plus}
use Rattle.unixmodel.specs.Spell.{part}

-- ---- numbers

-- the digit of a number below 16
abbrev pub digit_of : ℕ → ℕ
digit_of n = slice_index (codes "0123456789abcdef") n

-- the k lowest numbers below 16 of which a number is made, the highest first
unfoldable pub low_halves : ℕ → ℕ → List ℕ
low_halves zero n = []
low_halves (suc k) n = (n / 16 ^ k % 16) ∷ low_halves k n

-- the k lowest hexadecimal digits of a number, the highest first
unfoldable pub low_digits : ℕ → ℕ → List ℕ
low_digits zero n = []
low_digits (suc k) n = slice_index (codes "0123456789abcdef") (n / 16 ^ k % 16) ∷ low_digits k n

-- an address or the value of a register
abbrev pub wide : ℕ → List ℕ
wide n = codes "0x" ++ low_digits 16 n

-- a text at the right of four columns
abbrev pub at_right : List ℕ → List ℕ
at_right text = drop (length text) (codes "    ") ++ text

-- a number below 100 at the left of two columns
abbrev pub at_left : ℕ → List ℕ
at_left n = if nat_lt n 10 then (48 + n) ∷ 32 ∷ [] else (48 + n / 10) ∷ (48 + n % 10) ∷ []

-- ---- what an instruction does

-- how far from a register a load and a store go
abbrev pub load_distance : ℕ → ℕ
load_distance word = extend 12 (part word 20 12)

abbrev pub store_distance : ℕ → ℕ
store_distance word = extend 12 (part word 25 7 * 2 ^ 5 + part word 7 5)

-- branches, fences and calls write no register
abbrev pub is_silent : ℕ → Bool
is_silent opcode = opcode == 0x63 || (opcode == 0x0f || opcode == 0x73)

abbrev pub act_by : ℕ → ℕ → ℕ → ℕ → Act
act_by opcode word base stored = if opcode == 0x03 then Load (plus base (load_distance word))
    else (if opcode == 0x23 then Store (plus base (store_distance word)) stored
    else (if is_silent opcode then Nothing else Register))

-- what a word does, by the registers before it
abbrev pub act_of : ℕ → List ℕ → Act
act_of word registers =
    act_by (part word 0 7) word (slice_index registers (part word 15 5)) (slice_index registers (part word 20 5))

-- ---- the line

-- the register that is written, and its value; x0 never is
abbrev pub written : ℕ → ℕ → List ℕ
written number value = if number == 0 then [] else codes " x" ++ at_left number ++ codes " " ++ wide value

-- where memory is read or written
abbrev pub touched : ℕ → List ℕ
touched address = codes " mem " ++ wide address

-- the bytes that are stored, the greatest one first
abbrev pub stored_text : ℕ → ℕ → List ℕ
stored_text word value = codes " 0x" ++ low_digits (2 * 2 ^ part word 12 2) value

-- what an instruction changes, where this is what the register that it names as written has after it
abbrev pub change : ℕ → ℕ → Act → List ℕ
change word value Nothing = []
change word value Register = written (part word 7 5) value
change word value (Load address) = written (part word 7 5) value ++ touched address
change word value (Store address stored) = touched address ++ stored_text word stored

abbrev pub instruction_at : ℕ → ℕ → ℕ → List ℕ
instruction_at core pc word = codes "core" ++ at_right (decimal core) ++ codes ": 0 " ++ wide pc ++ codes " (0x"
    ++ low_digits 8 word ++ codes ")"

abbrev pub commit_line : ℕ → ℕ → ℕ → Act → ℕ → List ℕ
commit_line core pc word act value = instruction_at core pc word ++ change word value act ++ codes "\n"
