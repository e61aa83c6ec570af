-- The trap frame of a space, which has room for a program's registers.
-- Numbers of 8 bytes, the lowest first: the pc at offset 24, and register x1 to x31, each at 32 and 8 times its number.
use Rattle.std.specs.Prelude.{◌≡◌, ◌<◌, ◌≤◌, ◌⊎◌, ℕ, ◌+◌, ◌*◌, List, ◌∷◌, map, slice_index_or}
use Rattle.std.specs.List.{range_with_len}
use Rattle.ram.specs.Memory.{word_of}
use Rattle.vm.specs.declared.Space.{Space}
use Rattle.vm.specs.Space.{registers_of}

abbrev pub saved_pc : List (List ℕ) → Space → ℕ
saved_pc m s = word_of m s.trap.0 24 8

abbrev pub saved_register : List (List ℕ) → Space → ℕ → ℕ
saved_register m s i = word_of m s.trap.0 (32 + 8 * i) 8

-- all registers: x0 is 0, and isn't stored
unfoldable pub saved_registers : List (List ℕ) → Space → List ℕ
saved_registers m s = 0 ∷ map (saved_register m s) (range_with_len 1 31)

-- an offset in the trap frame that has no part of a register or the program counter
abbrev pub IsSpare : ℕ → Type 0
IsSpare at = (at < 24) ⊎ ((32 ≤ at) × (at < 40) ⊎ (288 ≤ at))

-- these bytes of the trap frame are as they were
abbrev pub KeepsSpare : List (List ℕ) → List (List ℕ) → Space → Type 0
KeepsSpare m k s = (at : ℕ)
    → IsSpare at → slice_index_or (registers_of k s) at 0 ≡ slice_index_or (registers_of m s) at 0
