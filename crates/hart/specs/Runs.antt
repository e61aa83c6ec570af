-- The hart's instructions, one after the other, on the memory that a mapping shows.
use Rattle.std.specs.Prelude.{ℕ, ◌≡◌, ◌<◌, ◌+◌, Err, IfSome, List, Ok, Option, length, suc, zero}
use Rattle.unixmodel.specs.declared.trap.Trap.{Trap}
use Rattle.unixmodel.specs.Cycle.{cycle}
use Rattle.unixmodel.specs.Meaning.{Computed}
use Rattle.unixmodel.specs.Memory.{bytes_at}
use Rattle.unixmodel.specs.Numbers.{number}
use Rattle.unixmodel.specs.Translation.{Held, HoldsInside}
use Rattle.sv39.specs.Mapping.{IsCoherent, Mapped, WalksTo, memory_of}
use Rattle.hart.specs.Answered.{given}
use Rattle.hart.specs.Changes.{IsSound, WritesOnly, changed}
use Rattle.hart.specs.Stops.{IsPast}
use Rattle.hart.specs.declared.act.Next.{Next}
use Rattle.hart.specs.declared.act.Next.TheVariants.{At, Behind, Stop, Stored, Within}
use Rattle.hart.specs.declared.state.Hart.{Hart}

-- where a program is
pub record Point : Type 0 where
  pub registers : List ℕ
  pub pc : ℕ
  pub ram : List (List ℕ)

-- the instruction there is done
pub record DoesOne (mapping : List Mapped) (old new : Point) : Type 0 where
  pub done : Computed
  pub means : cycle old.registers old.pc (memory_of old.ram mapping) ≡ Ok done
  pub leaves : new ≡ record { registers = done.regs; pc = done.pc; ram = changed old.ram mapping done.change }
  pub writes : WritesOnly old.ram mapping new.ram

-- n instructions are done, one after the other, and none after the first begins at a stop
unfoldable pub RunsTo : List ℕ → ℕ → List Mapped → Point → Point → Type 0
RunsTo stops zero mapping old new = new ≡ old
RunsTo stops (suc n) mapping old new = (mid : Point) × RunsTo stops n mapping old mid × DoesOne mapping mid new
    × IsPast stops n mid.pc

-- n instructions may have written this
unfoldable pub Reaches : ℕ → List Mapped → List (List ℕ) → List (List ℕ) → Type 0
Reaches zero mapping ram ram' = ram' ≡ ram
Reaches (suc n) mapping ram ram' = (mid : List (List ℕ)) × Reaches n mapping ram mid × WritesOnly mid mapping ram'

-- the tables from a root give the mapping, whatever instructions write
pub record IsSteady (ram : List (List ℕ)) (root : ℕ) (mapping : List Mapped) : Type 0 where
  pub sound : IsSound ram mapping
  pub walks : (n : ℕ) (ram' : List (List ℕ)) → Reaches n mapping ram ram' → WalksTo ram' root mapping

-- n instructions of a program are done by a mapping, which holds all that a translator holds under the root
pub record Goes (held : Held) (root : ℕ) (mapping : List Mapped) (stops : List ℕ) (n : ℕ) (first now : Point) : Type 0
  where
    pub steady : IsSteady first.ram root mapping
    pub coherent : IsCoherent held root mapping
    pub runs : RunsTo stops n mapping first now
    pub reaches : Reaches n mapping first.ram now.ram
    pub count : length now.ram ≡ length first.ram

-- a hart's own point, and the one at a pc
abbrev pub point_of : Hart → List (List ℕ) → Point
point_of hart ram = record { registers = hart.registers; pc = hart.pc; ram = ram }

abbrev pub point_at : Hart → ℕ → List (List ℕ) → Point
point_at hart pc ram = record { registers = hart.registers; pc = pc; ram = ram }

-- `done` more instructions are done, by each mapping that was valid so far, and a trap is that of the next one
abbrev pub GoesOn : Held → Held → ℕ → List Mapped → List ℕ → Point → Point → ℕ → Option Trap → Type 0
GoesOn held held' root mapping stops old new done trap = (n : ℕ) (first : Point) → IsPast stops n old.pc
    → Goes held root mapping stops n first old
    → Goes held' root mapping stops (n + done) first new
    × IfSome trap (λ t. cycle new.registers new.pc (memory_of new.ram mapping) ≡ Err t)

-- what a run keeps: what is held lies in the memory, which has as many frames, and the root is the same
pub record StaysWhole (held : Held) (old new : Hart) (ram ram' : List (List ℕ)) : Type 0 where
  pub inside : HoldsInside held ram'
  pub count : length ram' ≡ length ram
  pub root : new.root ≡ old.root

-- the word at a pc, in a frame
abbrev pub word_in : List (List ℕ) → ℕ → ℕ → ℕ
word_in ram f pc = number (bytes_at 4 pc (given ram f))

-- of `words` words all are done, or some up to a jump or a store, or not all because of a trap
abbrev pub MovesOn : ℕ → ℕ → Next → Type 0
MovesOn words done Behind = done ≡ words
MovesOn words done (Stored f doubleword) = 0 < done
MovesOn words done (Within word) = 0 < done
MovesOn words done (At target) = 0 < done
MovesOn words done (Stop t) = done < words
