-- What operations leave, and where a hart goes on after them.
use Rattle.std.specs.Prelude.{ℕ, ◌≡◌, ◌*◌, ◌/◌, ◌==◌, ◌%◌, if◌then◌else◌, List, Option, Some, None, MatchResult, length}
use Rattle.std.specs.Prelude.{slice_index}
use Rattle.ram.specs.Memory.{word_of}
use Rattle.ram.specs.declared.FrameNo.{FrameNo}
use Rattle.unixmodel.specs.declared.trap.Trap.{Trap}
use Rattle.unixmodel.specs.Meaning.{Effect}
use Rattle.unixmodel.specs.Meaning.Change.{Nothing}
use Rattle.unixmodel.specs.Numbers.{plus}
use Rattle.unixmodel.specs.Translation.{Held, IsKept}
use Rattle.hart.specs.Answered.{Answers, AreAllowed, Sight, seen, stored}
use Rattle.hart.specs.declared.act.Next.{Next}
use Rattle.hart.specs.declared.act.Next.TheVariants.{At, Behind, Stop, Stored, Within}
use Rattle.hart.specs.declared.state.Hart.{Hart}
use Rattle.hart.specs.Stops.{pc_at}

-- the trap that was raised
abbrev pub trap_of : Next → Option Trap
trap_of Behind = None
trap_of (Stored f doubleword) = None
trap_of (Within word) = None
trap_of (At target) = None
trap_of (Stop t) = Some t

-- where a hart goes on; a trap leaves it where it was
abbrev pub pc_after : Next → ℕ → ℕ
pc_after Behind pc = plus pc 4
pc_after (Stored f doubleword) pc = plus pc 4
pc_after (Within word) pc = pc_at word.base word.index
pc_after (At target) pc = target
pc_after (Stop t) pc = pc

-- where a program goes on, from a pc after what was done
abbrev pub goes_to : ℕ → Next → ℕ
goes_to pc Behind = pc
goes_to pc (Stored f doubleword) = pc
goes_to pc (Within word) = pc_at word.base word.index
goes_to pc (At target) = target
goes_to pc (Stop t) = pc

-- the doubleword of a frame that was stored to
abbrev pub doubleword_of : Next → Option ℕ
doubleword_of Behind = None
doubleword_of (Stored f doubleword) = Some doubleword
doubleword_of (Within word) = None
doubleword_of (At target) = None
doubleword_of (Stop t) = None

-- the frame that was stored to, and the first word of its doubleword
abbrev pub store_of : Next → Option (FrameNo × ℕ)
store_of Behind = None
store_of (Stored f doubleword) = Some (f, 2 * doubleword)
store_of (Within word) = None
store_of (At target) = None
store_of (Stop t) = None

-- of stores only one to this frame
abbrev pub seen_in : Next → ℕ → Next
seen_in Behind f = Behind
seen_in (Stored g doubleword) f = if g.0 == f then Stored g doubleword else Behind
seen_in (Within word) f = Within word
seen_in (At target) f = At target
seen_in (Stop t) f = Stop t

-- whether a frame's page is known: of each number modulo 32 there is one in the table
abbrev pub IsLive : List ℕ → ℕ → Type 0
IsLive frames f = slice_index frames (f % 32) ≡ f

-- of stores only those to frames whose pages are known
abbrev pub seen_live : Next → List ℕ → Next
seen_live Behind frames = Behind
seen_live (Stored g doubleword) frames = if slice_index frames (g.0 % 32) == g.0 then Stored g doubleword else Behind
seen_live (Within word) frames = Within word
seen_live (At target) frames = At target
seen_live (Stop t) frames = Stop t

-- the words of a frame are as they were, except for the two of a doubleword that was stored to
abbrev pub KeepsWords : Next → ℕ → List (List ℕ) → List (List ℕ) → Type 0
KeepsWords next f ram ram' = (k : ℕ) → (doubleword_of next ≡ Some (k / 2) → ⊥)
    → word_of ram' f (4 * k) 4 ≡ word_of ram f (4 * k) 4

-- the same of each frame whose page is known
abbrev pub KeepsLive : Next → List ℕ → List (List ℕ) → List (List ℕ) → Type 0
KeepsLive next frames ram ram' = (f : ℕ) → IsLive frames f → KeepsWords (seen_in next f) f ram ram'

-- The registers and the pc are the effect's, and it writes no memory. A trap leaves the hart as it was.
abbrev pub Turns : Effect → Next → ℕ → Hart → Hart → Type 0
Turns effect next pc old new = MatchResult effect
    (λ d. (trap_of next ≡ None) × (new.registers ≡ d.regs) × (pc_after next pc ≡ d.pc) × (new.root ≡ old.root)
    × (d.change ≡ Nothing))
    (λ t. (trap_of next ≡ Some t) × (new ≡ old))

-- The registers, the pc and the frames are the effect's. A trap changes nothing.
abbrev pub Leaves : Effect → Answers → Next → ℕ → Hart → Hart → List (List ℕ) → List (List ℕ) → Type 0
Leaves effect answers next pc old new ram ram' = MatchResult effect
    (λ d. (trap_of next ≡ None) × (new.registers ≡ d.regs) × (pc_after next pc ≡ d.pc) × (new.root ≡ old.root)
    × (ram' ≡ stored ram answers d.change))
    (λ t. (trap_of next ≡ Some t) × (new ≡ old) × (ram' ≡ ram))

-- What is meant is done at a pc, with each access translated as the law of translators allows. The hart's own pc has no
-- part in it. What is held afterwards was held, or is what the walk gives.
pub record Acts (held held' : Held) (meaning : Sight → Effect) (next : Next) (pc : ℕ) (old new : Hart)
    (ram ram' : List (List ℕ)) : Type 0 where
  pub answers : Answers
  pub allowed : AreAllowed held ram old.root.0 answers
  pub does : Leaves (meaning (seen ram answers)) answers next pc old new ram ram'
  pub kept : IsKept held held' ram old.root.0
  pub count : length ram' ≡ length ram

-- it is done, and of each frame only a doubleword is new that was stored to
pub record Operates (held held' : Held) (meaning : Sight → Effect) (next : Next) (pc : ℕ) (old new : Hart)
    (ram ram' : List (List ℕ)) : Type 0 where
  pub acts : Acts held held' meaning next pc old new ram ram'
  pub only : (f : ℕ) → KeepsWords (seen_in next f) f ram ram'
