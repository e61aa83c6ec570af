-- A hart does what an effect says.
use Rattle.std.specs.Prelude.{ℕ, ◌≡◌, IfSome, List, Option, Some, None, MatchResult, length}
use Rattle.unixmodel.specs.declared.trap.Trap.{Trap}
use Rattle.unixmodel.specs.Cycle.{cycle}
use Rattle.unixmodel.specs.Meaning.{Effect}
use Rattle.unixmodel.specs.Translation.{Held, IsKept}
use Rattle.sv39.specs.Mapping.{Mapped, Shows, memory_of}
use Rattle.hart.specs.Answered.{IsStep, cycle_by}
use Rattle.hart.specs.Changes.{changed}
use Rattle.hart.specs.declared.state.Hart.{Hart}

-- The registers and the pc are the effect's, and the frames are written where the mapping says. A trap changes nothing.
abbrev pub Follows : Effect → List Mapped → Option Trap → Hart → Hart → List (List ℕ) → List (List ℕ) → Type 0
Follows effect mapping result old new ram ram' = MatchResult effect
    (λ d. (result ≡ None) × (new.registers ≡ d.regs) × (new.pc ≡ d.pc) × (new.root ≡ old.root)
    × (ram' ≡ changed ram mapping d.change))
    (λ t. (result ≡ Some t) × (new ≡ old) × (ram' ≡ ram))

-- One instruction is done, or a trap says why it isn't, over a translator that held `held` and now holds `held'`.
pub record Steps (held held' : Held) (result : Option Trap) (old new : Hart) (ram ram' : List (List ℕ)) : Type 0 where
  pub answered : IsStep held (cycle_by old.registers old.pc) result old new ram ram'
  pub trap : IfSome result (λ t. (new ≡ old) × (ram' ≡ ram))
  pub step : (mapping : List Mapped) → Shows held ram old.root.0 mapping
      → Follows (cycle old.registers old.pc (memory_of ram mapping)) mapping result old new ram ram'
  pub kept : IsKept held held' ram old.root.0
  pub count : length ram' ≡ length ram
