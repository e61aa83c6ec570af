-- Many instructions, one after the other.
use Rattle.std.specs.Prelude.{Err, IfNone, IfSome, List, Ok, Option, zero, suc, ℕ, ◌<◌, ◌≡◌, ◌≤◌}
use Rattle.hart.specs.Stops.{EndsAt, IsBehind, IsPast}
use Rattle.spaces.specs.Spaces.{Spaces, computed, view_at}
use Rattle.unixmodel.specs.Cycle.{cycle}
use Rattle.unixmodel.specs.Meaning.{Computed}
use Rattle.unixmodel.specs.declared.trap.Cause.TheVariants.{StorePageFault}
use Rattle.unixmodel.specs.declared.trap.Trap.{Trap}

-- the instruction at the pc, in the memory of a slot, is done
pub record Does (old : Spaces) (at : ℕ) (new : Spaces) : Type 0 where
  pub done : Computed
  pub means : cycle old.registers old.pc (view_at old at).memory ≡ Ok done
  pub leaves : new ≡ computed old at done

-- n instructions are done, one after the other, and none after the first begins at a stop
unfoldable pub Advances : List ℕ → ℕ → Spaces → ℕ → Spaces → Type 0
Advances stops zero old at new = new ≡ old
Advances stops (suc n) old at new = (mid : Spaces) × Advances stops n old at mid × Does mid at new
    × IsPast stops n mid.pc

-- `made` of `count` instructions of the active slot are done, up to a stop or to one that its pages don't let through.
-- A store that faulted may be one to a closed page.
pub record RunsActive (stops : List ℕ) (old new : Spaces) (count made : ℕ) (stopped : Option Trap) : Type 0 where
  pub done : IfSome old.active (λ at. Advances stops made old at new)
  pub active : new.active ≡ old.active
  pub within : made ≤ count
  pub ends : IfNone stopped (EndsAt stops count made new.pc)
  pub some : IfSome stopped (λ t. made < count)
  pub behind : IfSome stopped (λ t. IsBehind stops made old.pc new.pc)
  pub trap : IfSome stopped (λ t. (t.cause ≡ StorePageFault → ⊥) →
      IfSome old.active (λ at. cycle new.registers new.pc (view_at new at).memory ≡ Err t))
