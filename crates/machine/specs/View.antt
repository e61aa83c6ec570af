-- What clauses see of a machine.
use Rattle.std.specs.Prelude.{Bool, List, None, false, ℕ, ◌≡◌}
use Rattle.unixmodel.specs.State.{State}

-- the state of the abstract Unix, whose files are those of the disk; the device's count of failures; whether the
-- machine has failed; and what distinguishes its device from others
pub record View : Type 0 where
  pub state : State
  pub failures : ℕ
  pub failed : Bool
  pub identity : List ℕ

-- it takes events
pub record IsUp (m : View) : Type 0 where
  pub sound : m.failed ≡ false
  pub goes : m.state.halted ≡ None

-- a machine that has not failed
abbrev pub sound_view : State → ℕ → List ℕ → View
sound_view state failures identity = record { state = state; failures = failures; failed = false; identity = identity }
