-- Instructions of the process that runs, up to a call or a fault, and no further than to a stop.
use Rattle.std.specs.Prelude.{Bool, Err, List, None, Ok, Option, Some, false, is_some, replicate, true, ℕ, ◌<◌, ◌≡◌}
use Rattle.std.specs.Prelude.{◌≤◌, ◌⊎◌}
use Rattle.hart.specs.Stops.{is_stop}
use Rattle.kernel.specs.Idle.{running_process}
use Rattle.unixmodel.specs.Calls.{quiet}
use Rattle.unixmodel.specs.declared.event.Event.TheVariants.{Step}
use Rattle.unixmodel.specs.Meaning.{Effect}
use Rattle.unixmodel.specs.Next.{effect_of}
use Rattle.unixmodel.specs.Process.{Process}
use Rattle.unixmodel.specs.Run.{run}
use Rattle.unixmodel.specs.State.{State, running}

abbrev pub is_done : Effect → Bool
is_done (Ok d) = true
is_done (Err t) = false

abbrev pub computes_as : Option Process → Bool
computes_as None = false
computes_as (Some p) = is_done (effect_of p)

-- a process runs, and its next instruction is done: it neither calls nor faults
abbrev pub computes : State → Bool
computes s = computes_as (running_process s)

abbrev pub stands_at : List ℕ → Option Process → Bool
stands_at stops None = false
stands_at stops (Some p) = is_stop stops p.pc

-- a process runs, and its pc is at a stop
abbrev pub is_at : List ℕ → State → Bool
is_at stops s = stands_at stops (running_process s)

-- the state after n steps
abbrev pub after_steps : State → ℕ → State
after_steps s n = (run s (replicate n Step)).state

pub record Computes (old new : State) (stops : List ℕ) (most count : ℕ) : Type 0 where
  pub within : count ≤ most
  -- `count` steps, which print nothing
  pub steps : run old (replicate count Step) ≡ quiet new
  -- none of them calls or faults, and there is none where nobody runs
  pub computing : (n : ℕ) → n < count → computes (after_steps old n) ≡ true
  -- no state strictly between is at a stop
  pub none_between : (n : ℕ) → 0 < n → n < count → is_at stops (after_steps old n) ≡ false
  -- where there could be more, the next instruction calls or faults, or is at a stop
  pub first_stop : count < most → is_some (running old) ≡ true
      → (computes new ≡ false) ⊎ ((0 < count) × (is_at stops new ≡ true))
