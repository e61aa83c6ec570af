-- The line of times of a machine: at time n it is what the first n events make of its start.
use Rattle.std.specs.Prelude.{Bool, IfSome, List, None, Option, Some, false, is_some, length, max, take, true, ℕ, ℤ}
use Rattle.std.specs.Prelude.{◌+◌, ◌<◌, ◌≡◌, ◌≢◌, ◌≤◌, ◌⊎◌}
use Rattle.calls.specs.Computing.{computes, is_at}
use Rattle.kernel.specs.Idle.{running_pid, running_process}
use Rattle.timeline.specs.declared.moving.Moved.{Moved}
use Rattle.timeline.specs.declared.moving.Moved.TheVariants.{Ended, Met, Until}
use Rattle.unixmodel.specs.declared.event.Event.{Event}
use Rattle.unixmodel.specs.Run.{run}
use Rattle.unixmodel.specs.Shown.{shown_process}
use Rattle.unixmodel.specs.State.{State}

-- where a machine began, its events, and its time
pub record Line : Type 0 where
  pub start : State
  pub events : List Event
  pub at : ℕ

-- the state at a time
abbrev pub state_at : State → List Event → ℕ → State
state_at start events n = (run start (take n events)).state

-- what more events make of a state; once it has halted none does anything
abbrev pub go_on_from : State → List Event → Option ℤ → State
go_on_from s events None = (run s events).state
go_on_from s events (Some status) = s

abbrev pub go_on : State → List Event → State
go_on s events = go_on_from s events s.halted

-- the process that runs is the one that its pid shows: no other has its pid
abbrev pub IsShown : State → Type 0
IsShown s = IfSome (running_pid s) (λ pid. shown_process s pid ≡ running_process s)

-- there is no reason to stop
abbrev pub Passes : (State → Bool) → State → Type 0
Passes stops s = IsShown s → stops s ≡ false

-- the same process runs, and all others are as they were
pub record IsBeside (from s : State) : Type 0 where
  pub runs : running_pid s ≡ running_pid from
  pub others : (pid : ℕ) → running_pid from ≢ Some pid → shown_process s pid ≡ shown_process from pid

-- there is none where the process that runs from a state on does its next instruction, unless its pc is at one of these
-- addresses
abbrev pub StopsOnlyAt : (State → Bool) → State → List ℕ → Type 0
StopsOnlyAt stops from addresses =
    (s : State) → IsBeside from s → computes s ≡ true → is_at addresses s ≡ false → Passes stops s

-- ---- motions

-- at most n events on, and no time strictly between has a reason to stop
pub record IsStride (stops : State → Bool) (old new : Line) (times : ℕ) : Type 0 where
  pub same : new ≡ record old { at = new.at }
  pub later : old.at ≤ new.at
  pub within : new.at ≤ old.at + times
  pub between : (n : ℕ) → old.at < n → n < new.at → Passes stops (state_at old.start old.events n)

-- the last event, or the machine has halted, or it would by the next event
abbrev pub IsEnd : State → List Event → ℕ → Type 0
IsEnd start events n =
    (n ≡ length events) ⊎ (is_some (state_at start events n).halted ≡ true)
    ⊎ (is_some (state_at start events (n + 1)).halted ≡ true)

-- why a motion forward ended there: a reason to stop, the time up to which it was to go, or the end
abbrev pub Reaches : (State → Bool) → Line → ℕ → ℕ → Moved → Type 0
Reaches stops old until to Met = (old.at < to) × (to ≤ until) × (stops (state_at old.start old.events to) ≡ true)
Reaches stops old until to Until =
    (to ≡ max old.at until) × (old.at < to → stops (state_at old.start old.events to) ≡ false)
Reaches stops old until to Ended = IsEnd old.start old.events to

-- forward, to the first time at which there is a reason to stop
pub record IsFirst (stops : State → Bool) (old : Line) (until to : ℕ) (moved : Moved) : Type 0 where
  pub later : old.at ≤ to
  -- no time strictly between has a reason to stop
  pub between : (n : ℕ) → old.at < n → n < to → Passes stops (state_at old.start old.events n)
  pub reaches : Reaches stops old until to moved

-- why a motion back ended there: a reason to stop, or the start
abbrev pub Returns : (State → Bool) → Line → ℕ → Moved → Type 0
Returns stops old to Met = (to < old.at) × (stops (state_at old.start old.events to) ≡ true)
Returns stops old to Until = ⊥
Returns stops old to Ended = (to ≡ 0) × ((n : ℕ) → n < old.at → Passes stops (state_at old.start old.events n))

-- back, to the last time at which there is a reason to stop
pub record IsLast (stops : State → Bool) (old : Line) (to : ℕ) (moved : Moved) : Type 0 where
  pub earlier : to ≤ old.at
  pub between : (n : ℕ) → to < n → n < old.at → Passes stops (state_at old.start old.events n)
  pub returns : Returns stops old to moved

-- the last time with a reason to stop, from one on and before another
abbrev pub HitIn : (State → Bool) → Line → ℕ → Option ℕ → Type 0
HitIn stops old end None = (n : ℕ) → old.at ≤ n → n < end → Passes stops (state_at old.start old.events n)
HitIn stops old end (Some hit) =
    (old.at ≤ hit) × (hit < end) × (stops (state_at old.start old.events hit) ≡ true)
    × ((n : ℕ) → hit < n → n < end → Passes stops (state_at old.start old.events n))
