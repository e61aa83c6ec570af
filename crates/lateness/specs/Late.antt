-- States that differ in how long sleeps that are over have been over, and go on alike.
-- A sleep that is over lets its process go on, whether it has been over for one tick or for many.
use Rattle.std.specs.Prelude.{Bool, List, None, Option, [], if◌then◌else◌, map, nat_le, option_map, true, ℕ}
use Rattle.std.specs.Prelude.{Some, ⊤, ◌%◌, ◌&&◌, ◌+◌, ◌-◌, ◌<◌, ◌^◌, ◌∷◌, ◌≡◌, ◌≤◌, false}
use Rattle.schedules.specs.Alike.{Alike, HasClock, NeverAsksTime, asks_time, is_sleep, waited}
use Rattle.unixmodel.specs.declared.event.Event.{Event}
use Rattle.unixmodel.specs.declared.event.Event.TheVariants.{Key, Step, Tick}
use Rattle.unixmodel.specs.declared.process.Mode.{Mode}
use Rattle.unixmodel.specs.declared.process.Mode.TheVariants.{Ready, Running, Waiting, Zombie}
use Rattle.unixmodel.specs.declared.process.Pending.{Pending}
use Rattle.unixmodel.specs.Calls.{After}
use Rattle.unixmodel.specs.Next.{next}
use Rattle.unixmodel.specs.Process.{Process}
use Rattle.unixmodel.specs.ProcessCalls.{sleep_time}
use Rattle.unixmodel.specs.Run.{run}
use Rattle.unixmodel.specs.State.{State, process_at, running}

-- ---- a state in which each sleep that is over has just come to its end

-- a sleep is over once it has lasted as long as it was to
abbrev pub is_over : ℕ → Pending → Bool
is_over ticks w = nat_le (sleep_time w) (waited ticks w)

-- a sleep that is over has lasted exactly as long as it was to; any other call is as it was
unfoldable pub settled : ℕ → Pending → Pending
settled ticks w = record w
    { since = if is_sleep w.number && is_over ticks w then (ticks + (2 ^ 32 - sleep_time w)) % 2 ^ 32 else w.since }

abbrev pub mode_settled : ℕ → Mode → Mode
mode_settled ticks Running = Running
mode_settled ticks Ready = Ready
mode_settled ticks (Waiting w) = Waiting (settled ticks w)
mode_settled ticks (Zombie status) = Zombie status

abbrev pub process_settled : ℕ → Process → Process
process_settled ticks p = record p { mode = mode_settled ticks p.mode }

abbrev pub places_settled : ℕ → List (Option Process) → List (Option Process)
places_settled ticks places = map (option_map (process_settled ticks)) places

unfoldable pub state_settled : State → State
state_settled s = record s { places = places_settled s.ticks s.places }

-- ---- alike, but late

-- They are equal, except that their clocks differ, and how long sleeps that are over have been over: each other sleep
-- has lasted as long.
abbrev pub AlikeButLate : State → State → Type 0
AlikeButLate s t = Alike (state_settled s) (state_settled t)

abbrev pub LastsWithin : ℕ → ℕ → Mode → Type 0
LastsWithin n ticks Running = ⊤
LastsWithin n ticks Ready = ⊤
LastsWithin n ticks (Waiting w) = is_sleep w.number ≡ true → waited ticks w ≤ n
LastsWithin n ticks (Zombie status) = ⊤

-- no sleep has lasted more than n ticks
abbrev pub SleepsWithin : ℕ → State → Type 0
SleepsWithin n s = (i : ℕ) (p : Process) → process_at s i ≡ Some p → LastsWithin n s.ticks p.mode

-- two such states, whose clocks are numbers of 32 bits
pub record AreLateAlike (n : ℕ) (s t : State) : Type 0 where
  pub alike : AlikeButLate s t
  pub first : HasClock s
  pub second : HasClock t
  pub within : SleepsWithin n s
  pub other_within : SleepsWithin n t

-- ---- timer interrupts

abbrev pub ticks_of : Event → ℕ
ticks_of Step = 0
ticks_of Tick = 1
ticks_of (Key b) = 0

-- how many are in a list of events
abbrev pub ticks_in : List Event → ℕ
ticks_in [] = 0
ticks_in (e ∷ es) = ticks_of e + ticks_in es

-- ---- the laws

-- the same is printed, and the states are alike but late
pub record GoLateAlike (n : ℕ) (a b : After) : Type 0 where
  pub bytes : a.bytes ≡ b.bytes
  pub states : AreLateAlike n a.state b.state

-- after an event
abbrev pub EventKeepsLateAlike : Type 0
EventKeepsLateAlike = (n : ℕ) (s t : State) (e : Event) → AreLateAlike n s t → n + ticks_of e < 2 ^ 32
    → asks_time s e ≡ false
    → GoLateAlike (n + ticks_of e) (next s e) (next t e)

-- after a run
abbrev pub RunKeepsLateAlike : Type 0
RunKeepsLateAlike = (n : ℕ) (s t : State) (events : List Event) → AreLateAlike n s t → n + ticks_in events < 2 ^ 32
    → NeverAsksTime s events
    → GoLateAlike (n + ticks_in events) (run s events) (run t events)

-- a sleep lasts no longer than ticks come: after an event
abbrev pub EventKeepsSleeps : Type 0
EventKeepsSleeps = (n : ℕ) (s : State) (e : Event) → HasClock s → SleepsWithin n s → n + ticks_of e < 2 ^ 32
    → SleepsWithin (n + ticks_of e) (next s e).state

-- after a run
abbrev pub RunKeepsSleeps : Type 0
RunKeepsSleeps = (n : ℕ) (s : State) (events : List Event) → HasClock s → SleepsWithin n s
    → n + ticks_in events < 2 ^ 32
    → SleepsWithin (n + ticks_in events) (run s events).state

-- ---- a late tick

abbrev pub IsOverIn : ℕ → Mode → Type 0
IsOverIn ticks Running = ⊤
IsOverIn ticks Ready = ⊤
IsOverIn ticks (Waiting w) = is_sleep w.number ≡ true → is_over ticks w ≡ true
IsOverIn ticks (Zombie status) = ⊤

-- no process runs, and all sleeps are over
pub record IsLate (s : State) : Type 0 where
  pub none : running s ≡ None
  pub over : (i : ℕ) (p : Process) → process_at s i ≡ Some p → IsOverIn s.ticks p.mode

abbrev pub LateTickChangesNothing : Type 0
LateTickChangesNothing = (n : ℕ) (s : State) → HasClock s → SleepsWithin n s → n + 1 < 2 ^ 32 → IsLate s
    → AreLateAlike (n + 1) s (next s Tick).state

-- the same bytes are printed, process 1 ended with the same status or hasn't ended, and the same files are left
pub record ShowSameFiles (a b : After) : Type 0 where
  pub bytes : a.bytes ≡ b.bytes
  pub status : a.state.halted ≡ b.state.halted
  pub files : a.state.files ≡ b.state.files

abbrev pub LateTickNeverShows : Type 0
LateTickNeverShows = (n : ℕ) (s : State) (events : List Event) → HasClock s → SleepsWithin n s
    → n + 1 + ticks_in events < 2 ^ 32 → IsLate s → NeverAsksTime s events
    → ShowSameFiles (run s events) (run (next s Tick).state events)
