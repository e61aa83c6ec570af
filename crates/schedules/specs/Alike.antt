-- States that differ in the count of ticks alone, and go on alike.
-- A sleeper looks at how many ticks it has waited, and the call uptime at their count; nothing else looks at the clock.
use Rattle.std.specs.Prelude.{Bool, Err, List, None, Ok, Option, Some, [], false, if◌then◌else◌, map, option_map, true}
use Rattle.std.specs.Prelude.{ℕ, ⊤, ◌%◌, ◌+◌, ◌-◌, ◌<◌, ◌^◌, ◌∷◌, ◌≡◌}
use Rattle.unixmodel.specs.declared.call.Call.{Call}
use Rattle.unixmodel.specs.declared.call.Call.TheVariants.{Sleep, Uptime}
use Rattle.unixmodel.specs.declared.event.Event.{Event}
use Rattle.unixmodel.specs.declared.event.Event.TheVariants.{Key, Step, Tick}
use Rattle.unixmodel.specs.declared.process.Mode.{Mode}
use Rattle.unixmodel.specs.declared.process.Mode.TheVariants.{Ready, Running, Waiting, Zombie}
use Rattle.unixmodel.specs.declared.process.Pending.{Pending}
use Rattle.unixmodel.specs.Calls.{After, call_of, quiet}
use Rattle.unixmodel.specs.Meaning.{Effect}
use Rattle.unixmodel.specs.Next.{effect_of, is_ecall, next}
use Rattle.unixmodel.specs.Numbers.{low}
use Rattle.unixmodel.specs.Process.{Process, arg}
use Rattle.unixmodel.specs.Run.{UnlessHalted, picked_by, run}
use Rattle.unixmodel.specs.State.{State, process_at, running}

-- ---- a state, with its clock set back to 0

-- for how many ticks a call has waited
abbrev pub waited : ℕ → Pending → ℕ
waited ticks w = (ticks + (2 ^ 32 - w.since)) % 2 ^ 32

abbrev pub is_sleep : Call → Bool
is_sleep Sleep = true
is_sleep _ = false

-- a sleep began as many ticks before 0, modulo 2^32; of other calls nobody asks when they began
unfoldable pub set_back : ℕ → Pending → Pending
set_back ticks w = record w { since = if is_sleep w.number then (2 ^ 32 - waited ticks w) % 2 ^ 32 else 0 }

abbrev pub mode_set_back : ℕ → Mode → Mode
mode_set_back ticks Running = Running
mode_set_back ticks Ready = Ready
mode_set_back ticks (Waiting w) = Waiting (set_back ticks w)
mode_set_back ticks (Zombie status) = Zombie status

abbrev pub process_set_back : ℕ → Process → Process
process_set_back ticks p = record p { mode = mode_set_back ticks p.mode }

abbrev pub places_set_back : ℕ → List (Option Process) → List (Option Process)
places_set_back ticks places = map (option_map (process_set_back ticks)) places

unfoldable pub state_set_back : ℕ → State → State
state_set_back ticks s = record s { places = places_set_back ticks s.places; ticks = 0 }

abbrev pub timeless : State → State
timeless s = state_set_back s.ticks s

-- ---- alike

-- they are equal, except that their clocks differ: each process that sleeps has slept as long
abbrev pub Alike : State → State → Type 0
Alike s t = timeless s ≡ timeless t

-- the clock is a number of 32 bits
abbrev pub HasClock : State → Type 0
HasClock s = s.ticks < 2 ^ 32

abbrev pub is_uptime : Option Call → Bool
is_uptime (Some Uptime) = true
is_uptime _ = false

-- the process's next instruction is the call uptime
abbrev pub asks_as : Process → Effect → Bool
asks_as p (Ok d) = false
asks_as p (Err t) = if is_ecall t.cause then is_uptime (call_of (low (arg p 7))) else false

unfoldable pub asks : Process → Bool
asks p = asks_as p (effect_of p)

abbrev pub asks_in : Option Process → Bool
asks_in None = false
asks_in (Some p) = asks p

abbrev pub asks_at : State → Option ℕ → Bool
asks_at s None = false
asks_at s (Some i) = asks_in (process_at s i)

-- the event is a step in which a process asks for the count of ticks
unfoldable pub asks_time : State → Event → Bool
asks_time s Step = asks_at s (running s)
asks_time s Tick = false
asks_time s (Key k) = false

-- no event of the run, which ends where it halts, does
unfoldable pub NeverAsksTime : State → List Event → Type 0
NeverAsksTime s [] = ⊤
NeverAsksTime s (e ∷ es) =
    (asks_time s e ≡ false) × UnlessHalted (next s e).state (λ t. NeverAsksTime t es) (next s e).state.halted

-- ---- the law

-- the same shows of two states, and they are alike
pub record AreAlike (a b : After) : Type 0 where
  pub bytes : a.bytes ≡ b.bytes
  pub alike : Alike a.state b.state
  pub first : HasClock a.state
  pub second : HasClock b.state

-- after an event
abbrev pub EventKeepsAlike : Type 0
EventKeepsAlike = (s t : State) (e : Event) → HasClock s → HasClock t → Alike s t → asks_time s e ≡ false
    → AreAlike (next s e) (next t e)

-- after a run
abbrev pub RunKeepsAlike : Type 0
RunKeepsAlike = (s t : State) (events : List Event) → HasClock s → HasClock t → Alike s t → NeverAsksTime s events
    → AreAlike (run s events) (run t events)

-- ---- ticks that change nothing

abbrev pub is_asleep_in : Mode → Bool
is_asleep_in Running = false
is_asleep_in Ready = false
is_asleep_in (Waiting w) = is_sleep w.number
is_asleep_in (Zombie status) = false

-- no process waits in sleep
abbrev pub NoneSleeps : State → Type 0
NoneSleeps s = (i : ℕ) (p : Process) → process_at s i ≡ Some p → is_asleep_in p.mode ≡ false

-- a tick where no process runs and none sleeps
abbrev pub IdleTickChangesNothing : Type 0
IdleTickChangesNothing = (s : State) → HasClock s → running s ≡ None → NoneSleeps s → AreAlike (quiet s) (next s Tick)

-- a tick, and the turn after it, at which the process that ran is picked again
abbrev pub TickBackChangesNothing : Type 0
TickBackChangesNothing = (s : State) (i : ℕ) (p : Process) → HasClock s → s.halted ≡ None → running s ≡ Some i
    → process_at s i ≡ Some p → p.killed ≡ false → s.last ≡ i → NoneSleeps s
    → picked_by (next s Tick).state Step ≡ Some i
    → AreAlike (quiet s) (run s (Tick ∷ Step ∷ []))
