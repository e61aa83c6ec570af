-- What a search knows while it goes on.
use Rattle.std.specs.Prelude.{List, None, Some, [], is_some, false, suc, true, zero, ℕ, ⊤, ◌+◌, ◌++◌, ◌<◌, ◌∷◌}
use Rattle.std.specs.Prelude.{◌≡◌, ◌≤◌, ◌⊎◌}
use Rattle.orders.specs.declared.bounds.Bounds.{Bounds}
use Rattle.orders.specs.declared.bounds.Missed.{Missed}
use Rattle.orders.specs.declared.paths.Path.{Path}
use Rattle.orders.specs.declared.told.Outcome.{Outcome}
use Rattle.orders.specs.Ends.{AllWait, IsEnding, is_anyone_asleep}
use Rattle.orders.specs.Free.{IsFree, MayCome, is_idle, keys_left}
use Rattle.orders.specs.Missed.{is_ticks_alone}
use Rattle.orders.specs.Paths.{events_of, steps, typed_in}
use Rattle.orders.specs.Told.{Each, IsSound, IsTold, One, runs_in}
use Rattle.orders.specs.Tried.{IsPromptIn, busy_in, busy_ticks}
use Rattle.renumbering.specs.Alike.{AlikeUpToNumbers}
use Rattle.schedules.specs.Alike.{HasClock, asks_time}
use Rattle.schedules.specs.Schedules.{ComputesFor, after_steps, computes}
use Rattle.unixmodel.specs.declared.event.Event.{Event}
use Rattle.unixmodel.specs.declared.event.Event.TheVariants.{Key, Step, Tick}
use Rattle.unixmodel.specs.Calls.{After}
use Rattle.unixmodel.specs.Next.{next}
use Rattle.unixmodel.specs.Process.{Process}
use Rattle.unixmodel.specs.Run.{picked_by, run}
use Rattle.unixmodel.specs.State.{State, process_at, running}

-- ---- computing steps

-- At each of n steps the process that runs computes, and comes to a call or a fault within `spin` steps more: no timer
-- interrupt needs to be tried there.
unfoldable pub IsPlain : ℕ → State → ℕ → Type 0
IsPlain spin s zero = ⊤
IsPlain spin s (suc n) =
    (computes s ≡ true) × (ComputesFor spin s → ⊥) × IsPlain spin (next s Step).state n

-- a list of events, and such steps
pub record ComesTo (spin : ℕ) (s : State) (es fs : List Event) : Type 0 where
  pub count : ℕ
  pub plain : IsPlain spin (run s es).state count
  pub same : fs ≡ es ++ steps count

-- n steps compute; the next is a call or a fault, or n is the most
pub record ComputesUpTo (most : ℕ) (s : State) (n : ℕ) : Type 0 where
  pub few : n ≤ most
  pub all : ComputesFor n s
  pub stops : n < most → computes (after_steps n s) ≡ false

abbrev pub stepped_on : ℕ → After → After
stepped_on n a = record { state = after_steps n a.state; bytes = a.bytes }

-- ---- what was looked at

-- the same is printed, and the states are alike up to the numbers of open files and pipes
pub record IsLike (a b : After) : Type 0 where
  pub bytes : a.bytes ≡ b.bytes
  pub alike : AlikeUpToNumbers a.state b.state

-- what two lists of events lead to is alike, with the same left to type; the other one has no more timer interrupts
pub record LeadAlike (keys : List ℕ) (s : State) (es fs : List Event) : Type 0 where
  pub like : IsLike (run s es) (run s fs)
  pub typed : keys_left keys es ≡ keys_left keys fs
  pub fewer : busy_ticks s fs ≤ busy_ticks s es

-- after some computing steps
pub record ComesAlike (spin : ℕ) (keys : List ℕ) (s : State) (es fs : List Event) : Type 0 where
  pub there : List Event
  pub comes : ComesTo spin s es there
  pub leads : LeadAlike keys s there fs

-- process 1 ends by a list of events, and what shows is told
pub record EndsTold (s : State) (told : List Outcome) (es : List Event) : Type 0 where
  pub ended : is_some (run s es).state.halted ≡ true
  pub shown : IsTold s told (run s es)

-- a list of events will be gone along
abbrev pub IsOpened : ℕ → State → List Path → List Event → Type 0
IsOpened spin s todo es = One (λ (p : Path). ComesTo spin s es (events_of p)) todo

-- What a list of events leads to is cared for: process 1 ends and that is told, it is alike to what was looked at, or
-- it will be looked at.
abbrev pub IsCaredHere : Bounds → List ℕ → State → List Path → List Path → List Outcome → List Event → Type 0
IsCaredHere b keys s seen todo told es =
    EndsTold s told es
    ⊎ (One (λ (p : Path). ComesAlike b.spin keys s es (events_of p)) seen ⊎ IsOpened b.spin s todo es)

-- nobody runs and none sleeps, but somebody is ready: a turn is due
pub record IsDue (s : State) : Type 0 where
  pub goes : s.halted ≡ None
  pub clock : HasClock s
  pub none : running s ≡ None
  pub awake : is_anyone_asleep s ≡ false
  pub due : is_idle s ≡ false

-- what comes of it after n turns, each of which is due, is cared for
unfoldable pub IsCaredAfter : ℕ → Bounds → List ℕ → State → List Path → List Path → List Outcome → List Event
    → Type 0
IsCaredAfter zero b keys s seen todo told es = IsCaredHere b keys s seen todo told es
IsCaredAfter (suc n) b keys s seen todo told es =
    IsDue (run s es).state × IsCaredAfter n b keys s seen todo told (es ++ Step ∷ [])

pub record IsCared (b : Bounds) (keys : List ℕ) (s : State) (seen todo : List Path) (told : List Outcome)
    (es : List Event) : Type 0 where
  pub turns : ℕ
  pub cared : IsCaredAfter turns b keys s seen todo told es

-- the path itself, or with the turn that is due there
abbrev pub IsTurnTaken : State → Path → Path → Type 0
IsTurnTaken s path there = (events_of there ≡ events_of path)
    ⊎ (IsDue (run s (events_of path)).state × (events_of there ≡ events_of path ++ Step ∷ []))

pub record TakesTurn (s : State) (path there : Path) : Type 0 where
  pub busy : there.busy ≡ path.busy
  pub taken : IsTurnTaken s path there

-- an event is tried, after so many timer interrupts that came while a process ran
pub record Tries (b : Bounds) (m : Missed) (count : ℕ) (s : State) (e : Event) : Type 0 where
  pub few : m.ticks ≡ true → (most : ℕ) → b.ticks ≡ Some most → count + busy_in s e ≤ most
  pub prompt : m.late ≡ true → IsPromptIn s e

-- The state that a list of events leads to was looked at: no process there asks for the time, and whatever event may
-- come next that is tried, what it leads to is cared for.
pub record IsLookedAt (b : Bounds) (m : Missed) (keys : List ℕ) (s : State) (seen todo : List Path)
    (told : List Outcome) (es : List Event) : Type 0 where
  pub goes : (run s es).state.halted ≡ None
  pub clock : HasClock (run s es).state
  pub quiet : asks_time (run s es).state Step ≡ false
  pub over : AllWait (keys_left keys es) (run s es).state → IsTold s told (run s es)
  pub further : (e : Event) → MayCome (keys_left keys es) (run s es).state e
      → Tries b m (busy_ticks s es) (run s es).state e → IsCared b keys s seen todo told (es ++ e ∷ [])

-- this holds of each state that was looked at, and the beginning is cared for
pub record IsWhole (b : Bounds) (m : Missed) (keys : List ℕ) (s : State) (seen todo : List Path)
    (told : List Outcome) : Type 0 where
  pub looked : Each (λ (p : Path). IsLookedAt b m keys s seen todo told (events_of p)) seen
  pub begun : IsCared b keys s seen todo told []

-- ---- a search that goes on

-- a path counts the timer interrupts that come while a process runs
abbrev pub IsCounted : State → Path → Type 0
IsCounted s p = p.busy ≡ busy_ticks s (events_of p)

-- its events may come, and it counts
pub record IsWay (keys : List ℕ) (s : State) (p : Path) : Type 0 where
  pub free : IsFree keys s (events_of p)
  pub counted : IsCounted s p

abbrev pub AreSound : List ℕ → State → List Outcome → Type 0
AreSound keys s told = Each (IsSound keys s) told

-- its outcomes are sound, what is open may come, and where no state was left out all is cared for
pub record IsGoing (b : Bounds) (keys : List ℕ) (s : State) (seen todo : List Path) (told : List Outcome)
    (m : Missed) : Type 0 where
  pub ways : Each (IsWay keys s) todo
  pub counted : Each (IsCounted s) seen
  pub sound : AreSound keys s told
  pub whole : is_ticks_alone m ≡ true → IsWhole b m keys s seen todo told

-- ---- its steps

-- what was opened still is
abbrev pub KeepsOpened : Bounds → State → List Path → List Path → Type 0
KeepsOpened b s old new = (es : List Event) → IsOpened b.spin s old es → IsOpened b.spin s new es

abbrev pub KeepsTold : State → List Outcome → List Outcome → Type 0
KeepsTold s old new = (a : After) → IsTold s old a → IsTold s new a

-- what was left out still is
pub record KeepsMissed (before after : Missed) : Type 0 where
  pub ticks : before.ticks ≡ true → after.ticks ≡ true
  pub late : before.late ≡ true → after.late ≡ true
  pub alone : is_ticks_alone after ≡ true → is_ticks_alone before ≡ true

-- what a list of events leads to is among the outcomes, if it is an end, and one more run ended
pub record TellsAt (s : State) (old new : List Outcome) (es : List Event) : Type 0 where
  pub told : IsTold s new (run s es)
  pub runs : runs_in new ≡ runs_in old + 1
  pub kept : KeepsTold s old new
  pub sound : (keys : List ℕ) → IsEnding keys s es → AreSound keys s old → AreSound keys s new

-- what a list of events leads to is told where all wait
pub record TellsWaiting (keys : List ℕ) (s : State) (old new : List Outcome) (es : List Event) : Type 0 where
  pub told : AllWait (keys_left keys es) (run s es).state → IsTold s new (run s es)
  pub kept : KeepsTold s old new
  pub sound : IsFree keys s es → AreSound keys s old → AreSound keys s new

-- a path was looked at that leads to what this one leads to, and types as much, by no more timer interrupts
pub record IsLikeAt (s : State) (path other : Path) : Type 0 where
  pub like : IsLike (run s (events_of path)) (run s (events_of other))
  pub typed : typed_in other.pieces.items ≡ typed_in path.pieces.items
  pub fewer : other.busy ≤ path.busy

abbrev pub IsKnownAt : State → List Path → Path → Type 0
IsKnownAt s seen path = One (IsLikeAt s path) seen

-- paths are opened: what was opened still is, and what is new may come
pub record Opens (keys : List ℕ) (s : State) (old new : List Path) (path : Path) : Type 0 where
  pub kept : (b : Bounds) → KeepsOpened b s old new
  pub ways : s.halted ≡ None → (run s (events_of path)).state.halted ≡ None → IsWay keys s path
      → Each (IsWay keys s) old → Each (IsWay keys s) new

-- the path with a typed byte where one may come
pub record OpensKey (keys : List ℕ) (s : State) (old new : List Path) (path : Path) : Type 0 where
  pub opens : Opens keys s old new path
  pub opened : (spin b : ℕ) → MayCome (keys_left keys (events_of path)) (run s (events_of path)).state (Key b)
      → IsOpened spin s new (events_of path ++ Key b ∷ [])

-- the path with a step
pub record OpensStep (keys : List ℕ) (s : State) (old new : List Path) (path : Path) : Type 0 where
  pub opens : Opens keys s old new path
  pub opened : (spin : ℕ) → IsOpened spin s new (events_of path ++ Step ∷ [])

-- a tick changes nothing but the clock: no process runs, and none sleeps
pub record IsTimeIdle (s : State) : Type 0 where
  pub none : running s ≡ None
  pub awake : is_anyone_asleep s ≡ false

-- a tick, and the turn after it, change nothing but the clock: the process that runs is picked again, and none sleeps
pub record IsTurnBack (s : State) : Type 0 where
  pub place : ℕ
  pub process : Process
  pub runs : running s ≡ Some place
  pub there : process_at s place ≡ Some process
  pub alive : process.killed ≡ false
  pub last : s.last ≡ place
  pub awake : is_anyone_asleep s ≡ false
  pub again : picked_by (next s Tick).state Step ≡ Some place

-- so many timer interrupts that came while a process ran are as many as the bound
abbrev pub IsAtBound : Bounds → ℕ → Type 0
IsAtBound b count = (most : ℕ) × (b.ticks ≡ Some most) × (most ≤ count)

-- the path with a timer interrupt, if it is tried, unless it changes nothing, or nothing that the turn after it leaves
pub record OpensTick (b : Bounds) (keys : List ℕ) (s : State) (old new : List Path) (before after : Missed)
    (path : Path) : Type 0 where
  pub opens : Opens keys s old new path
  pub missed : KeepsMissed before after
  pub opened : Tries b after path.busy (run s (events_of path)).state Tick
      → IsOpened b.spin s new (events_of path ++ Tick ∷ [])
      ⊎ (IsTimeIdle (run s (events_of path)).state ⊎ IsTurnBack (run s (events_of path)).state)

-- it is noted where the time is asked for
pub record NotesTime (s : State) (before after : Missed) : Type 0 where
  pub missed : KeepsMissed before after
  pub quiet : is_ticks_alone after ≡ true → asks_time s Step ≡ false
