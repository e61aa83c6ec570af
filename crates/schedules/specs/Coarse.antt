-- Lists of events whose timer interrupts come before calls and faults, and what shows of a run.
use Rattle.std.specs.Prelude.{List, None, Option, Some, [], false, map, option_map, true, ℕ, ℤ, ⊤, ◌∷◌, ◌≡◌, ◌⊎◌}
use Rattle.schedules.specs.Holding.{Held, holding}
use Rattle.schedules.specs.Schedules.{ComputesFor, after_steps, computes}
use Rattle.unixmodel.specs.declared.event.Event.{Event}
use Rattle.unixmodel.specs.declared.event.Event.TheVariants.{Key, Step, Tick}
use Rattle.unixmodel.specs.Calls.{After}
use Rattle.unixmodel.specs.Next.{next}
use Rattle.unixmodel.specs.Run.{UnlessHalted, run}
use Rattle.unixmodel.specs.State.{State}

-- the interrupts of a list of events, in order: those of the timer, and typed bytes
unfoldable pub interrupts : List Event → List Event
interrupts [] = []
interrupts (Step ∷ es) = interrupts es
interrupts (Tick ∷ es) = Tick ∷ interrupts es
interrupts (Key b ∷ es) = Key b ∷ interrupts es

-- ---- where timer interrupts come

-- the process that runs comes to a call or a fault
pub record ComesToCall (s : State) : Type 0 where
  pub steps : ℕ
  pub all : ComputesFor steps s
  pub stops : computes (after_steps steps s) ≡ false

-- A timer interrupt comes where no process runs, before a call or a fault, or in a process that goes on endlessly.
abbrev pub IsPlaced : (State → Type 0) → State → Event → Type 0
IsPlaced Endless s Step = ⊤
IsPlaced Endless s Tick = (computes s ≡ false) ⊎ Endless s
IsPlaced Endless s (Key b) = ⊤

-- each of a run, which ends where it halts
unfoldable pub IsCoarse : (State → Type 0) → State → List Event → Type 0
IsCoarse Endless s [] = ⊤
IsCoarse Endless s (e ∷ es) =
    IsPlaced Endless s e
    × UnlessHalted (next s e).state (λ t. IsCoarse Endless t es) (next s e).state.halted

-- ---- what shows

abbrev pub nothing : Held
nothing = record { registers = []; pc = 0; memory = [] }

-- all of a state, except what processes hold: files, pipes, console, clock, and of each process the rest
unfoldable pub shown : State → State
shown s = record s { places = map (option_map (holding nothing)) s.places }

-- the same bytes are printed, and the same shows at the end
pub record ShowsSame (a b : After) : Type 0 where
  pub bytes : a.bytes ≡ b.bytes
  pub state : shown a.state ≡ shown b.state

-- ---- what interrupts meet

-- an interrupt, and what shows of the state that it comes to
pub record Interruption : Type 0 where
  pub event : Event
  pub meets : State

abbrev pub with_interrupt : State → Event → List Interruption → List Interruption
with_interrupt s Step later = later
with_interrupt s Tick later = record { event = Tick; meets = shown s } ∷ later
with_interrupt s (Key b) later = record { event = Key b; meets = shown s } ∷ later

abbrev pub none_if_halted : Option ℤ → List Interruption → List Interruption
none_if_halted (Some status) later = []
none_if_halted None later = later

-- those of a run, which ends where it halts, in order
unfoldable pub interruptions : State → List Event → List Interruption
interruptions s [] = []
interruptions s (e ∷ es) =
    with_interrupt s e (none_if_halted (next s e).state.halted (interruptions (next s e).state es))

-- ---- the law

-- a list with the same interrupts, its timer interrupts before calls and faults, by which the same shows: to each
-- interrupt, and at the end
pub record Reduced (Endless : State → Type 0) (s : State) (events : List Event) : Type 0 where
  pub coarse : List Event
  pub placed : IsCoarse Endless s coarse
  pub same : interrupts coarse ≡ interrupts events
  pub meet : interruptions s coarse ≡ interruptions s events
  pub shows : ShowsSame (run s coarse) (run s events)

-- it never comes to one
abbrev pub RunsOn : State → Type 0
RunsOn s = (n : ℕ) → computes (after_steps n s) ≡ true

-- For each list of events there is one, where each process either comes to a call or a fault or never does.
abbrev pub InterruptsBeforeCallsSuffice : Type 0
InterruptsBeforeCallsSuffice = ((s : State) → ComesToCall s ⊎ RunsOn s)
    → (s : State) (events : List Event) → s.halted ≡ None → Reduced RunsOn s events

-- However far one looks for the call: a process that computes for that many steps more counts as endless.
abbrev pub InterruptsWithinSuffice : Type 0
InterruptsWithinSuffice = (limit : ℕ) (s : State) (events : List Event) → s.halted ≡ None
    → Reduced (ComputesFor limit) s events
