-- What a process holds for itself: its registers, its pc and its pages; and who looks at them.
use Rattle.std.specs.Prelude.{Bool, List, None, Option, Some, [], false, if◌then◌else◌, is_some, length, true, ℕ, ⊤}
use Rattle.std.specs.Prelude.{◌∷◌, ◌≡◌, ◌≢◌}
use Rattle.schedules.specs.Schedules.{ComputesFor, after_steps, computed_for}
use Rattle.unixmodel.specs.declared.event.Event.{Event}
use Rattle.unixmodel.specs.declared.event.Event.TheVariants.{Key, Step, Tick}
use Rattle.unixmodel.specs.declared.process.Mode.{Mode}
use Rattle.unixmodel.specs.declared.process.Mode.TheVariants.{Ready, Running, Waiting, Zombie}
use Rattle.unixmodel.specs.Calls.{After}
use Rattle.unixmodel.specs.Memory.{Memory}
use Rattle.unixmodel.specs.Next.{next}
use Rattle.unixmodel.specs.Process.{Process}
use Rattle.unixmodel.specs.Run.{UnlessHalted, run}
use Rattle.unixmodel.specs.State.{State, change_process, holds, process_at, running}
use Rattle.unixmodel.specs.Turn.{turn}

pub record Held : Type 0 where
  pub registers : List ℕ
  pub pc : ℕ
  pub memory : Memory

abbrev pub held : Process → Held
held p = record { registers = p.registers; pc = p.pc; memory = p.memory }

abbrev pub holding : Held → Process → Process
holding h p = record p { registers = h.registers; pc = h.pc; memory = h.memory }

-- a process that holds something else
abbrev pub reworked : (Held → Held) → Process → Process
reworked change p = holding (change (held p)) p

-- as many pages
abbrev pub KeepsPages : (Held → Held) → Type 0
KeepsPages change = (h : Held) → length (change h).memory ≡ length h.memory

-- ---- who acts

abbrev pub is_waiting_mode : Mode → Bool
is_waiting_mode Running = false
is_waiting_mode Ready = false
is_waiting_mode (Waiting w) = true
is_waiting_mode (Zombie status) = false

abbrev pub is_waiting : Process → Bool
is_waiting p = is_waiting_mode p.mode

abbrev pub acts_in_turn : State → Option ℕ → Option ℕ
acts_in_turn s None = None
acts_in_turn s (Some i) = if holds is_waiting (process_at s i) then Some i else None

abbrev pub acts_in_step : State → Option ℕ → Option ℕ
acts_in_step s None = acts_in_turn s (turn s)
acts_in_step s (Some i) = Some i

-- the slot of the process that acts in an event: it does an instruction, or it waits in a call and goes on with it
unfoldable pub acting : State → Event → Option ℕ
acting s Step = acts_in_step s (running s)
acting s Tick = None
acting s (Key k) = None

-- ---- the law

abbrev pub after_change : ℕ → (Process → Process) → After → After
after_change i change a = record { state = change_process a.state i change; bytes = a.bytes }

-- What a process holds is changed: an event in which it doesn't act prints the same, and leads to the same state, but
-- for that change.
abbrev pub OthersDoNotLook : Type 0
OthersDoNotLook = (s : State) (i : ℕ) (p : Process) (e : Event) (change : Held → Held) → KeepsPages change
    → process_at s i ≡ Some p → acting s e ≢ Some i
    → next (change_process s i (reworked change)) e ≡ after_change i (reworked change) (next s e)

-- in no event of the run, which ends where it halts, the process in slot i acts or is taken away
unfoldable pub NeverActs : ℕ → State → List Event → Type 0
NeverActs i s [] = ⊤
NeverActs i s (e ∷ es) =
    (acting s e ≢ Some i) × (is_some (process_at (next s e).state i) ≡ true)
    × UnlessHalted (next s e).state (λ t. NeverActs i t es) (next s e).state.halted

-- the same for a run
abbrev pub NobodyLooks : Type 0
NobodyLooks = (s : State) (i : ℕ) (p : Process) (events : List Event) (change : Held → Held) → KeepsPages change
    → process_at s i ≡ Some p → NeverActs i s events
    → run (change_process s i (reworked change)) events ≡ after_change i (reworked change) (run s events)

-- ---- an interrupt that comes later

-- An interrupt after n computing steps of a process, and what comes then, until it acts again, is the interrupt before
-- them, with the steps done at the end.
abbrev pub StepsMayWait : Type 0
StepsMayWait = (n : ℕ) (s : State) (i : ℕ) (events : List Event) → running s ≡ Some i → ComputesFor n s
    → NeverActs i (next s Tick).state events
    → run (after_steps n s) (Tick ∷ events) ≡ after_change i (computed_for n) (run s (Tick ∷ events))
