-- Timer interrupts that a search may leave out: those beyond a bound, and late ones.
use Rattle.std.specs.Prelude.{Bool, List, None, Option, Some, [], false, if◌then◌else◌, is_none, is_some, not, true, ℕ}
use Rattle.std.specs.Prelude.{ℤ}
use Rattle.std.specs.Prelude.{⊤, ◌&&◌, ◌+◌, ◌∷◌, ◌≡◌, ◌≤◌}
use Rattle.std.specs.List.{list_any}
use Rattle.orders.specs.declared.bounds.Bounds.{Bounds}
use Rattle.orders.specs.declared.bounds.Missed.{Missed}
use Rattle.orders.specs.Ends.{is_anyone_asleep}
use Rattle.schedules.specs.Alike.{is_sleep}
use Rattle.unixmodel.specs.declared.event.Event.{Event}
use Rattle.unixmodel.specs.declared.event.Event.TheVariants.{Key, Step, Tick}
use Rattle.unixmodel.specs.declared.process.Mode.{Mode}
use Rattle.unixmodel.specs.declared.process.Mode.TheVariants.{Ready, Running, Waiting, Zombie}
use Rattle.unixmodel.specs.Next.{next}
use Rattle.unixmodel.specs.Process.{Process}
use Rattle.unixmodel.specs.ProcessCalls.{has_slept}
use Rattle.unixmodel.specs.Run.{UnlessHalted}
use Rattle.unixmodel.specs.State.{State, holds, running}

-- ---- how many interrupt a process

abbrev pub busy_in : State → Event → ℕ
busy_in s Step = 0
busy_in s Tick = if is_some (running s) then 1 else 0
busy_in s (Key b) = 0

abbrev pub zero_if_halted : Option ℤ → ℕ → ℕ
zero_if_halted (Some status) later = 0
zero_if_halted None later = later

-- how many timer interrupts of a run, which ends where it halts, come while a process runs
unfoldable pub busy_ticks : State → List Event → ℕ
busy_ticks s [] = 0
busy_ticks s (e ∷ es) = busy_in s e + zero_if_halted (next s e).state.halted (busy_ticks (next s e).state es)

-- ---- late ones

-- a process waits in a sleep that isn't over
abbrev pub sleeps_on_in : State → Mode → Bool
sleeps_on_in s Running = false
sleeps_on_in s Ready = false
sleeps_on_in s (Waiting w) = is_sleep w.number && not (has_slept s w)
sleeps_on_in s (Zombie status) = false

abbrev pub sleeps_on : State → Process → Bool
sleeps_on s p = sleeps_on_in s p.mode

abbrev pub is_time_awaited : State → Bool
is_time_awaited s = list_any (holds (sleeps_on s)) s.places

-- no process runs, some sleep, and all of these sleeps are over
abbrev pub is_late : State → Bool
is_late s = is_none (running s) && (is_anyone_asleep s && not (is_time_awaited s))

abbrev pub IsPromptIn : State → Event → Type 0
IsPromptIn s Step = ⊤
IsPromptIn s Tick = is_late s ≡ false
IsPromptIn s (Key b) = ⊤

-- no timer interrupt of a run is late
unfoldable pub IsPrompt : State → List Event → Type 0
IsPrompt s [] = ⊤
IsPrompt s (e ∷ es) = IsPromptIn s e × UnlessHalted (next s e).state (λ t. IsPrompt t es) (next s e).state.halted

-- ---- what was tried

-- If timer interrupts beyond the bound were left out, no more come while a process runs; if late ones were left out,
-- none is late.
pub record IsTried (b : Bounds) (m : Missed) (s : State) (es : List Event) : Type 0 where
  pub few : m.ticks ≡ true → (most : ℕ) → b.ticks ≡ Some most → busy_ticks s es ≤ most
  pub prompt : m.late ≡ true → IsPrompt s es
