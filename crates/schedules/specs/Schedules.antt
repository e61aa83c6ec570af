-- Where timer interrupts come among the steps of a process, and what of it others can see.
-- Processes share no memory, so what one computes between two calls is its own.
use Rattle.std.specs.Prelude.{Bool, Err, None, Ok, Option, Some, false, suc, true, zero, ℕ, ◌<◌, ◌≡◌}
use Rattle.unixmodel.specs.declared.event.Event.TheVariants.{Step, Tick}
use Rattle.unixmodel.specs.Calls.{quiet}
use Rattle.unixmodel.specs.Meaning.{Effect}
use Rattle.unixmodel.specs.Next.{effect_of, next, process_after}
use Rattle.unixmodel.specs.Process.{Process}
use Rattle.unixmodel.specs.State.{State, change_process, process_at, running}

-- an instruction is done: it is no call, and does not fault
abbrev pub is_done : Effect → Bool
is_done (Ok d) = true
is_done (Err t) = false

abbrev pub computes_as : Option Process → Bool
computes_as None = false
computes_as (Some p) = is_done (effect_of p)

abbrev pub computes_in : State → Option ℕ → Bool
computes_in s None = false
computes_in s (Some i) = computes_as (process_at s i)

-- a process runs, and its next instruction is done
unfoldable pub computes : State → Bool
computes s = computes_in s (running s)

abbrev pub done_by : Process → Effect → Process
done_by p (Ok d) = process_after p d
done_by p (Err t) = p

-- what an instruction makes of its own process
unfoldable pub computed : Process → Process
computed p = done_by p (effect_of p)

-- a step that computes changes the process that runs and nothing else, and prints nothing
abbrev pub StepIsPrivate : Type 0
StepIsPrivate = (s : State) (i : ℕ) → running s ≡ Some i → computes s ≡ true
    → next s Step ≡ quiet (change_process s i computed)

-- an interrupt after such a step is an interrupt before it, with the same done to the process that ran
abbrev pub TickPasses : Type 0
TickPasses = (s : State) (i : ℕ) → running s ≡ Some i → computes s ≡ true
    → next (next s Step).state Tick ≡ quiet (change_process (next s Tick).state i computed)

-- ---- many steps

unfoldable pub after_steps : ℕ → State → State
after_steps zero s = s
after_steps (suc n) s = after_steps n (next s Step).state

-- n instructions
unfoldable pub computed_for : ℕ → Process → Process
computed_for zero p = p
computed_for (suc n) p = computed_for n (computed p)

-- each of n steps computes
abbrev pub ComputesFor : ℕ → State → Type 0
ComputesFor n s = (k : ℕ) → k < n → computes (after_steps k s) ≡ true

-- an interrupt after n steps that compute is an interrupt before the first of them
abbrev pub TickPassesAll : Type 0
TickPassesAll = (n : ℕ) (s : State) (i : ℕ) → running s ≡ Some i → ComputesFor n s
    → next (after_steps n s) Tick ≡ quiet (change_process (next s Tick).state i (computed_for n))
