-- What a search tells: outcomes, each with the events that lead to it; and what it means that these are all.
use Rattle.std.specs.Prelude.{List, [], false, suc, zero, ℕ, ⊤, ◌+◌, ◌<◌, ◌^◌, ◌∷◌, ◌≡◌, ◌⊎◌}
use Rattle.orders.specs.declared.bounds.Bounds.{Bounds}
use Rattle.orders.specs.declared.bounds.Missed.{Missed}
use Rattle.orders.specs.declared.told.Outcome.{Outcome}
use Rattle.lateness.specs.Late.{ticks_in}
use Rattle.orders.specs.Ends.{IsEnding, ShowSame, is_anyone_asleep}
use Rattle.orders.specs.Paths.{events_of}
use Rattle.orders.specs.Tried.{IsTried}
use Rattle.unixmodel.specs.declared.event.Event.{Event}
use Rattle.unixmodel.specs.Calls.{After}
use Rattle.unixmodel.specs.Run.{run}
use Rattle.unixmodel.specs.State.{State}

-- one of a list
abbrev pub One : {X : Type 0} → (X → Type 0) → List X → Type 0
One P [] = ⊥
One P (x ∷ xs) = P x ⊎ One P xs

-- each of a list
abbrev pub Each : {X : Type 0} → (X → Type 0) → List X → Type 0
Each P [] = ⊤
Each P (x ∷ xs) = P x × Each P xs

-- ---- how many runs ended so

abbrev pub run_more : Outcome → Outcome
run_more o = record o { runs = o.runs + 1 }

-- one more run ended with the outcome of this number
abbrev pub runs_more : List Outcome → ℕ → List Outcome
runs_more [] n = []
runs_more (o ∷ told) zero = run_more o ∷ told
runs_more (o ∷ told) (suc n) = o ∷ runs_more told n

-- how many runs ended
abbrev pub runs_in : List Outcome → ℕ
runs_in [] = 0
runs_in (o ∷ told) = o.runs + runs_in told

-- ---- soundness

-- the outcome's events may come, at their end it is over, and process 1 has ended with this status or not; it was seen
pub record IsSound (keys : List ℕ) (s : State) (o : Outcome) : Type 0 where
  pub ending : IsEnding keys s (events_of o.path)
  pub status : (run s (events_of o.path)).state.halted ≡ o.status
  pub runs : 0 < o.runs

-- ---- completeness

-- the events of one of the outcomes show the same
abbrev pub IsTold : State → List Outcome → After → Type 0
IsTold s told a = One (λ (o : Outcome). ShowSame a (run s (events_of o.path))) told

-- Whatever timer interrupts come, and wherever: a run over events that may come, at whose end process 1 has ended or
-- all wait, shows what one of the outcomes shows.
abbrev pub IsComplete : List ℕ → State → List Outcome → Type 0
IsComplete keys s told = (es : List Event) → IsEnding keys s es → IsTold s told (run s es)

-- the same, if only those timer interrupts come that were tried
abbrev pub IsCompleteAsTried : Bounds → Missed → List ℕ → State → List Outcome → Type 0
IsCompleteAsTried b m keys s told =
    (es : List Event) → IsEnding keys s es → IsTried b m s es → IsTold s told (run s es)

-- The same, if late ones come too, where no process sleeps at the beginning, and fewer than 2^32 timer interrupts come:
-- how long a sleep has lasted is counted modulo 2^32.
abbrev pub IsCompleteIfShort : List ℕ → State → List Outcome → Type 0
IsCompleteIfShort keys s told = is_anyone_asleep s ≡ false
    → (es : List Event) → IsEnding keys s es → ticks_in es < 2 ^ 32 → IsTold s told (run s es)
