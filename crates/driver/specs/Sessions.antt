-- The events of a session: what a machine is given as its keyboard gives keys, nothing or its end.
use Rattle.std.specs.Prelude.{Bool, Err, List, Ok, OnOk, Option, Result, [], false, fold, if◌then◌else◌, length, map}
use Rattle.std.specs.Prelude.{option_map, replicate, suc, true, zero, ℕ, ◌+◌, ◌++◌, ◌∷◌, ◌≡◌, ◌⊎◌}
use Rattle.calls.specs.declared.halt.Halt.{Halt}
use Rattle.driver.specs.Driven.{IsDriven, Printed}
use Rattle.driver.specs.Pacing.{Follows}
use Rattle.driver.specs.declared.terminal.Given.{Given}
use Rattle.driver.specs.declared.terminal.Given.TheVariants.{End, Keys, Nothing}
use Rattle.driver.specs.declared.terminal.Mood.{Mood}
use Rattle.driver.specs.declared.terminal.Mood.TheVariants.{Asleep, Busy, Idle}
use Rattle.events.specs.Paced.{ticks_of}
use Rattle.events.specs.Records.{Kept}
use Rattle.kernel.specs.Idle.{is_anyone_asleep, is_idle}
use Rattle.machine.specs.View.{View}
use Rattle.events.specs.declared.clock.Clock.{Clock}
use Rattle.events.specs.declared.clock.Clock.TheVariants.{Off}
use Rattle.unixmodel.specs.declared.event.Event.{Event}
use Rattle.unixmodel.specs.declared.event.Event.TheVariants.{Key, Step}
use Rattle.unixmodel.specs.Failures.{Rises}
use Rattle.unixmodel.specs.Next.{next}
use Rattle.unixmodel.specs.Run.{run}
use Rattle.unixmodel.specs.State.{State}

-- ---- a quantum

-- how many steps it takes until no process runs and none is ready, and at most `most`
unfoldable pub work : ℕ → State → ℕ
work zero s = 0
work (suc most) s = if is_idle s then 0 else 1 + work most (next s Step).state

abbrev pub steps : ℕ → State → List Event
steps quantum s = replicate (work quantum s) Step

-- ---- what the keyboard gave

abbrev pub mood_of : State → Mood
mood_of s = if is_idle s then (if is_anyone_asleep s then Asleep else Idle) else Busy

abbrev pub keys_of : Given → List ℕ
keys_of (Keys keys) = keys.items
keys_of _ = []

-- a tick follows each quantum, and each moment without a key in which a process sleeps
abbrev pub is_ticked : Mood → Given → Bool
is_ticked Busy (Keys keys) = true
is_ticked Busy Nothing = true
is_ticked Asleep Nothing = true
is_ticked _ _ = false

abbrev pub answered : Mood → Given → List Event
answered mood given = map Key (keys_of given) ++ ticks_of (is_ticked mood given)

abbrev pub is_end : Given → Bool
is_end End = true
is_end _ = false

-- the quantum that follows, but none after the end
abbrev pub steps_after : ℕ → Given → State → List Event
steps_after quantum given s = if is_end given then [] else steps quantum s

-- what comes of the keyboard's answer in a state
abbrev pub moved : ℕ → State → Given → List Event
moved quantum s given =
    let events = answered (mood_of s) given in
    events ++ steps_after quantum given (run s events).state

-- ---- a session

-- the events so far, and what comes of one answer more
abbrev pub goes_on_with : ℕ → State → List Event → Given → List Event
goes_on_with quantum s events given = events ++ moved quantum (run s events).state given

-- the events of a session that begins in this state, at whose keyboard this was given
abbrev pub session : ℕ → State → List Given → List Event
session quantum s gave = fold (goes_on_with quantum s) (steps quantum s) gave

-- a machine was given all these events, up to one at which it halts; just these are recorded, and no clock runs
pub record IsGivenAll (all : List Event) (old new : View) (from to : Printed) (kept keeps : Option Kept)
    (clock : Clock) (result : Result (Unit {0}) Halt) : Type 0 where
  pub driven : IsDriven (Follows all) old new from to kept keeps result
  pub off : OnOk result (clock ≡ Off)

-- a keyboard gave this first
abbrev pub GaveFirst : Option (List Given) → List Given → Option (List Given) → Type 0
GaveFirst gives gave later = gives ≡ option_map (λ rest. gave ++ rest) later

-- why a session ended before the machine halted: the keyboard gave its end, the console's bytes could not be written
-- out, or it was asked as often as a counter goes
abbrev pub Ends : List Given → ℕ → ℕ → Result (Unit {0}) Halt → Type 0
Ends gave failed fails (Ok u) = ((before : List Given) × (gave ≡ before ++ End ∷ []))
    ⊎ (Rises failed fails ⊎ (length gave ≡ 0xffff_ffff_ffff_ffff))
Ends gave failed fails (Err halt) = Unit {0}

-- a session for what a keyboard gave
pub record IsSession (quantum : ℕ) (gives later : Option (List Given)) (old new : View) (from to : Printed)
    (kept keeps : Option Kept) (result : Result (Unit {0}) Halt) : Type 0 where
  pub gave : List Given
  pub first : GaveFirst gives gave later
  pub given : IsDriven (Follows (session quantum old.state gave)) old new from to kept keeps result
  pub ends : Ends gave from.failed to.failed result
