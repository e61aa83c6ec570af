-- What a machine is given.
use Rattle.std.specs.Prelude.{Bool, Err, List, Ok, Option, OnOk, Result, false, true, ℕ, ◌<◌, ◌≤◌, ◌≡◌}
use Rattle.calls.specs.declared.halt.Halt.{Halt}
use Rattle.driver.specs.Pacing.{Follows}
use Rattle.events.specs.Paced.{paced}
use Rattle.driver.specs.Spots.{Spot}
use Rattle.driver.specs.Strides.{IsStill}
use Rattle.driver.specs.Tails.{shown_of}
use Rattle.driver.specs.Wanted.{IsBegun, IsGiven}
use Rattle.driver.specs.declared.wanted.Walked.{Walked}
use Rattle.driver.specs.declared.wanted.Wanted.{Wanted}
use Rattle.events.specs.Records.{Kept, Records}
use Rattle.machine.specs.Gives.{RunGives}
use Rattle.machine.specs.View.{View}
use Rattle.events.specs.Clocks.{passed_by}
use Rattle.events.specs.declared.clock.Clock.{Clock}
use Rattle.events.specs.declared.grammar.Goal.{Goal}
use Rattle.unixmodel.specs.declared.event.Event.{Event}
use Rattle.unixmodel.specs.Failures.{Rises}

-- an output: what it took, where that is known, told as of a writer that had bytes before; and how often it failed
pub record Printed : Type 0 where
  pub contents : Option (List ℕ)
  pub failed : ℕ

-- the events are the machine's run, up to the one at which it halted; just these are recorded
pub record Gives (events : List Event) (old new : View) (from to : Printed) (kept keeps : Option Kept)
    (result : Result (Unit {0}) Halt) : Type 0 where
  pub records : Records kept keeps events
  pub runs : RunGives old new events from.contents to.contents (Rises from.failed to.failed) result
  pub later : from.failed ≤ to.failed

-- what it put out
abbrev pub shown_by : Printed → Option (List ℕ)
shown_by out = shown_of out.contents

-- where a machine is
abbrev pub spot_at : View → Printed → Clock → Spot
spot_at m out clock = record { state = m.state; shown = shown_by out; clock = clock }

abbrev pub no_steps : Walked
no_steps = record { made = 0; is_there = false }

abbrev pub halts : {X : Type 0} → Result X Halt → Result (Unit {0}) Halt
halts (Ok x) = Ok tt
halts (Err halt) = Err halt

-- what was wanted is given, or a beginning of it
abbrev pub IsServed : Wanted → Option Goal → List ℕ → Spot → List Event → Spot → Result Walked Halt → Type 0
IsServed w goal keys s events t (Ok walked) = IsGiven w goal keys s events t walked
IsServed w goal keys s events t (Err why) = IsBegun w goal keys s events

-- a machine was given what was wanted
pub record Serves (w : Wanted) (goal : Option Goal) (keys : List ℕ) (old new : View) (from to : Printed)
    (kept keeps : Option Kept) (before after : Clock) (result : Result Walked Halt) : Type 0 where
  pub events : List Event
  pub gives : Gives events old new from to kept keeps (halts result)
  pub serves : IsServed w goal keys (spot_at old from before) events (spot_at new to after) result

-- a machine was given the events that a source wanted
pub record IsDriven (Wants : Result (Unit {0}) Halt → List Event → Type 0) (old new : View) (from to : Printed)
    (kept keeps : Option Kept) (result : Result (Unit {0}) Halt) : Type 0 where
  pub events : List Event
  pub wanted : Wants result events
  pub gives : Gives events old new from to kept keeps result

-- a machine was given `count` steps, with the ticks of the clock; where it halts, a beginning
pub record Goes (aims : Bool) (most : ℕ) (old new : View) (from to : Printed) (kept keeps : Option Kept)
    (before after : Clock) (count : ℕ) (result : Result (Unit {0}) Halt) : Type 0 where
  pub events : List Event
  pub gives : Gives events old new from to kept keeps result
  pub follows : Follows (paced count before) result events
  pub some : 0 < count
  pub within : count ≤ most
  -- for a source that waits for something
  pub still : aims ≡ true → IsStill old.state before count
  pub clock : OnOk result (after ≡ passed_by count before)
