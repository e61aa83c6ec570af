-- The events that a source wants.
use Rattle.std.specs.Prelude.{Err, List, Ok, Option, Result, [], map, replicate, ℕ, ◌++◌, ◌∷◌, ◌≡◌}
use Rattle.calls.specs.declared.halt.Halt.{Halt}
use Rattle.events.specs.Paced.{Begins, paced}
use Rattle.driver.specs.Spots.{Leads, Spot}
use Rattle.driver.specs.Walks.{IsWait, IsWaiting}
use Rattle.driver.specs.declared.wanted.Walked.{Walked}
use Rattle.driver.specs.declared.wanted.Wanted.{Wanted}
use Rattle.driver.specs.declared.wanted.Wanted.TheVariants.{End, Keys, Line, Nothing, Set, Steps, Ticks, WriteOut}
use Rattle.events.specs.Clocks.{passed_by}
use Rattle.events.specs.declared.grammar.Goal.{Goal}
use Rattle.unixmodel.specs.declared.event.Event.{Event}
use Rattle.unixmodel.specs.declared.event.Event.TheVariants.{Key, Tick}

-- a typed line ends with the key 0x0a
abbrev pub line_keys : List ℕ → List Event
line_keys keys = map Key keys ++ map Key (10 ∷ [])

-- these events, after which the clock is the same
abbrev pub Just : List Event → Spot → List Event → Spot → Type 0
Just all s events t = (events ≡ all) × (t.clock ≡ s.clock)

-- what is wanted at `s`, by a source that aims at this goal and has these keys; then the machine is at `t`, and
-- `walked` came of the steps
abbrev pub IsGiven : Wanted → Option Goal → List ℕ → Spot → List Event → Spot → Walked → Type 0
IsGiven (Steps most) goal keys s events t walked = IsWait goal s most walked × (events ≡ paced walked.made s.clock)
    × (t.clock ≡ passed_by walked.made s.clock)
IsGiven (Ticks n) goal keys s events t walked = Just (replicate n Tick) s events t
IsGiven Keys goal keys s events t walked = Just (map Key keys) s events t
IsGiven Line goal keys s events t walked = Just (line_keys keys) s events t
IsGiven (Set c) goal keys s events t walked = (events ≡ []) × (t.clock ≡ c)
IsGiven WriteOut goal keys s events t walked = Just [] s events t
IsGiven Nothing goal keys s events t walked = Just [] s events t
IsGiven End goal keys s events t walked = ⊥

-- a beginning of it
abbrev pub IsBegun : Wanted → Option Goal → List ℕ → Spot → List Event → Type 0
IsBegun (Steps most) goal keys s events = IsWaiting goal s most events
IsBegun (Ticks n) goal keys s events = Begins events (replicate n Tick)
IsBegun Keys goal keys s events = Begins events (map Key keys)
IsBegun Line goal keys s events = Begins events (line_keys keys)
IsBegun _ goal keys s events = ⊥

-- a source was asked at `s`: the events that it wanted from there on are those of what it wants now, and those that it
-- wants afterwards, up to what it is at last; where the machine halts, a beginning; none at its end
pub record Asks {S : Type 0} (wants : S → Walked → Spot → S → Result (Unit {0}) Halt → List Event → Type 0)
    (goal : Option Goal) (keys : List ℕ) (old new : S) (before : Walked) (s : Spot) (w : Wanted) : Type 0 where
  pub goes : (events more : List Event) (t : Spot) (walked : Walked) (last : S) (r : Result (Unit {0}) Halt)
      → IsGiven w goal keys s events t walked → Leads s events t → wants new walked t last r more
      → wants old before s last r (events ++ more)
  pub halts : (events : List Event) (why : Halt) → IsBegun w goal keys s events
      → wants old before s new (Err why) events
  pub ends : w ≡ End → wants old before s new (Ok tt) []
