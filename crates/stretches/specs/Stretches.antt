-- A list of events, spelled by stretches of equal ones.
use Rattle.std.specs.Prelude.{List, drop, length, replicate, take, ℕ, ◌+◌, ◌++◌, ◌<◌, ◌≡◌, ◌≤◌}
use Rattle.std.specs.List.{HoldsAt, flat_map}
use Rattle.stretches.specs.declared.Stretch.{Stretch}
use Rattle.unixmodel.specs.declared.event.Event.{Event}

abbrev pub spelled : List Stretch → List Event
spelled stretches = flat_map (λ (s : Stretch). replicate s.times s.event) stretches

-- a stretch has the count of all events up to its last
abbrev pub IsCounted : List Stretch → ℕ → Type 0
IsCounted stretches i = HoldsAt (λ (s : Stretch). s.end ≡ length (spelled (take (i + 1) stretches))) stretches i

-- so has each, and these are all events
pub record AreCounted (stretches : List Stretch) (count : ℕ) : Type 0 where
  pub all : count ≡ length (spelled stretches)
  pub each : (i : ℕ) → i < length stretches → IsCounted stretches i

-- the event after n others is in this stretch
pub record IsIn (stretches : List Stretch) (at i : ℕ) : Type 0 where
  pub within : i < length stretches
  pub begun : length (spelled (take i stretches)) ≤ at
  pub more : at < length (spelled (take (i + 1) stretches))

-- the event after n others, and how often it comes from there on
pub record IsAhead (events : List Event) (at : ℕ) (ahead : Event × ℕ) : Type 0 where
  pub some : 0 < ahead.1
  pub within : at + ahead.1 ≤ length events
  pub next : drop at events ≡ replicate ahead.1 ahead.0 ++ drop (at + ahead.1) events
