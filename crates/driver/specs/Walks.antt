-- Steps that wait for something.
use Rattle.std.specs.Prelude.{List, Option, ℕ, ◌<◌, ◌≡◌, ◌≤◌, ◌⊎◌}
use Rattle.std.specs.Io.KnownBytes.{append_known}
use Rattle.driver.specs.Goals.{GoesOn, IsFound, IsOver}
use Rattle.events.specs.Paced.{Begins, paced}
use Rattle.driver.specs.Spots.{Spot}
use Rattle.driver.specs.declared.wanted.Walked.{Walked}
use Rattle.events.specs.declared.grammar.Goal.{Goal}
use Rattle.unixmodel.specs.Calls.{After}
use Rattle.unixmodel.specs.declared.event.Event.{Event}
use Rattle.unixmodel.specs.Run.{run}
use Rattle.unixmodel.specs.State.{State}

-- what n steps from there on make, with the ticks of the clock
abbrev pub walked_to : Spot → ℕ → After
walked_to s n = run s.state (paced n s.clock)

-- it holds after n steps
abbrev pub At : Spot → ℕ → (State → Option (List ℕ) → Type 0) → Type 0
At s n Holds = Holds (walked_to s n).state (append_known s.shown (walked_to s n).bytes)

-- the least number of steps, at most `most`, after which a wait is over
pub record IsWait (goal : Option Goal) (s : Spot) (most : ℕ) (w : Walked) : Type 0 where
  pub within : w.made ≤ most
  pub least : (n : ℕ) → n < w.made → At s n (GoesOn goal s.clock)
  pub over : (w.made ≡ most) ⊎ At s w.made (IsOver goal s.clock)
  pub found : At s w.made (IsFound goal w.is_there)

-- the events of a beginning of a wait, which isn't over before its last step
pub record IsWaiting (goal : Option Goal) (s : Spot) (most : ℕ) (events : List Event) : Type 0 where
  pub made : ℕ
  pub within : made ≤ most
  pub least : (n : ℕ) → n < made → At s n (GoesOn goal s.clock)
  pub begins : Begins events (paced made s.clock)
