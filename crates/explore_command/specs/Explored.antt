-- What an exploration found.
use Rattle.std.specs.Prelude.{Bool, List, Some, false, if◌then◌else◌, length, true, ℕ, ◌≡◌, ◌≤◌}
use Rattle.commandline.specs.declared.jobs.Explore.{Explore}
use Rattle.commandline.specs.declared.jobs.Reach.{Reach}
use Rattle.explore_command.specs.declared.exploring.Report.{Report}
use Rattle.explore_command.specs.declared.search.Searched.{Searched}
use Rattle.explore_command.specs.declared.verdict.Verdict.{Verdict}
use Rattle.machine.specs.Booted.{IsAccepted, start_from}
use Rattle.orders.specs.Ends.{is_anyone_asleep}
use Rattle.orders.specs.Missed.{is_late_alone, is_nothing, is_ticks_alone}
use Rattle.orders.specs.Told.{Each, IsComplete, IsCompleteAsTried, IsCompleteIfShort, IsSound}
use Rattle.orders.specs.declared.bounds.Bounds.{Bounds}
use Rattle.unixmodel.specs.Files.{Files}
use Rattle.unixmodel.specs.State.{State}

-- the steps in which a process is to come to a call or a fault
abbrev pub spin_of : Bool → ℕ
spin_of fine = if fine then 0 else 1000000

abbrev pub bounds_of : Reach → Bounds
bounds_of reach = record { ticks = reach.ticks; states = reach.states; spin = spin_of reach.fine }

-- a machine that boots from an image begins with this state, in which no process sleeps
pub record IsBegun (image : List ℕ) (frames : ℕ) (s : State) : Type 0 where
  pub files : Files
  pub accepted : IsAccepted image files
  pub starts : start_from image files frames ≡ Some s
  pub awake : is_anyone_asleep s ≡ false

-- From a state, with these bytes typed: each outcome is what its events lead to. Where nothing was left out these are
-- all, and where only timer interrupts were left out they are all of the runs without those. Where only late ones were,
-- and no process sleeps at the beginning, they are all of the runs with fewer than 2^32 timer interrupts.
pub record IsSearched (keys : List ℕ) (b : Bounds) (s : State) (searched : Searched) : Type 0 where
  pub sound : Each (IsSound keys s) searched.outcomes.items
  pub complete : is_nothing searched.missed ≡ true → IsComplete keys s searched.outcomes.items
  pub tried : is_ticks_alone searched.missed ≡ true
      → IsCompleteAsTried b searched.missed keys s searched.outcomes.items
  pub short : is_late_alone searched.missed ≡ true → IsCompleteIfShort keys s searched.outcomes.items

-- so it is from the state with which a machine boots from an image, within the bounds of the words
pub record IsExplored (image keys : List ℕ) (words : Explore) (found : Searched) : Type 0 where
  pub start : State
  pub begun : IsBegun image words.frames start
  pub searched : IsSearched keys (bounds_of words.reach) start found

-- it says that nothing was left out only where nothing but late timer interrupts was, and leaves out no outcome
pub record IsVerdictOf (report : Report) (verdict : Verdict) : Type 0 where
  pub whole : verdict.is_whole ≡ true → is_late_alone report.searched.missed ≡ true
  pub outcomes : length report.searched.outcomes.items ≤ verdict.outcomes
