-- A table of processes in order: who has which pid, who may run, and what descriptors name.
use Rattle.std.specs.Prelude.{List, Some, true, ℕ, ◌<◌, ◌≡◌}
use Rattle.renumbering.specs.Renumbered.{NamesAreThere}
use Rattle.unixmodel.specs.declared.event.Event.{Event}
use Rattle.unixmodel.specs.Files.{Files}
use Rattle.unixmodel.specs.Process.{Process, is_running}
use Rattle.unixmodel.specs.Run.{run}
use Rattle.unixmodel.specs.Start.{start, start_flat}
use Rattle.unixmodel.specs.State.{State, process_at}

-- no two processes have one pid, each pid is below the next one, and none runs but in the slot that was picked last
pub record IsTableTidy (s : State) : Type 0 where
  pub apart : (i j : ℕ) (p q : Process) → process_at s i ≡ Some p → process_at s j ≡ Some q → p.pid ≡ q.pid → i ≡ j
  pub below : (i : ℕ) (p : Process) → process_at s i ≡ Some p → p.pid < s.next_pid
  pub runner : (i : ℕ) (p : Process) → process_at s i ≡ Some p → is_running p ≡ true → i ≡ s.last

-- and each descriptor names an open file that is there, and each open file on a pipe one that is there
pub record IsTidy (s : State) : Type 0 where
  pub table : IsTableTidy s
  pub names : NamesAreThere s

-- so it is at each start, and after each run
pub record StaysTidy : Type 0 where
  pub starts : (files : Files) (blocks frames : ℕ) (s : State) → start files blocks frames ≡ Some s → IsTidy s
  pub starts_flat : (bytes : List ℕ) (frames : ℕ) (s : State) → start_flat bytes frames ≡ Some s → IsTidy s
  pub stays : (s : State) (events : List Event) → IsTidy s → IsTidy (run s events).state
