-- How a machine goes along events.
use Rattle.std.specs.Prelude.{Err, List, None, Ok, Option, Result, Some, [], false, option_map, slice_index, ℕ, ℤ}
use Rattle.std.specs.Prelude.{◌++◌, ◌≡◌}
use Rattle.calls.specs.declared.halt.Halt.{Halt}
use Rattle.calls.specs.declared.halt.Halt.TheVariants.{Console, Device, Halted, InitEnded}
use Rattle.kernel.specs.Idle.{picked_pid, running_pid}
use Rattle.orders.specs.declared.bounds.Trouble.{Trouble}
use Rattle.orders.specs.declared.bounds.Trouble.TheVariants as trouble
use Rattle.machine.specs.declared.seen.ProcessState.TheVariants.{Running}
use Rattle.machine.specs.declared.seen.Seen.{Seen}
use Rattle.machine.specs.Seen.{seen_of}
use Rattle.machine.specs.View.{View}
use Rattle.orders.specs.declared.paths.Path.{Path}
use Rattle.orders.specs.Paths.{events_of, steps}
use Rattle.unixmodel.specs.declared.event.Event.{Event}
use Rattle.unixmodel.specs.declared.event.Event.TheVariants.{Tick}
use Rattle.unixmodel.specs.Next.{next}
use Rattle.unixmodel.specs.Numbers.{low}
use Rattle.unixmodel.specs.Run.{run}
use Rattle.unixmodel.specs.Shown.{shown_process}
use Rattle.unixmodel.specs.State.{State}

-- what the abstract Unix makes of the events, it has come to and printed, and this is how process 1 ended
pub record GoesBy (es : List Event) (old new : View) (before after : List ℕ) (status : Option ℤ) : Type 0 where
  pub goes : old.state.halted ≡ None
  pub state : new.state ≡ (run old.state es).state
  pub sound : new.failed ≡ false
  pub printed : after ≡ before ++ (run old.state es).bytes
  pub ends : new.state.halted ≡ status

-- a machine that goes on, and what it printed, are what the events of a path lead to
abbrev pub IsAt : View → View → List ℕ → Path → Type 0
IsAt first at printed path = GoesBy (events_of path) first at [] printed None

-- this many steps more lead from the end of a path, which is known, to that of another one
pub record LeadsOn (path : Option Path) (further : Path) (more : ℕ) : Type 0 where
  pub from : Path
  pub known : path ≡ Some from
  pub events : events_of further ≡ events_of from ++ steps more

-- how process 1 ended, if it did; the machine failed
abbrev pub status_from : Result (Unit {0}) Halt → Result (Option ℤ) Trouble
status_from (Ok u) = Ok None
status_from (Err (InitEnded status)) = Ok (Some status)
status_from (Err Console) = Err trouble.Machine
status_from (Err Device) = Err trouble.Machine
status_from (Err Halted) = Err trouble.Machine

-- a process runs, and the number of its call, if its next instruction is one, isn't that of uptime
pub record IsNoUptime (seen : Seen) : Type 0 where
  pub runs : seen.state ≡ Running
  pub other : low (slice_index seen.registers 17) ≡ 14 → ⊥

-- a process runs that isn't killed, and after a timer interrupt a turn would pick the one with its pid
pub record IsPickedAgain (s : State) : Type 0 where
  pub pid : ℕ
  pub runs : running_pid s ≡ Some pid
  pub picked : picked_pid (next s Tick).state ≡ Some pid
  pub seen : Seen
  pub shown : option_map seen_of (shown_process s pid) ≡ Some seen
  pub alive : seen.killed ≡ false
