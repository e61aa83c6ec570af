-- How a run ends, and what it shows.
use Rattle.std.specs.Prelude.{Bool, List, None, Option, Some, [], false, if◌then◌else◌, is_some, true, ℕ, ◌<◌, ◌==◌}
use Rattle.std.specs.Prelude.{◌≡◌, ◌⊎◌}
use Rattle.std.specs.List.{list_any}
use Rattle.orders.specs.Free.{IsFree, is_idle, keys_left}
use Rattle.schedules.specs.Alike.{is_asleep_in}
use Rattle.unixmodel.specs.declared.event.Event.{Event}
use Rattle.unixmodel.specs.Calls.{After}
use Rattle.unixmodel.specs.Files.{Node, links_of, node_bytes, slot}
use Rattle.unixmodel.specs.Process.{Process}
use Rattle.unixmodel.specs.Run.{run}
use Rattle.unixmodel.specs.Shown.{Stat, stat_of}
use Rattle.unixmodel.specs.State.{State, holds}

-- ---- the end

abbrev pub is_asleep : Process → Bool
is_asleep p = is_asleep_in p.mode

-- a process waits in sleep, so time alone can make it ready
abbrev pub is_anyone_asleep : State → Bool
is_anyone_asleep s = list_any (holds is_asleep) s.places

-- nobody is ready, and neither time nor a typed byte can change that
pub record AllWait (keys : List ℕ) (s : State) : Type 0 where
  pub idle : is_idle s ≡ true
  pub awake : is_anyone_asleep s ≡ false
  pub typed : keys ≡ []

-- process 1 has ended, or all wait; keys: what is left to type
abbrev pub IsOver : List ℕ → State → Type 0
IsOver keys s = (is_some s.halted ≡ true) ⊎ AllWait keys s

-- ---- what shows

-- a file, as it is saved
pub record Saved : Type 0 where
  pub stat : Stat
  pub bytes : List ℕ

-- a node that has a name
abbrev pub saved_as : Option Node → Option Saved
saved_as None = None
saved_as (Some node) =
    if links_of node == 0 then None else Some (record { stat = stat_of node; bytes = node_bytes node })

-- a disk has at most that many nodes
abbrev pub node_limit : ℕ
node_limit = 8192

-- the same files have names, and each has the same kind, as many names, and the same bytes
abbrev pub SavesSame : State → State → Type 0
SavesSame s t = (n : ℕ) → n < node_limit → saved_as (slot s.files n) ≡ saved_as (slot t.files n)

-- the same bytes are on the console, process 1 ended with the same status or hasn't ended, and the same files are left
pub record ShowSame (a b : After) : Type 0 where
  pub bytes : a.bytes ≡ b.bytes
  pub status : a.state.halted ≡ b.state.halted
  pub files : SavesSame a.state b.state

-- ---- lists of events

-- they may come, and it is over at their end
pub record IsEnding (keys : List ℕ) (s : State) (es : List Event) : Type 0 where
  pub free : IsFree keys s es
  pub over : IsOver (keys_left keys es) (run s es).state
