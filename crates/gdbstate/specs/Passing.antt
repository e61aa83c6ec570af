-- Where a motion goes by: what is looked at where the process that runs does instructions.
use Rattle.std.specs.Prelude.{Bool, None, Option, Some, [], false, option_map, true, ℕ, ◌||◌, ◌≡◌, ◌⊎◌}
use Rattle.std.specs.List.{list_any}
use Rattle.gdbstate.specs.declared.reasons.Reasons.{Reasons}
use Rattle.gdbstate.specs.Stops.{has_access, has_break, is_stepped}
use Rattle.gdbstate.specs.Watches.{near_watch}
use Rattle.kernel.specs.Idle.{running_pid}
use Rattle.machine.specs.declared.seen.Seen.{Seen}
use Rattle.machine.specs.Seen.{seen_of}
use Rattle.unixmodel.specs.Shown.{shown_process}
use Rattle.unixmodel.specs.State.{State}

-- ---- who runs changes its own bytes alone

-- watched bytes are of the process that runs, or others than they were
abbrev pub has_near : Reasons → State → Bool
has_near r s = list_any (near_watch s (running_pid s)) r.watched.items

-- ---- where an instruction is done, no call and no fault ends a motion

abbrev pub stops_within : Reasons → State → Seen → Bool
stops_within r s seen =
    has_break r seen.pid seen.pc || is_stepped r.stepping seen.pid seen.pc || has_access r s seen.pid

abbrev pub stops_within_seen : Reasons → State → Option Seen → Bool
stops_within_seen r s None = true
stops_within_seen r s (Some seen) = stops_within r s seen

abbrev pub stops_within_pid : Reasons → State → Option ℕ → Bool
stops_within_pid r s None = true
stops_within_pid r s (Some pid) = stops_within_seen r s (option_map seen_of (shown_process s pid))

-- no break, no step and no load or store ends a motion
pub record IsBare (r : Reasons) : Type 0 where
  pub addresses : r.addresses.items ≡ []
  pub stepping : r.stepping ≡ None
  pub accesses : r.accesses.items ≡ []

-- or none does where the process that runs is
abbrev pub PassesWhoRuns : Reasons → State → Type 0
PassesWhoRuns r s = IsBare r ⊎ (stops_within_pid r s (running_pid s) ≡ false)
