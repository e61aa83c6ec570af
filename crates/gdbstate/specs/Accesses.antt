-- Loads and stores before which a motion ends.
use Rattle.std.specs.Prelude.{Bool, None, Option, Some, false, nat_lt, not, option_and_then, ℕ, ◌&&◌, ◌+◌, ◌==◌, ◌||◌}
use Rattle.next_fault.specs.DataAccesses.{access_shown}
use Rattle.next_fault.specs.declared.accesses.DataAccess.{DataAccess}
use Rattle.gdbstate.specs.declared.accesses.AccessWatch.{AccessWatch}
use Rattle.unixmodel.specs.Shown.{shown_process}
use Rattle.unixmodel.specs.State.{State}

-- a load, or a store where these are meant, of some of the bytes
abbrev pub touches : AccessWatch → Option DataAccess → Bool
touches w None = false
touches w (Some a) =
    (w.stores || not a.is_store) && nat_lt a.address (w.address + w.count) && nat_lt w.address (a.address + a.size)

-- what the next instruction of a process loads or stores
abbrev pub access_of : State → ℕ → Option DataAccess
access_of s pid = option_and_then access_shown (shown_process s pid)

-- the next instruction of the process loads or stores bytes of the watch
abbrev pub access_at : State → ℕ → AccessWatch → Bool
access_at s pid w = (w.pid == pid) && touches w (access_of s pid)
