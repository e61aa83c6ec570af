-- The process that a turn picked is taken.
use Rattle.std.specs.Prelude.{None, Option, Some, ℕ}
use Rattle.unixmodel.specs.Calls.{After, quiet}
use Rattle.unixmodel.specs.Next as next
use Rattle.unixmodel.specs.Process as unix
use Rattle.unixmodel.specs.State.{State, process_at}

abbrev pub taken_by : State → ℕ → Option unix.Process → After
taken_by s i None = quiet s
taken_by s i (Some p) = next.picked s i p

-- the process in a slot, which was picked, ends, runs or goes on with its pending call
abbrev pub taken : State → ℕ → After
taken s i = taken_by s i (process_at s i)
