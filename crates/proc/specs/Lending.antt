-- The table after a mutable reference to the process in a slot was returned.
use Rattle.std.specs.Prelude.{Option, ℕ}
use Rattle.std.specs.Borrow.{Fml, LendsIf, MutBor}
use Rattle.proc.specs.Places.{Places}
use Rattle.proc.specs.contracts.process.Process.{the_row as process_row}
use Rattle.proc.specs.contracts.table.Table.{the_row as table_row}
use Rattle.proc.specs.declared.process.Process.{Process}
use Rattle.unixmodel.specs.Files.{put}

-- the slot has the last value written through r, and at `None` the table stays as it is
abbrev pub LendsProcess : MutBor Places → ℕ → Option (MutBor Process) → Fml
LendsProcess t i r = LendsIf table_row process_row t r (λ p. record t.now { places = put t.now.places i p }) t.now
