-- What a table keeps.
use Rattle.std.specs.Prelude.{length, ◌<◌, ◌≡◌, ◌≤◌}
use Rattle.proc.specs.declared.table.Table.TheInside.{Inside}
use Rattle.proc.specs.Waits.{AreWithin}

pub record IsSound (t : Inside) : Type 0 where
  pub all : length t.places.items ≡ 64
  pub last : t.last < 64
  pub pids : t.next_pid ≤ 2147483648
  pub waiting : AreWithin t.places.items t.waiting
