-- What a table keeps.
use Rattle.std.specs.Prelude.{Some, length, ℕ, ◌<◌, ◌≡◌}
use Rattle.files.specs.declared.table.Files.TheInside.{Inside}
use Rattle.files.specs.declared.table.Slot.{Slot}
use Rattle.unixmodel.specs.Files.{slot}

pub record IsSound (t : Inside) : Type 0 where
  pub all : length t.slots.items ≡ 100
  -- some descriptor names each open file
  pub named : (i : ℕ) (s : Slot) → slot t.slots.items i ≡ Some s → 0 < s.references
