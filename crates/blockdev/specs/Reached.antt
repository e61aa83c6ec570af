-- What holds of a device that is what another one became.
use Rattle.std.specs.Prelude.{List, ℕ, ◌≡◌, ◌≤◌}
use Rattle.unixmodel.specs.Failures.{Rises}

-- the new device has the numbers of the old one, and no failure is forgotten; that accesses lead from the one to the
-- other is not said
pub record Reaches {D : Type 0} (identity : D → List ℕ) (failures : D → ℕ) (old new : D) : Type 0 where
  pub same_device : identity new ≡ identity old
  pub later : failures old ≤ failures new

-- the same, and the count of failures rose
pub record Fails {D : Type 0} (identity : D → List ℕ) (failures : D → ℕ) (old new : D) : Type 0 where
  pub reaches : Reaches identity failures old new
  pub rises : Rises (failures old) (failures new)
