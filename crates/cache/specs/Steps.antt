-- What a step on a disk comes to.
use Rattle.std.specs.Prelude.{IfOk, IsErr, List, Result, length, ℕ, ◌≡◌, ◌≤◌}
use Rattle.blockdev.specs.declared.DeviceFault.{DeviceFault}
use Rattle.cache.specs.Disk.{Disk}
use Rattle.unixmodel.specs.Failures.{Rises}

-- the disk has as many blocks as before, and the same device
pub record Goes {D : Type 0} (identity : D → List ℕ) (old new : Disk D) : Type 0 where
  pub count : length new.blocks ≡ length old.blocks
  pub same_device : identity new.device ≡ identity old.device
  pub later : old.failures ≤ new.failures

-- so does a disk on which a step is tried
-- it is done, or a fault is returned, and that only where the device counts a failure
pub record Steps {D T : Type 0} (identity : D → List ℕ) (old new : Disk D) (result : Result T DeviceFault)
    (Done : T → Type 0) : Type 0 where
  pub done : IfOk result Done
  pub goes : Goes identity old new
  pub failed : IsErr result → Rises old.failures new.failures

-- the blocks are as they were, and this holds of them
pub record AsBefore {D : Type 0} (old new : Disk D) (Told : Type 0) : Type 0 where
  pub told : Told
  pub same : new.blocks ≡ old.blocks

-- a step that only reads
abbrev pub Reads : {D T : Type 0} → (D → List ℕ) → Disk D → Disk D → Result T DeviceFault → (T → Type 0) → Type 0
Reads identity old new result Told = Steps identity old new result (λ x. AsBefore old new (Told x))

-- the blocks of another disk, over a device like its own
pub record IsCopy {D : Type 0} (identity : D → List ℕ) (source new : Disk D) : Type 0 where
  pub blocks : new.blocks ≡ source.blocks
  pub same_device : identity new.device ≡ identity source.device
  pub failures : new.failures ≡ source.failures
