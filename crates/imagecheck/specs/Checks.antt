-- What a check of a device's image returns, and what it leaves of the device.
use Rattle.std.specs.Prelude.{IfErr, IfOk, IsErrOf, List, OnOk, Result, length, ℕ, ◌≡◌, ◌≤◌}
use Rattle.unixmodel.specs.Failures.{Rises}
use Rattle.unixmodel.specs.Formats.{Format}
use Rattle.unixmodel.specs.Image.{DenotesIn, named_blocks, numbers_in_use}
use Rattle.imagerules.specs.Content.{image_of}
use Rattle.imagecheck.specs.Faults.{Denies, DenotesOwn, Tells}
use Rattle.imagecheck.specs.declared.ImageFault.{ImageFault}
use Rattle.imagecheck.specs.declared.ImageFault.TheVariants.{Device}
use Rattle.imagecheck.specs.declared.rules.Summary.{Summary}

-- a device was only read, and the fault is its own only where it counts a failed access
pub record OnlyReads {D T : Type 0} (content_of : D → List (List ℕ)) (identity_of : D → List ℕ) (failures_of : D → ℕ)
    (old new : D) (result : Result T ImageFault) : Type 0 where
  pub same : content_of new ≡ content_of old
  pub identity : identity_of new ≡ identity_of old
  pub later : failures_of old ≤ failures_of new
  pub failed : IsErrOf result Device → Rises (failures_of old) (failures_of new)

-- A device was only read: its image denotes the files that it has in a format, and this is in use, or the fault is that
-- of the first rule that it breaks.
pub record Checks {D : Type 0} (f : Format) (content_of : D → List (List ℕ)) (identity_of : D → List ℕ)
    (failures_of : D → ℕ) (old new : D) (result : Result Summary ImageFault) : Type 0 where
  pub denotes : OnOk result (DenotesOwn f (image_of (content_of old)))
  pub inodes : IfOk result (λ summary. summary.inodes ≡ length (numbers_in_use (image_of (content_of old))))
  pub blocks : IfOk result (λ summary. summary.blocks ≡ length (named_blocks (image_of (content_of old))))
  pub fault : IfErr result (Tells f (image_of (content_of old)))
  pub refused : IfErr result (Denies (DenotesIn f (image_of (content_of old))))
  pub same : content_of new ≡ content_of old
  pub identity : identity_of new ≡ identity_of old
  pub later : failures_of old ≤ failures_of new
  pub failed : IsErrOf result Device → Rises (failures_of old) (failures_of new)
