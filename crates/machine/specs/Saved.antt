-- What a machine returns as it is given up.
use Rattle.std.specs.Prelude.{Err, List, Ok, Result, false, true, ℕ, ◌≡◌, ◌≤◌}
use Rattle.calls.specs.declared.halt.Halt.{Halt}
use Rattle.calls.specs.declared.halt.Halt.TheVariants.{Console, Device, Halted, InitEnded}
use Rattle.imagerules.specs.Content.{image_of}
use Rattle.machine.specs.View.{View}
use Rattle.tree.specs.Tree.{FileTree}
use Rattle.unixmodel.specs.Failures.{Rises}
use Rattle.unixmodel.specs.Image.{Denotes}
use Rattle.unixmodel.specs.Shown.{left}

-- the disk is the machine's, and its bytes denote the files that are left without the processes
pub record IsSaved {D : Type 0} (content : D → List (List ℕ)) (identity : D → List ℕ) (m : View) (disk : D) : Type 0
  where
    pub sound : m.failed ≡ false
    pub same_device : identity disk ≡ m.identity
    pub denotes : Denotes (image_of (content disk)) (left m.state)

-- an access of the device failed, which counts it
pub record IsLost {D : Type 0} (identity : D → List ℕ) (count : D → ℕ) (m : View) : Type 0 where
  pub sound : m.failed ≡ false
  pub disk : D
  pub same_device : identity disk ≡ m.identity
  pub later : m.failures ≤ count disk
  pub rises : Rises m.failures (count disk)

-- an access of the device of files in use failed, which counts it
pub record LosesDevice {D : Type 0} (identity : D → List ℕ) (count : D → ℕ) (t : FileTree) : Type 0 where
  pub disk : D
  pub same_device : identity disk ≡ t.identity
  pub later : t.failures ≤ count disk
  pub rises : Rises t.failures (count disk)

-- the disk, or why there is none; content, identity, count: the blocks of a device, what distinguishes it from others,
-- and its count of failures
abbrev pub SaveGives : {D : Type 0} → (D → List (List ℕ)) → (D → List ℕ) → (D → ℕ) → View → Result D Halt → Type 0
SaveGives content identity count m (Ok disk) = IsSaved content identity m disk
SaveGives content identity count m (Err (InitEnded status)) = ⊥
SaveGives content identity count m (Err Device) = IsLost identity count m
SaveGives content identity count m (Err Console) = ⊥
SaveGives content identity count m (Err Halted) = m.failed ≡ true
