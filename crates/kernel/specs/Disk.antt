-- What the kernel's steps on the files of its disk leave.
use Rattle.std.specs.Prelude.{Err, None, Ok, Option, Result, Some, false, true, ℕ, ◌≡◌, ◌≤◌}
use Rattle.blockdev.specs.declared.DeviceFault.{DeviceFault}
use Rattle.kernel.specs.Kernel.{Kernel, counting, current}
use Rattle.proc.specs.declared.process.Process.{Process}
use Rattle.tree.specs.Tree.{FileTree}
use Rattle.unixmodel.specs.Failures.{Rises}
use Rattle.unixmodel.specs.Files.{Files, slot}

-- ---- the files

-- no access of the device has failed: it is the same, and its count of failures is not lower
pub record IsServed (old new : FileTree) : Type 0 where
  pub up : new.failed ≡ false
  pub same_device : new.identity ≡ old.identity
  pub later : old.failures ≤ new.failures

-- an access of the device has failed: it is the same, and its count of failures rose
pub record IsLost (old new : FileTree) : Type 0 where
  pub down : new.failed ≡ true
  pub same_device : new.identity ≡ old.identity
  pub later : old.failures ≤ new.failures
  pub rises : Rises old.failures new.failures

-- what a part of an event with this result leaves of the files of the disk
abbrev pub LeavesDisk : {X : Type 0} → FileTree → FileTree → Result X DeviceFault → Type 0
LeavesDisk old new (Ok x) = IsServed old new
LeavesDisk old new (Err fault) = IsLost old new

-- the directory that a process works in
abbrev pub directory_in : Option Process → ℕ
directory_in None = 0
directory_in (Some p) = p.directory

abbrev pub directory_at : Kernel → ℕ → ℕ
directory_at k i = directory_in (slot k.table.places i)

-- the directory that the running process works in
abbrev pub current_directory : Kernel → ℕ
current_directory k = directory_at k (current k)

-- ---- steps that read the disk and change nothing else

-- the old kernel, except for the count of the device's failures
pub record HasRead (old new : Kernel) : Type 0 where
  pub same : new ≡ counting old new.tree.failures
  pub later : old.tree.failures ≤ new.tree.failures

-- what a step that reads the disk leaves, and what holds of its result
abbrev pub ReadsDisk : {X : Type 0} → Kernel → Kernel → (X → Type 0) → Result X DeviceFault → Type 0
ReadsDisk old new Told (Ok x) = HasRead old new × Told x
ReadsDisk old new Told (Err fault) = IsLost old.tree new.tree

-- ---- steps that change the files and nothing else

abbrev pub with_tree : Kernel → FileTree → Kernel
with_tree k t = record k { tree = t }

-- these are the files, and the count of the device's failures is not lower
pub record HasFiled (old new : Kernel) (files : Files) : Type 0 where
  pub same : new ≡ with_tree old (record old.tree { files = files; failures = new.tree.failures })
  pub later : old.tree.failures ≤ new.tree.failures

-- what a step that changes the files leaves
abbrev pub FilesDisk : {X : Type 0} → Kernel → Kernel → Files → Result X DeviceFault → Type 0
FilesDisk old new files (Ok x) = HasFiled old new files
FilesDisk old new files (Err fault) = IsLost old.tree new.tree
