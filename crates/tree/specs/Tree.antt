-- A file system in use, as callers see it.
use Rattle.std.specs.Prelude.{Bool, Err, IfErr, IfOk, IsErrOf, List, Ok, OnErr, OnOk, Result, false, length, replicate}
use Rattle.std.specs.Prelude.{true, ℕ, ◌≡◌, ◌≢◌, ◌≤◌}
use Rattle.blockdev.specs.declared.DeviceFault.{DeviceFault}
use Rattle.inode.specs.Store.{Store}
use Rattle.tree.specs.declared.tree.Tree.TheInside.{Inside}
use Rattle.tree.specs.declared.TreeFault.{TreeFault}
use Rattle.tree.specs.declared.TreeFault.TheVariants.{Device}
use Rattle.tree.specs.Stored.{IsFileSystem, files_of}
use Rattle.unixmodel.specs.Failures.{HasCause, Rises}
use Rattle.unixmodel.specs.Files.{Files}
use Rattle.unixmodel.specs.Manifest.{data_blocks_of}

pub record FileTree : Type 0 where
  pub files : Files
  -- how many blocks the disk has, and how many of them are for data
  pub size : ℕ
  pub block_limit : ℕ
  -- how many open files and working directories hold each number
  pub holds : List ℕ
  -- an access of the device has failed: nothing is promised of the files any more
  pub failed : Bool
  pub failures : ℕ
  -- what distinguishes the device from others
  pub identity : List ℕ

-- the files that a volume holds on this device, and who holds them
abbrev pub tree_with : {D : Type 0} → List ℕ → Store D → List ℕ → FileTree
tree_with identity s holds = record {
  files = files_of s.nodes;
  size = s.geometry.size;
  block_limit = data_blocks_of s.geometry.size s.geometry.inodes;
  holds = holds;
  failed = s.failed;
  failures = s.failures;
  identity = identity;
}

-- the files of a volume, of which nobody holds any
abbrev pub tree_over : {D : Type 0} → (D → List ℕ) → Store D → FileTree
tree_over identity s = tree_with (identity s.device) s (replicate s.geometry.inodes 0)

abbrev pub tree_of : {D : Type 0} → (D → List ℕ) → Inside D → FileTree
tree_of identity t = tree_with (identity t.volume.device) t.volume t.holds.items

pub record IsInside {D : Type 0} (t : Inside D) : Type 0 where
  pub count : length t.holds.items ≡ t.volume.geometry.inodes
  pub held : t.volume.failed ≡ false → IsFileSystem t.volume

-- a disk can become a copy of another: the devices are alike, with as many numbers of nodes
pub record HasRoomFor (source t : FileTree) : Type 0 where
  pub same_device : t.identity ≡ source.identity
  pub numbers : length t.holds ≡ length source.holds

-- so it can where both are in use and no access has failed, and the devices are alike, with as many numbers
pub record IsAsLarge (source t : FileTree) : Type 0 where
  pub up : t.failed ≡ false
  pub source_up : source.failed ≡ false
  pub same_device : t.identity ≡ source.identity
  pub numbers : length t.files ≡ length source.files

-- what a call on a file system returns: on success its condition holds, and no access has failed; an error is returned
-- only where the device counts a failure. The device is the same
pub record Serves {T : Type 0} (old new : FileTree) (result : Result T DeviceFault) (Told : T → Type 0) : Type 0 where
  pub told : IfOk result Told
  pub up : OnOk result (new.failed ≡ false)
  pub down : OnErr result (new.failed ≡ true)
  pub same_device : new.identity ≡ old.identity
  pub cause : HasCause old.failures new.failures result

-- the result's condition holds, and nothing is changed
abbrev pub Looks : {T : Type 0} → FileTree → FileTree → Result T DeviceFault → (T → Type 0) → Type 0
Looks old new result Told = Serves old new result (λ x. (new ≡ record old { failures = new.failures }) × Told x)

-- these are the files now, and all else is as it was
abbrev pub HasFiles : FileTree → FileTree → Files → Type 0
HasFiles old new files = new ≡ record old { files = files; failures = new.failures }

-- ---- calls on names

abbrev pub is_device : TreeFault → Bool
is_device Device = true
is_device _ = false

abbrev pub has_failed : {T : Type 0} → Result T TreeFault → Bool
has_failed (Ok x) = false
has_failed (Err fault) = is_device fault

-- a refusal: what it means, why it happened, and the files are as they were
pub record IsRefusal (old new : FileTree) (Refused Why : Type 0) : Type 0 where
  pub refused : Refused
  pub why : Why
  pub same : new.files ≡ old.files

-- what a call that changes names returns
pub record Acts {T : Type 0} (old new : FileTree) (result : Result T TreeFault) (Done : T → Type 0) (Refused : Type 0)
    (Why : TreeFault → Type 0) : Type 0 where
  pub done : IfOk result Done
  pub refused : IfErr result (λ fault. fault ≢ Device → IsRefusal old new Refused (Why fault))
  pub failed : new.failed ≡ has_failed result
  pub size : new.size ≡ old.size
  pub limit : new.block_limit ≡ old.block_limit
  pub holds : new.holds ≡ old.holds
  pub same_device : new.identity ≡ old.identity
  pub later : old.failures ≤ new.failures
  pub cause : IsErrOf result Device → Rises old.failures new.failures
