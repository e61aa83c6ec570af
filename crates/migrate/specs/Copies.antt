-- What a copy of nodes to a disk comes to.
use Rattle.std.proofs.Common.{Global, Vec}
use Rattle.std.specs.Prelude.{IfOk, IsErrOf, List, MatchResult, None, OnOk, Result, Some, false, ⊤, ℕ, ◌<◌, ◌≡◌, ◌≤◌}
use Rattle.unixmodel.specs.Counts.{blocks_of}
use Rattle.unixmodel.specs.Files.{Files, Node, longest, put, size_of, slot}
use Rattle.unixmodel.specs.Formats.{small}
use Rattle.unixmodel.specs.Image.{Denotes, DenotesSmall, IsNode, inodes_in, size_in}
use Rattle.unixmodel.specs.Manifest.{data_blocks_of}
use Rattle.layout.specs.declared.Geometry.{Geometry}
use Rattle.imagecheck.specs.Faults.{IsOfImage, Tells}
use Rattle.imagecheck.specs.declared.ImageFault.{ImageFault}
use Rattle.imagecheck.specs.declared.ImageFault.TheVariants as checked
use Rattle.inode.specs.Store.{Store}
use Rattle.inode.specs.declared.InodeFault.{InodeFault}
use Rattle.inode.specs.declared.InodeFault.TheVariants as write
use Rattle.tree.specs.Stored.{FitsPlaces, Stores}
use Rattle.migrate.specs.declared.fault.MigrateFault.{MigrateFault}
use Rattle.migrate.specs.declared.fault.MigrateFault.TheVariants.{Blocks, Image, NoMemory}

-- a disk in memory doesn't fail: the lack of memory stands for a failed access
abbrev pub write_fault : InodeFault → MigrateFault
write_fault write.Device = NoMemory
write_fault fault = Blocks

-- the lack of memory is none of the image
abbrev pub image_fault : ImageFault → MigrateFault
image_fault checked.NoMemory = NoMemory
image_fault fault = Image fault

-- the files take more blocks than the disk has, or memory ran out
abbrev pub Lacks : Geometry → Files → MigrateFault → Type 0
Lacks g files (Image fault) = ⊥
Lacks g files Blocks = data_blocks_of g.size g.inodes < blocks_of files
Lacks g files NoMemory = ⊤

-- the disk has these numbers and stores the files, and no access of it has failed
pub record Copies {D : Type 0} (g : Geometry) (s : Store D) (files : Files) : Type 0 where
  pub numbers : s.geometry ≡ g
  pub up : s.failed ≡ false
  pub stores : Stores s files

-- so it does after a step, unless the files lack blocks
abbrev pub IsCopied : {D : Type 0} → Geometry → Store D → Files → Result (Unit {0}) MigrateFault → Type 0
IsCopied g s files result = MatchResult result (λ _. Copies g s files) (Lacks g files)

-- a node of an old image that the new one can hold
pub record CanStand (old : List ℕ) (n : ℕ) (node : Node) : Type 0 where
  pub is : IsNode old n node
  pub short : size_of node ≤ longest
  pub fits : FitsPlaces (Some node)

-- a node of an old image is at number n, which was free, or there are too few blocks for it
abbrev pub CopiesNode : {D : Type 0} → Geometry → List ℕ → Store D → Store D → ℕ → Result (Unit {0}) MigrateFault
    → Type 0
CopiesNode g old before after n result =
    (now : Files) (node : Node) → Copies g before now → slot now n ≡ None → CanStand old n node
    → IsCopied g after (put now n node) result

-- the old image denotes no files: it has this fault
abbrev pub IsBroken : List ℕ → ImageFault → Type 0
IsBroken old fault = Tells small old fault × IsOfImage fault × ((files : Files) → DenotesSmall old files → ⊥)

-- its files take more blocks than an image of as many blocks has in the new format
abbrev pub Overfills : List ℕ → Type 0
Overfills old = (files : Files) × DenotesSmall old files
    × (data_blocks_of (size_in old) (inodes_in old) < blocks_of files)

-- an image in the format in use denotes the files of the old one, and has as many blocks and inodes; or the fault says
-- why the old one is not migrated
pub record IsMigrated (old : List ℕ) (result : Result (Vec ℕ Global) MigrateFault) : Type 0 where
  pub migrated : IfOk result (λ new. (files : Files) → DenotesSmall old files → Denotes new.items files)
  pub source : OnOk result ((files : Files) × DenotesSmall old files)
  pub size : IfOk result (λ new. size_in new.items ≡ size_in old)
  pub inodes : IfOk result (λ new. inodes_in new.items ≡ inodes_in old)
  pub image : (fault : ImageFault) → IsErrOf result (Image fault) → IsBroken old fault
  pub blocks : IsErrOf result Blocks → Overfills old
