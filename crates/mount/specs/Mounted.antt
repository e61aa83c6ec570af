-- The files of an image, in use.
use Rattle.std.specs.Prelude.{List, Some, [], codes, false, length, replicate, ℕ, ◌*◌, ◌∷◌, ◌≡◌, ◌≤◌}
use Rattle.blockdev.specs.Reached.{Fails}
use Rattle.imagecheck.specs.Faults.{IsOfImage, Tells}
use Rattle.imagecheck.specs.declared.ImageFault.{ImageFault}
use Rattle.imagecheck.specs.declared.ImageFault.TheVariants.{Device}
use Rattle.layout.specs.declared.Geometry.{Geometry}
use Rattle.name_rules.specs.Rules.{KeepsTree}
use Rattle.tree.specs.Tree.{FileTree}
use Rattle.unixmodel.specs.Files.{Files, Node, links_of, slot}
use Rattle.unixmodel.specs.Formats.{format}
use Rattle.unixmodel.specs.Image.{Denotes, inodes_in, size_in}
use Rattle.unixmodel.specs.Manifest.{ManifestEntry, data_blocks_of}
use Rattle.unixmodel.specs.Manifest.Thing.{Special}
use Rattle.unixmodel.specs.Start.{flat_files}

-- each node has a link
abbrev pub AreLinked : Files → Type 0
AreLinked files = (n : ℕ) (node : Node) → slot files n ≡ Some node → 1 ≤ links_of node

-- the numbers of an image's super block
pub record TellsNumbers (image : List ℕ) (g : Geometry) : Type 0 where
  pub size : g.size ≡ size_in image
  pub inodes : g.inodes ≡ inodes_in image

-- the files are those that the image denotes, and there are no others
-- they keep the rules of names, each node of them has links, and nobody holds any
-- an access of this device, and of no other, had failed this often before
pub record IsMounted (image : List ℕ) (identity : List ℕ) (failures : ℕ) (tree : FileTree) : Type 0 where
  pub denotes : Denotes image tree.files
  pub only : (files : Files) → Denotes image files → files ≡ tree.files
  pub rules : KeepsTree tree.files
  pub linked : AreLinked tree.files
  pub holds : tree.holds ≡ replicate (inodes_in image) 0
  pub limit : tree.block_limit ≡ data_blocks_of (size_in image) (inodes_in image)
  pub up : tree.failed ≡ false
  pub same_device : tree.identity ≡ identity
  pub later : failures ≤ tree.failures

-- why none are in use: the fault is one of the image, which then denotes no files; or an access of this device failed,
-- and it counts it; or the host has no memory
pub record IsUnmounted {D : Type 0} (identity : D → List ℕ) (count : D → ℕ) (device : D) (image : List ℕ)
    (fault : ImageFault) : Type 0 where
  pub tells : Tells format image fault
  pub none : IsOfImage fault → (files : Files) → Denotes image files → ⊥
  pub failed : fault ≡ Device → (left : D) × Fails identity count device left

-- ---- without a disk

-- the console, and nothing else
abbrev pub console_manifest : List ManifestEntry
console_manifest = record { path = codes "/console"; thing = Special 1 0 } ∷ []

-- an image of 32 blocks of a root and the console
pub record IsFlatImage (image : List ℕ) : Type 0 where
  pub denotes : Denotes image flat_files
  pub whole : length image ≡ 1024 * 32

-- its files, in use
pub record IsFlat (tree : FileTree) : Type 0 where
  pub files : tree.files ≡ flat_files
  pub rules : KeepsTree tree.files
  pub linked : AreLinked tree.files
  pub holds : tree.holds ≡ replicate 16 0
  pub limit : tree.block_limit ≡ 27
  pub up : tree.failed ≡ false
