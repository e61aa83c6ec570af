-- Directories and their parents, up to the root.
use Rattle.std.specs.Prelude.{List, slice_index, suc, zero, ℕ, ◌+◌, ◌<◌, ◌≡◌, ◌≢◌, ◌≤◌}
use Rattle.unixmodel.specs.Files.{Files}
use Rattle.unixmodel.specs.Image.{inode_at, inodes_in, kind_in, parent_of}
use Rattle.unixmodel.specs.Numbers.{number_at}
use Rattle.layout.specs.declared.Geometry.{Geometry}
use Rattle.imagerules.specs.Fields.{HasGeometry}
use Rattle.imagerules.specs.Places.{HasEntries, HasLinks, files_in}
use Rattle.imagerules.specs.Rules.{BlockRules}

-- the parent of a parent and so on, n steps
abbrev pub ancestor : Files → ℕ → ℕ → ℕ
ancestor files zero n = n
ancestor files (suc k) n = ancestor files k (parent_of files n)

-- the image has these numbers, and its blocks, entries and counts of links are sound
pub record HasSoundLinks (image : List ℕ) (g : Geometry) : Type 0 where
  pub geometry : HasGeometry image g
  pub blocks : BlockRules image
  pub entries : HasEntries (files_in image)
  pub links : HasLinks (files_in image)

-- the chain of parents reaches the root
pub record Climbs (files : Files) (n : ℕ) : Type 0 where
  pub steps : ℕ
  pub root : ancestor files steps n ≡ 1

-- n is the number of a directory
pub record IsDirectoryIn (image : List ℕ) (n : ℕ) : Type 0 where
  pub low : 1 ≤ n
  pub high : n < inodes_in image
  pub kind : kind_in image n ≡ 1

-- the walks from the directories before `next` have marked those that they met, and each of these climbs
pub record HasWalked (files : Files) (next : ℕ) (marks : List ℕ) : Type 0 where
  pub root : slice_index marks 1 ≡ 1
  pub before : (n : ℕ) → slice_index marks n < next
  pub climbs : (n : ℕ) → slice_index marks n ≢ 0 → Climbs files n

-- the walk from a directory has met one that climbs: so do all that it marked
abbrev pub HasClimbed : Files → ℕ → List ℕ → Type 0
HasClimbed files start marks = Climbs files start × HasWalked files (start + 1) marks

-- the first data block of an inode
abbrev pub first_block : List ℕ → ℕ → ℕ
first_block image n = number_at 4 (inode_at n + 12) image
