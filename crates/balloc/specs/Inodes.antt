-- Inodes that are free, and new ones.
use Rattle.std.specs.Prelude.{◌≡◌, ◌≢◌, ℕ, ◌<◌, ◌≤◌, List, [], None, Option, Some, slice_set}
use Rattle.layout.specs.declared.DiskInode.{DiskInode}
use Rattle.layout.specs.declared.Geometry.{Geometry}
use Rattle.layout.specs.Image.{RawNode, free_blocks, inode_at, nodes_of}
use Rattle.layout.specs.Inode.{Fits, fresh_inode}
use Rattle.layout.specs.declared.Kind.{Kind}
use Rattle.layout.specs.declared.Kind.TheVariants.{Free}
use Rattle.layout.specs.Sound.{IsSound}

-- no inode is free
abbrev pub AreAllUsed : Geometry → List (List ℕ) → Type 0
AreAllUsed g blocks = (n : ℕ) → 1 ≤ n → n < g.inodes → (inode_at blocks n).kind ≢ 0

-- the inode of this number is free
pub record IsUnused (g : Geometry) (blocks : List (List ℕ)) (n : ℕ) : Type 0 where
  pub low : 1 ≤ n
  pub high : n < g.inodes
  pub unused : (inode_at blocks n).kind ≡ 0

-- n is the lowest number whose inode is free
pub record IsLowestUnused (g : Geometry) (blocks : List (List ℕ)) (n : ℕ) : Type 0 where
  pub low : 1 ≤ n
  pub high : n < g.inodes
  pub unused : (inode_at blocks n).kind ≡ 0
  pub lowest : (m : ℕ) → 1 ≤ m → m < n → (inode_at blocks m).kind ≢ 0

-- a node without bytes, where the kind is that of one
abbrev pub fresh_node : Kind → ℕ → Option RawNode
fresh_node Free links = None
fresh_node kind links = Some (record { kind = kind; links = links; bytes = [] })

-- what is read of the record of inode n
pub record IsRecord (blocks : List (List ℕ)) (n : ℕ) (inode : DiskInode) : Type 0 where
  pub is : inode ≡ inode_at blocks n
  pub fits : Fits inode

-- number n has this node, which takes no blocks, or none; all else is as before
pub record SetsNode (g : Geometry) (old new : List (List ℕ)) (n : ℕ) (node : Option RawNode) : Type 0 where
  pub sound : IsSound g new
  pub nodes : nodes_of new g.inodes ≡ slice_set (nodes_of old g.inodes) n node
  pub free : free_blocks g new ≡ free_blocks g old

-- number n has a node without bytes
pub record TakesNode (g : Geometry) (old new : List (List ℕ)) (n : ℕ) (kind : Kind) (links : ℕ) : Type 0 where
  pub inode : inode_at new n ≡ fresh_inode kind links
  pub sets : SetsNode g old new n (fresh_node kind links)

-- the lowest free inode is returned, or None where there is none
abbrev pub FindsInode : Geometry → List (List ℕ) → Option ℕ → Type 0
FindsInode g blocks (Some n) = IsLowestUnused g blocks n
FindsInode g blocks None = AreAllUsed g blocks

-- the lowest free inode is taken, or none is free and nothing is changed
abbrev pub TakesInode : Geometry → List (List ℕ) → List (List ℕ) → Kind → ℕ → Option ℕ → Type 0
TakesInode g old new kind links (Some n) = IsLowestUnused g old n × TakesNode g old new n kind links
TakesInode g old new kind links None = AreAllUsed g old × (new ≡ old)
