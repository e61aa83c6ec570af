-- The record of an inode, as it lies on a disk.
use Rattle.std.specs.Prelude.{◌≡◌, ℕ, List}
use Rattle.layout.specs.declared.DiskInode.{DiskInode}
use Rattle.layout.specs.declared.Geometry.{Geometry}
use Rattle.layout.specs.Image.{IsInode, inode_at}
use Rattle.layout.specs.Sound.{IsSound}

-- the disk is sound, its inode n is in use, and this is its record
pub record HasInode (g : Geometry) (blocks : List (List ℕ)) (n : ℕ) (inode : DiskInode) : Type 0 where
  pub sound : IsSound g blocks
  pub used : IsInode blocks g.inodes n
  pub same : inode ≡ inode_at blocks n

-- the same, as functions pass it on to one another: no search looks into it
unfoldable pub IsInHand : Geometry → List (List ℕ) → ℕ → DiskInode → Type 0
IsInHand g blocks n inode = HasInode g blocks n inode

pub IsInHand-of : {g : Geometry} {blocks : List (List ℕ)} {n : ℕ} {inode : DiskInode} → HasInode g blocks n inode
    → IsInHand g blocks n inode
unfolding IsInHand
IsInHand-of h = h

pub HasInode-of : {g : Geometry} {blocks : List (List ℕ)} {n : ℕ} {inode : DiskInode} → IsInHand g blocks n inode
    → HasInode g blocks n inode
unfolding IsInHand
HasInode-of h = h
