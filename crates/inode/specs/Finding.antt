-- What is found of a file in blocks that were used last.
use Rattle.std.specs.Prelude.{◌≡◌, ℕ, ◌/◌, ◌<◌, List}
use Rattle.inode.specs.declared.find.Found.{Found}
use Rattle.layout.specs.Image.{blocks_for, inode_at, slot_in}
use Rattle.layout.specs.Inode.{Fits}

-- the file's size, and the block of offset `at`; the record fits its fields
pub record IsFound (blocks : List (List ℕ)) (n at : ℕ) (found : Found) : Type 0 where
  pub fits : Fits (inode_at blocks n)
  pub size : found.size ≡ (inode_at blocks n).size
  pub there : at / 1024 < blocks_for found.size
  pub block : found.block ≡ slot_in blocks (inode_at blocks n) (at / 1024)
