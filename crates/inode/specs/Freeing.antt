-- Blocks of an inode are given back while its record still names them.
use Rattle.std.specs.Prelude.{◌≡◌, ◌≢◌, ℕ, ◌+◌, ◌<◌, ◌≤◌, List}
use Rattle.blockdev.specs.Blocks.{block_at}
use Rattle.layout.specs.Super.{bitmap_start_of, data_start_of}
use Rattle.layout.specs.declared.Geometry.{Geometry}
use Rattle.layout.specs.Image.{Asks, IsUsed, bit_of, free_blocks, slot_of}
use Rattle.layout.specs.Sound.{HasParts}

-- the slots that a size asks for
abbrev pub IsOwn : ℕ → ℕ → Type 0
IsOwn size j = Asks size j

-- the blocks in the slots P of n, `count` of them, are free now, and all else is as it was
pub record Freed (g : Geometry) (old mid : List (List ℕ)) (n : ℕ) (P : ℕ → Type 0) (count : ℕ) : Type 0 where
  pub parts : HasParts g mid
  pub front : (k : ℕ) → k < bitmap_start_of g.inodes → block_at mid k ≡ block_at old k
  pub rest : (p : ℕ) → data_start_of g.size g.inodes ≤ p → block_at mid p ≡ block_at old p
  pub gone : (j : ℕ) → IsUsed old g.inodes n j → P j → bit_of mid (bitmap_start_of g.inodes) (slot_of old n j) ≡ 0
  pub kept : (c : ℕ) → c < g.size → ((j : ℕ) → IsUsed old g.inodes n j → P j → slot_of old n j ≢ c)
      → bit_of mid (bitmap_start_of g.inodes) c ≡ bit_of old (bitmap_start_of g.inodes) c
  pub free : free_blocks g mid ≡ free_blocks g old + count
