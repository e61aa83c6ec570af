-- The lowest clear bit, and what a change of one bit of the bitmap says.
use Rattle.std.specs.Prelude.{◌≡◌, ◌≢◌, ℕ, ◌+◌, ◌-◌, ◌<◌, ◌≤◌, ◌==◌, List, None, Option, Some, find}
use Rattle.std.specs.List.{range_with_len}
use Rattle.blockdev.specs.Blocks.{block_at}
use Rattle.layout.specs.Super.{bitmap_start_of, data_start_of}
use Rattle.layout.specs.declared.Geometry.{Geometry}
use Rattle.layout.specs.Image.{IsFree, bit_in, bit_of, free_blocks}
use Rattle.layout.specs.Sound.{HasParts}

-- the lowest clear bit of a block from here up to and without there
abbrev pub lowest_clear : List ℕ → ℕ → ℕ → Option ℕ
lowest_clear block from to = find (λ i. bit_in block i == 0) (range_with_len from (to - from))

-- new is old except for the bit of b
pub record SetsBit (g : Geometry) (old new : List (List ℕ)) (b bit : ℕ) : Type 0 where
  pub parts : HasParts g new
  pub here : bit_of new (bitmap_start_of g.inodes) b ≡ bit
  pub others : (c : ℕ) → c < g.size → c ≢ b
      → bit_of new (bitmap_start_of g.inodes) c ≡ bit_of old (bitmap_start_of g.inodes) c
  pub before : (k : ℕ) → k < bitmap_start_of g.inodes → block_at new k ≡ block_at old k
  pub after : (k : ℕ) → data_start_of g.size g.inodes ≤ k → block_at new k ≡ block_at old k

-- each block from here on is taken
abbrev pub IsFullFrom : Geometry → List (List ℕ) → ℕ → Type 0
IsFullFrom g blocks from = (c : ℕ) → from ≤ c → c < g.size → bit_of blocks (bitmap_start_of g.inodes) c ≡ 1

-- b is the lowest free block from here on
pub record IsFirstFree (g : Geometry) (blocks : List (List ℕ)) (from b : ℕ) : Type 0 where
  pub low : from ≤ b
  pub free : IsFree g blocks b
  pub before : (c : ℕ) → from ≤ c → c < b → bit_of blocks (bitmap_start_of g.inodes) c ≡ 1

-- b is the lowest free block
pub record IsLowestFree (g : Geometry) (blocks : List (List ℕ)) (b : ℕ) : Type 0 where
  pub free : IsFree g blocks b
  pub lowest : (c : ℕ) → c < b → IsFree g blocks c → ⊥

-- the lowest free block is taken
pub record TakesLowest (g : Geometry) (old new : List (List ℕ)) (b : ℕ) : Type 0 where
  pub lowest : IsLowestFree g old b
  pub takes : SetsBit g old new b 1

-- the first free block from here on is returned, or None where there is none
abbrev pub Finds : Geometry → List (List ℕ) → ℕ → Option ℕ → Type 0
Finds g blocks from (Some b) = IsFirstFree g blocks from b
Finds g blocks from None = IsFullFrom g blocks from

-- the lowest free block is taken, or none is free and nothing is changed
abbrev pub Takes : Geometry → List (List ℕ) → List (List ℕ) → Option ℕ → Type 0
Takes g old new (Some b) = TakesLowest g old new b × (free_blocks g new + 1 ≡ free_blocks g old)
Takes g old new None = (free_blocks g old ≡ 0) × (new ≡ old)

-- a block is given back
pub record Gives (g : Geometry) (old new : List (List ℕ)) (b : ℕ) : Type 0 where
  pub sets : SetsBit g old new b 0
  pub free : free_blocks g new ≡ free_blocks g old + 1
