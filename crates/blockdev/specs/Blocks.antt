-- What a block device holds.
use Rattle.std.specs.Prelude.{◌≡◌, ℕ, ◌*◌, ◌/◌, ◌<◌, List, length, take, drop, map, get_or, []}
use Rattle.std.specs.List.{range_with_len}

-- the bytes of the k-th block
abbrev pub block_of : List ℕ → ℕ → List ℕ
block_of bytes k = take 1024 (drop (1024 * k) bytes)

-- the whole blocks of a list of bytes
abbrev pub blocks_of : List ℕ → List (List ℕ)
blocks_of bytes = map (block_of bytes) (range_with_len 0 (length bytes / 1024))

-- a block by its number, nothing past the end
abbrev pub block_at : List (List ℕ) → ℕ → List ℕ
block_at blocks n = get_or blocks n []

-- each block has 1024 bytes
abbrev pub AreBlocks : List (List ℕ) → Type 0
AreBlocks blocks = (n : ℕ) → n < length blocks → length (block_at blocks n) ≡ 1024
