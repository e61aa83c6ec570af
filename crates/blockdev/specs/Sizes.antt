-- The whole blocks of a list of bytes have 1024 bytes each.
use Rattle.std.specs.Prelude.{◌≡◌, ℕ, ◌*◌, ◌/◌, ◌<◌, List, [], length, drop, get_or}
use Rattle.std.proofs.Common.{◌∙◌, ap, arith}
use Rattle.std.proofs.lemmas.List.{length-take-le, length-drop}
use Rattle.std.proofs.lemmas.List.FromFn.{length-map-range_with_len, get_or-map-range_with_len}
use Rattle.blockdev.specs.Blocks.{AreBlocks, block_of, blocks_of}

pub length-blocks_of : (bytes : List ℕ) → length (blocks_of bytes) ≡ length bytes / 1024
length-blocks_of bytes = length-map-range_with_len (block_of bytes) 0 (length bytes / 1024)

pub block_at-blocks_of : (bytes : List ℕ) (n : ℕ) → n < length bytes / 1024
    → get_or (blocks_of bytes) n [] ≡ block_of bytes n
block_at-blocks_of bytes n h = get_or-map-range_with_len (block_of bytes) 0 (length bytes / 1024) n n [] h (omega arith)

pub length-block_of : (bytes : List ℕ) (n : ℕ) → n < length bytes / 1024 → length (block_of bytes n) ≡ 1024
length-block_of bytes n h = length-take-le 1024 (drop (1024 * n) bytes) (omega (arith, length-drop (1024 * n) bytes))

pub AreBlocks-blocks_of : (bytes : List ℕ) → AreBlocks (blocks_of bytes)
AreBlocks-blocks_of bytes n h =
    let m : n < length bytes / 1024 = omega (arith, length-blocks_of bytes) in
    ap length (block_at-blocks_of bytes n m) ∙ length-block_of bytes n m

pub ruleset counts = (length-blocks_of, block_at-blocks_of, length-block_of)
