-- The disk of an image in memory.
use Rattle.std.proofs.Common.{arith, length, List, ℕ, ◌%◌, ◌∙◌, ◌≡◌, ◌≢◌}
use Rattle.blockdev.specs.Blocks.{blocks_of}
use Rattle.imagerules.proofs.Spelling.{image_of-blocks}
use Rattle.imagerules.specs.Content.{image_of}
use Rattle.unixmodel.specs.Files.{Files}
use Rattle.unixmodel.specs.Image.{Denotes}

-- the blocks of a disk are its image
pub image-is : (image disk : List ℕ) → disk ≡ image → length disk % 1024 ≡ 0 → image_of (blocks_of disk) ≡ image
image-is image disk same whole = image_of-blocks disk whole ∙ same

-- bytes that are no whole number of blocks
pub no-files : (image : List ℕ) → length image % 1024 ≢ 0 → (files : Files) → Denotes image files → ⊥
no-files image odd files denotes = odd (omega (arith, denotes.super.whole))
