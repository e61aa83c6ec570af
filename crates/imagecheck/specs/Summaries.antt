-- What the check of an image reports, if it denotes files.
use Rattle.std.specs.Prelude.{List, length, ℕ, ◌≡◌}
use Rattle.unixmodel.specs.Formats.{Format}
use Rattle.unixmodel.specs.Image.{DenotesIn, named_blocks, numbers_in_use}
use Rattle.imagerules.specs.Pieces.{HasMagic}
use Rattle.imagerules.specs.Places.{files_in}
use Rattle.imagecheck.specs.declared.rules.Summary.{Summary}

pub record IsSummary (image : List ℕ) (summary : Summary) : Type 0 where
  -- in the format of its magic number
  pub denotes : (f : Format) → HasMagic f image → DenotesIn f image (files_in image)
  pub inodes : summary.inodes ≡ length (numbers_in_use image)
  pub blocks : summary.blocks ≡ length (named_blocks image)
