-- Which fault an image has: the first in the order of the rules whose rule it breaks.
-- The order: length, magic, numbers, types, sizes, addresses, shared blocks, bitmap, entries, links, reach.
use Rattle.std.specs.Prelude.{Bool, List, MatchBool, MatchResult, Result, ℕ, ⊤, ◌++◌}
use Rattle.layout.specs.declared.Geometry.{Geometry}
use Rattle.unixmodel.specs.Formats.{Format}
use Rattle.unixmodel.specs.Files.{Files}
use Rattle.unixmodel.specs.Image.{DenotesIn, HasSuper}
use Rattle.imagerules.specs.Content.{IsFront, image_of}
use Rattle.imagerules.specs.Fields.{HasGeometry}
use Rattle.imagerules.specs.Marks.{HasMarks, IsOnce}
use Rattle.imagerules.specs.Rules.{HasBlocks, HasInodes}
use Rattle.imagerules.specs.Pieces.{HasAddresses, HasBitmap, HasKinds, HasLength, HasMagic, HasSizes, NamesOnce}
use Rattle.imagerules.specs.Places.{HasEntries, HasLinks, IsReached, files_in}
use Rattle.imagecheck.specs.declared.ImageFault.{ImageFault}
use Rattle.imagecheck.specs.declared.ImageFault.TheVariants.{Address, Bitmap, Device, Entry, Length, Links, Magic}
use Rattle.imagecheck.specs.declared.ImageFault.TheVariants.{NoMemory, NodeType, Numbers, SharedBlock, Size, Unreached}

-- the super block is one of the format, and says this geometry
pub record Begins (f : Format) (image : List ℕ) (g : Geometry) : Type 0 where
  pub magic : HasMagic f image
  pub geometry : HasGeometry image g

-- the fault that a pass over an image in memory finds: it holds of an image with a sound super block, and those before
-- don't; or memory ran out
abbrev pub Finds : List ℕ → ImageFault → Type 0
Finds image NodeType = HasSuper image × (HasKinds image → ⊥)
Finds image Size = HasSuper image × HasKinds image × (HasSizes image → ⊥)
Finds image Address = HasInodes image × (HasAddresses image → ⊥)
Finds image SharedBlock = HasInodes image × HasAddresses image × (NamesOnce image → ⊥)
Finds image Bitmap = HasInodes image × HasAddresses image × NamesOnce image × (HasBitmap image → ⊥)
Finds image Entry = HasBlocks image × (HasEntries (files_in image) → ⊥)
Finds image Links = HasBlocks image × HasEntries (files_in image) × (HasLinks (files_in image) → ⊥)
Finds image Unreached = HasBlocks image × HasEntries (files_in image) × HasLinks (files_in image)
    × (IsReached (files_in image) → ⊥)
Finds image NoMemory = ⊤
Finds image fault = ⊥

-- the fault holds of the image in a format, and those before it don't
abbrev pub Tells : Format → List ℕ → ImageFault → Type 0
Tells f image Length = HasLength image → ⊥
Tells f image Magic = HasLength image × (HasMagic f image → ⊥)
Tells f image Numbers = HasLength image × HasMagic f image × (HasSuper image → ⊥)
Tells f image Device = ⊤
Tells f image NoMemory = ⊤
Tells f image fault = HasMagic f image × Finds image fault

-- it gives the geometry that the super block says, or the fault
abbrev pub TellsGeometry : Format → List ℕ → Result Geometry ImageFault → Type 0
TellsGeometry f image r = MatchResult r (Begins f image) (Tells f image)

-- the fault is one of the image, and not of the device or of memory
abbrev pub IsOfImage : ImageFault → Type 0
IsOfImage Device = ⊥
IsOfImage NoMemory = ⊥
IsOfImage fault = ⊤

-- the fault is the device's or memory's
abbrev pub IsOutside : ImageFault → Type 0
IsOutside Device = ⊤
IsOutside NoMemory = ⊤
IsOutside fault = ⊥

-- a fault of the image: it denotes no files
abbrev pub Denies : (Files → Type 0) → ImageFault → Type 0
Denies denotes fault = IsOfImage fault → (files : Files) → denotes files → ⊥

-- it holds of each image of `count` blocks with this front
abbrev pub OfFront : ℕ → List ℕ → (List ℕ → Type 0) → Type 0
OfFront count front P = (blocks : List (List ℕ)) → IsFront blocks count front → P (image_of blocks)

-- the image denotes the files that it has
abbrev pub DenotesOwn : Format → List ℕ → Type 0
DenotesOwn f image = DenotesIn f image (files_in image)

-- the result is whether these blocks have no marks before and none occurs twice; they have marks then, beside the old
abbrev pub MarksMore : List Bool → List Bool → List ℕ → Bool → Type 0
MarksMore old new blocks told = (before : List ℕ) → HasMarks before old
    → MatchBool told (HasMarks (before ++ blocks) new) (¬ IsOnce (before ++ blocks))
