-- What becomes of entries: an image, or what is wrong with them.
use Rattle.std.proofs.Common.{Global, Vec}
use Rattle.std.specs.Prelude.{List, MatchResult, None, Option, Result, Some, ℕ, ◌≡◌}
use Rattle.imagebytes.specs.Entries.{told_entries}
use Rattle.imagebytes.specs.declared.entries.EntryTold.{EntryTold}
use Rattle.imagebytes.specs.declared.making.MakingFault.{MakingFault}
use Rattle.imagebytes.specs.declared.making.MakingFault.TheVariants.{Entry, Make}
use Rattle.imagemake.specs.Making.{MakesImage, Refuses}
use Rattle.imagemake.specs.declared.manifest.MakeFault.{MakeFault}
use Rattle.imagemake.specs.declared.manifest.MakeFault.TheVariants.{NoMemory}
use Rattle.unixmodel.specs.Manifest.{ManifestEntry, files_made}

-- there is no manifest, or no memory for it
abbrev pub RefusesManifest : Option (List ManifestEntry) → MakingFault → Type 0
RefusesManifest all Entry = all ≡ None
RefusesManifest all (Make fault) = fault ≡ NoMemory

-- the fault is that of the manifest
abbrev pub RefusesMake : Option (List ManifestEntry) → ℕ → ℕ → MakeFault → Type 0
RefusesMake None size inodes fault = fault ≡ NoMemory
RefusesMake (Some all) size inodes fault = Refuses (files_made all size inodes) fault

abbrev pub RefusesEntries : Option (List ManifestEntry) → ℕ → ℕ → MakingFault → Type 0
RefusesEntries all size inodes Entry = all ≡ None
RefusesEntries all size inodes (Make fault) = RefusesMake all size inodes fault

-- the image of a manifest
abbrev pub IsImageOf : Option (List ManifestEntry) → ℕ → ℕ → List ℕ → Type 0
IsImageOf told size inodes image = (all : List ManifestEntry) × (told ≡ Some all) × MakesImage all size inodes image

abbrev pub MakesOf : List EntryTold → List ℕ → ℕ → ℕ → Result (Vec ℕ Global) MakingFault → Type 0
MakesOf entries bytes size inodes answer = MatchResult answer
    (λ image. IsImageOf (told_entries entries bytes) size inodes image.items)
    (RefusesEntries (told_entries entries bytes) size inodes)
