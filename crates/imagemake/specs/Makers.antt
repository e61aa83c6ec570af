-- An image in the making.
use Rattle.std.specs.Prelude.{List, [], length, ℕ, ◌+◌, ◌++◌, ◌∷◌, ◌≡◌}
use Rattle.unixmodel.specs.Manifest.{ManifestEntry, files_made, with_entries}
use Rattle.imagemake.specs.Begins.{IsMade}
use Rattle.imagemake.specs.Made.{HasRoom}
use Rattle.imagemake.specs.Making.{MakesImage, Refuses}
use Rattle.imagemake.specs.declared.manifest.MakeFault.{MakeFault}
use Rattle.imagemake.specs.declared.maker.Maker.{Maker}

-- it has these entries, and what more of them make of its files is what all make
pub record HasEntries (size inodes : ℕ) (entries : List ManifestEntry) (maker : Maker) : Type 0 where
  pub made_so_far : IsMade maker.tree maker.made.items
  pub room : HasRoom (length maker.tree.files) maker.made
  pub blocks : maker.tree.size ≡ size
  pub still : (more : List ManifestEntry) → files_made (entries ++ more) size inodes
      ≡ with_entries maker.tree.block_limit (length maker.tree.files) maker.tree.files (length maker.made.items + 2)
      more

-- it has the entries of some manifest so far
pub record IsMaking (maker : Maker) : Type 0 where
  pub size : ℕ
  pub inodes : ℕ
  pub entries : List ManifestEntry
  pub has : HasEntries size inodes entries maker

-- the fault says what is wrong, whatever the entries are
abbrev pub RefusesNumbers : ℕ → ℕ → MakeFault → Type 0
RefusesNumbers size inodes fault = (entries : List ManifestEntry) → Refuses (files_made entries size inodes) fault

-- it has this entry after those that it had
abbrev pub Adds : Maker → ManifestEntry → Maker → Type 0
Adds old entry new = (size inodes : ℕ) (entries : List ManifestEntry) → HasEntries size inodes entries old
    → HasEntries size inodes (entries ++ entry ∷ []) new

-- the fault says what is wrong with this entry, whatever comes after it
abbrev pub RefusesNext : Maker → ManifestEntry → MakeFault → Type 0
RefusesNext old entry fault = (size inodes : ℕ) (entries more : List ManifestEntry) → HasEntries size inodes entries old
    → Refuses (files_made (entries ++ entry ∷ more) size inodes) fault

-- the bytes are an image with its entries
abbrev pub IsImageOf : Maker → List ℕ → Type 0
IsImageOf maker image = (size inodes : ℕ) (entries : List ManifestEntry) → HasEntries size inodes entries maker
    → MakesImage entries size inodes image
