-- What a manifest means, and which fault says what is wrong with it.
use Rattle.std.specs.Prelude.{Bool, Err, List, Ok, Result, false, length, map, true, ⊤, ℕ, ◌*◌, ◌≡◌}
use Rattle.unixmodel.specs.Files.{Files}
use Rattle.unixmodel.specs.Manifest as unix
use Rattle.unixmodel.specs.Image.{Denotes}
use Rattle.unixmodel.specs.Manifest.{ManifestEntry, Wrong, files_made}
use Rattle.unixmodel.specs.Manifest.Thing.{Bytes, Folder, Special}
use Rattle.imagemake.specs.declared.manifest.Entry.{Entry}
use Rattle.imagemake.specs.declared.manifest.Thing.{Thing}
use Rattle.imagemake.specs.declared.manifest.Thing.TheVariants.{Device, Directory, File}
use Rattle.imagemake.specs.declared.manifest.MakeFault.{MakeFault}
use Rattle.imagemake.specs.declared.manifest.MakeFault.TheVariants.{Blocks, Inodes, Name, NoMemory, Numbers, Parent}
use Rattle.imagemake.specs.declared.manifest.MakeFault.TheVariants.{Twice}

abbrev pub thing_of : Thing → unix.Thing
thing_of Directory = Folder
thing_of (File bytes) = Bytes bytes.items
thing_of (Device major minor) = Special major minor

abbrev pub makes_directory : Thing → Bool
makes_directory Directory = true
makes_directory node = false

abbrev pub entry_at : List ℕ → Thing → ManifestEntry
entry_at path thing = record { path = path; thing = thing_of thing }

abbrev pub entry_of : Entry → ManifestEntry
entry_of e = entry_at e.path.items e.thing

abbrev pub meaning : List Entry → List ManifestEntry
meaning entries = map entry_of entries

-- the fault says what is wrong; the host may lack memory at any time
abbrev pub Refuses : {X : Type 0} → Result X Wrong → MakeFault → Type 0
Refuses r Name = r ≡ Err Wrong.Name
Refuses r Twice = r ≡ Err Wrong.Twice
Refuses r Blocks = r ≡ Err Wrong.Blocks
Refuses r Inodes = r ≡ Err Wrong.Inodes
Refuses r Parent = r ≡ Err Wrong.Parent
Refuses r Numbers = r ≡ Err Wrong.Numbers
Refuses r NoMemory = ⊤

-- the bytes are an image of this size, of the files that the entries make
pub record MakesImage (entries : List ManifestEntry) (size inodes : ℕ) (image : List ℕ) : Type 0 where
  pub files : Files
  pub made : files_made entries size inodes ≡ Ok files
  pub denotes : Denotes image files
  pub whole : length image ≡ 1024 * size
