-- The entries of all directories, each as its directory and the number that it names, and tables of
-- them.
use Rattle.std.specs.Prelude.{IsSome, List, Option, count_by, if◌then◌else◌, length, map, option_map, slice_index_or}
use Rattle.std.specs.Prelude.{unwrap_or, ℕ, ◌&&◌, ◌+◌, ◌<◌, ◌==◌, ◌≡◌, ◌≢◌, ◌≤◌}
use Rattle.std.specs.List.{find}
use Rattle.unixmodel.specs.Files.{Entry, most_links, slot}
use Rattle.unixmodel.specs.Image.{all_entries, inodes_in, is_directory_at, names_of, parent_of, subdirectories}
use Rattle.layout.specs.declared.Geometry.{Geometry}
use Rattle.imagecheck.specs.Entries.{NamesDirectories}
use Rattle.imagerules.specs.Rules.{BlockRules}
use Rattle.imagerules.specs.Fields.{HasGeometry}
use Rattle.imagerules.specs.Places.{files_in}
use Rattle.imagecheck.specs.declared.namings.Naming.{Naming}

abbrev pub naming : ℕ × Entry → Naming
naming e = record { directory = e.0; number = e.1.number }

-- those of a directory
abbrev pub namings_of : ℕ → List Entry → List Naming
namings_of d entries = map (λ (e : Entry). naming (d, e)) entries

-- those of all directories
abbrev pub namings_in : List ℕ → List Naming
namings_in image = map naming (all_entries (files_in image))

-- its directory is in the range of inode numbers, and its number is in use
pub record IsNaming (image : List ℕ) (m : Naming) : Type 0 where
  pub low : 1 ≤ m.directory
  pub high : m.directory < inodes_in image
  pub number : IsSome (slot (files_in image) m.number)

-- these are the entries of all directories of an image whose blocks are sound, and those of each have good names
pub record IsListed (image : List ℕ) (g : Geometry) (namings : List Naming) : Type 0 where
  pub geometry : HasGeometry image g
  pub blocks : BlockRules image
  pub names : NamesDirectories image
  pub all : namings ≡ namings_in image

-- ---- tables of some of them

abbrev pub times_named : List Naming → ℕ → ℕ
times_named namings n = count_by (λ (m : Naming). m.number == n) namings

-- the directory of the first one that names n, or 0
abbrev pub directory_or_zero : Option Naming → ℕ
directory_or_zero o = unwrap_or (option_map (λ (m : Naming). m.directory) o) 0

abbrev pub first_directory : List Naming → ℕ → ℕ
first_directory namings n = directory_or_zero (find (λ (m : Naming). m.number == n) namings)

-- the root is its own parent
abbrev pub parent_among : List Naming → ℕ → ℕ
parent_among namings n = if n == 1 then 1 else first_directory namings n

abbrev pub times_holding : List ℕ → List Naming → ℕ → ℕ
times_holding image namings d =
    count_by (λ (m : Naming). (m.directory == d) && is_directory_at (files_in image) m.number) namings

abbrev pub CountsNames : List Naming → List ℕ → Type 0
CountsNames namings counts = (n : ℕ) → n < length counts → slice_index_or counts n 0 ≡ times_named namings n

abbrev pub HasFirsts : List Naming → List ℕ → Type 0
HasFirsts namings parents = (n : ℕ) → n < length parents → slice_index_or parents n 0 ≡ first_directory namings n

abbrev pub HasParentsAmong : List Naming → List ℕ → Type 0
HasParentsAmong namings parents = (n : ℕ) → n < length parents → slice_index_or parents n 0 ≡ parent_among namings n

abbrev pub CountsSubdirectories : List ℕ → List Naming → List ℕ → Type 0
CountsSubdirectories image namings counts = (d : ℕ) → d < length counts
    → slice_index_or counts d 0 ≡ times_holding image namings d

-- ---- tables of the files

abbrev pub TellsNames : List ℕ → List ℕ → Type 0
TellsNames image counts = (n : ℕ) → n < length counts → slice_index_or counts n 0 ≡ names_of (files_in image) n

abbrev pub HasParents : List ℕ → List ℕ → Type 0
HasParents image parents = (n : ℕ) → n < length parents → slice_index_or parents n 0 ≡ parent_of (files_in image) n

abbrev pub TellsSubdirectories : List ℕ → List ℕ → Type 0
TellsSubdirectories image counts = (d : ℕ) → d < length counts
    → slice_index_or counts d 0 ≡ subdirectories (files_in image) d

-- tables of all numbers: how many entries name each, and how many entries of each name directories
pub record HasCounts (image : List ℕ) (g : Geometry) (naming within : List ℕ) : Type 0 where
  pub names_long : length naming ≡ g.inodes
  pub names : TellsNames image naming
  pub subdirectories_long : length within ≡ g.inodes
  pub subdirectories : TellsSubdirectories image within

-- a count of links that an inode of a type may have
pub record FitsLinks (kind links names subdirectories : ℕ) : Type 0 where
  pub directory : kind ≡ 1 → links ≡ 1 + subdirectories
  pub counted : kind ≢ 0 → kind ≢ 1 → links ≡ names
  pub least : kind ≢ 0 → kind ≢ 1 → 1 ≤ links
  pub most : kind ≢ 0 → kind ≢ 1 → links ≤ most_links
