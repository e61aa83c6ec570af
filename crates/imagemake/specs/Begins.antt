-- The entries of a manifest as they are put on a disk.
use Rattle.std.specs.Prelude.{IfErr, List, None, Ok, OnOk, Result, Some, [], false, length, true, ℕ, ◌+◌, ◌≡◌, ◌≤◌}
use Rattle.unixmodel.specs.Files.{Files, split_last}
use Rattle.unixmodel.specs.Image.{KeepsRules}
use Rattle.unixmodel.specs.Manifest.{ManifestEntry, Thing, Wrong, bare_files, names_in, with_entries}
use Rattle.unixmodel.specs.Manifest.{with_manifest_entry}
use Rattle.tree.specs.Tree.{FileTree, HasFiles}
use Rattle.imagemake.specs.Added.{Owns}
use Rattle.imagemake.specs.Begun.{IsBegun, IsListed}
use Rattle.imagemake.specs.Made.{HasRoom, MadeName, Names, found, is_folder, seek}
use Rattle.imagemake.specs.Making.{Refuses}
use Rattle.imagemake.specs.declared.manifest.MakeFault.{MakeFault}
use Rattle.imagemake.specs.declared.manifest.MakeFault.TheVariants as told
use Rattle.imagemake.specs.declared.store.StoreFault.{StoreFault}
use Rattle.imagemake.specs.declared.store.StoreFault.TheVariants.{Blocks, Device}

-- a disk in memory doesn't fail: the lack of memory stands for a failed access
abbrev pub make_fault : StoreFault → MakeFault
make_fault Blocks = told.Blocks
make_fault Device = told.NoMemory

-- it is returned only where the device counts a failed access
abbrev pub BlamesDevice : ℕ → ℕ → Result (Unit {0}) MakeFault → Type 0
BlamesDevice before now result = Owns told.NoMemory before now result

-- the path's last name isn't in directory d yet, which the names before it reach
pub record IsSpot (made : List MadeName) (path : List ℕ) (d : ℕ) (name : List ℕ) : Type 0 where
  pub names : List (List ℕ)
  pub above : List (List ℕ)
  pub named : names_in path ≡ Some names
  pub split : split_last names ≡ Some (above, name)
  pub reached : seek made 1 above ≡ Some d
  pub folder : is_folder made d ≡ true
  pub absent : found made d name ≡ None

-- whatever it is to name, the fault says what is wrong with the path
abbrev pub RefusesPath : List MadeName → List ℕ → MakeFault → Type 0
RefusesPath made path fault =
    (blocks inodes : ℕ) (files : Files) (n : ℕ) (thing : Thing) → IsListed files made
    → Refuses (with_manifest_entry blocks inodes files n (record { path = path; thing = thing })) fault

-- the files are those of as many entries, which are those of the list
pub record IsMade (t : FileTree) (made : List MadeName) : Type 0 where
  pub up : t.failed ≡ false
  pub begun : IsBegun t.block_limit (length t.files) t.files (length made + 2)
  pub listed : IsListed t.files made

-- the fault says why an entry can't come to those that are made
abbrev pub RefusesEntry : FileTree → List MadeName → ManifestEntry → MakeFault → Type 0
RefusesEntry t made entry fault =
    Refuses (with_manifest_entry t.block_limit (length t.files) t.files (length made + 2) entry) fault

-- an entry more
pub record AddsEntry (old new : FileTree) (made now : List MadeName) (entry : ManifestEntry) : Type 0 where
  pub is : with_manifest_entry old.block_limit (length old.files) old.files (length made + 2) entry ≡ Ok new.files
  pub rest : HasFiles old new new.files
  pub long : length new.files ≡ length old.files
  pub longer : length now ≡ length made + 1
  pub made_more : IsMade new now

-- what the entries make of files that have the root alone
abbrev pub made_by : FileTree → List ManifestEntry → Result Files Wrong
made_by t entries = with_entries t.block_limit (length t.files) (bare_files (length t.files)) 2 entries

-- the files are those that the entries make, and keep the rules
pub record MakesEntries (old new : FileTree) (entries : List ManifestEntry) : Type 0 where
  pub is : made_by old entries ≡ Ok new.files
  pub rest : HasFiles old new new.files
  pub rules : KeepsRules new.files

-- the entries are put among the files, or the fault says why they can't be
pub record PutsEntries (old new : FileTree) (entries : List ManifestEntry) (result : Result (Unit {0}) MakeFault)
    : Type 0 where
  pub made : OnOk result (MakesEntries old new entries)
  pub refused : IfErr result (Refuses (made_by old entries))
  pub cause : BlamesDevice old.failures new.failures result

-- entries can be put among files that are none yet or the root alone: no access has failed, there are numbers for them
-- and a block for the root, no name is made, and there is room for a name of each number
pub record CanBegin (t : FileTree) (made : Names) : Type 0 where
  pub up : t.failed ≡ false
  pub some : 16 ≤ length t.files
  pub block : 1 ≤ t.block_limit
  pub empty : made.items ≡ []
  pub room : HasRoom (length t.files) made

-- the files are those of the first entries, and what the rest makes of them is what all of them make
pub record IsGoing (old now : FileTree) (made : List MadeName) (entries left : List ManifestEntry) : Type 0 where
  pub made_so_far : IsMade now made
  pub rest : HasFiles old now now.files
  pub still : made_by old entries ≡ with_entries now.block_limit (length now.files) now.files (length made + 2) left
