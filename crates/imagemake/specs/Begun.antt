-- Files that a manifest has made so far, and the list in which their names are looked up.
use Rattle.std.specs.Prelude.{IsSome, List, None, length, true, ℕ, ◌<◌, ◌≡◌, ◌≤◌}
use Rattle.unixmodel.specs.Counts.{blocks_of}
use Rattle.unixmodel.specs.Files.{Files, lookup, slot}
use Rattle.unixmodel.specs.Image.{KeepsRules, is_directory_at, is_name}
use Rattle.imagemake.specs.Added.{PackedAt}
use Rattle.imagemake.specs.Made.{MadeName, found, is_folder}

-- the numbers below n are in use, and the next entry takes number n
pub record IsBegun (blocks inodes : ℕ) (files : Files) (n : ℕ) : Type 0 where
  pub rules : KeepsRules files
  pub count : length files ≡ inodes
  pub zero : slot files 0 ≡ None
  pub used : (m : ℕ) → 1 ≤ m → m < n → IsSome (slot files m)
  pub free : (m : ℕ) → n ≤ m → slot files m ≡ None
  pub next : 2 ≤ n
  pub room : blocks_of files ≤ blocks
  pub packed : (d : ℕ) → PackedAt (slot files d)

-- the names that are made are those of the files
pub record IsListed (files : Files) (made : List MadeName) : Type 0 where
  pub names : (d : ℕ) (name : List ℕ) → is_name name ≡ true → lookup files d name ≡ found made d name
  pub folders : (n : ℕ) → is_directory_at files n ≡ is_folder made n
