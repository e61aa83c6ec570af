-- The slots of a directory after "." and "..", one by one.
use Rattle.std.specs.Prelude.{All, AllPairs, IsSome, IsTrue, List, None, Option, Some, drop, if◌then◌else◌, map, take}
use Rattle.std.specs.Prelude.{ℕ, ⊤, ◌<◌, ◌==◌, ◌≡◌, ◌≢◌, ◌≤◌}
use Rattle.unixmodel.specs.Files.{Entry, dot, dot_dot, name_bytes, slot, taken}
use Rattle.unixmodel.specs.Image.{contents_in, inodes_in, is_name, kind_in, names_of, parent_of}
use Rattle.unixmodel.specs.Numbers.{number}
use Rattle.imagerules.specs.Places.{files_in, places_in}

-- the entry has a name, and its number is in use
pub record IsGood (image : List ℕ) (e : Entry) : Type 0 where
  pub name : IsTrue (is_name e.name)
  pub number : IsSome (slot (files_in image) e.number)

-- what holds of the entry in a slot, if it is taken
abbrev pub IfTaken : (Entry → Type 0) → Option Entry → Type 0
IfTaken P None = ⊤
IfTaken P (Some e) = P e

abbrev pub GoodPlace : List ℕ → Option Entry → Type 0
GoodPlace image o = IfTaken (IsGood image) o

-- the entries before slot k
abbrev pub entries_to : List ℕ → ℕ → List Entry
entries_to bytes k = taken (drop 2 (take k (places_in bytes)))

abbrev pub entries_in : List ℕ → List Entry
entries_in bytes = taken (drop 2 (places_in bytes))

-- a name, filled up to 14 bytes, as a number
abbrev pub name_number : Entry → ℕ
name_number e = number (name_bytes e.name)

abbrev pub name_numbers : List Entry → List ℕ
name_numbers es = map name_number es

-- no two entries have one name
abbrev pub AreOther : Entry → Entry → Type 0
AreOther e f = e.name ≢ f.name

-- the entries of a directory with these bytes, one by one and in pairs
pub record HasNames (image bytes : List ℕ) : Type 0 where
  pub good : All (IsGood image) (entries_in bytes)
  pub once : AllPairs AreOther (entries_in bytes)

abbrev pub NamesDirectories : List ℕ → Type 0
NamesDirectories image = (n : ℕ) → 1 ≤ n → n < inodes_in image → kind_in image n ≡ 1
    → HasNames image (contents_in image n)

-- a directory begins with ".", which is itself, and "..", which is the one above
pub record FitsFront (d above : ℕ) (bytes : List ℕ) : Type 0 where
  pub own : slot (places_in bytes) 0 ≡ Some (record { name = dot; number = d })
  pub parent : slot (places_in bytes) 1 ≡ Some (record { name = dot_dot; number = above })

abbrev pub HasFronts : List ℕ → Type 0
HasFronts image = (n : ℕ) → 1 ≤ n → n < inodes_in image → kind_in image n ≡ 1
    → FitsFront n (parent_of (files_in image) n) (contents_in image n)

-- one slot names each directory, and none the root
abbrev pub AreNamed : List ℕ → Type 0
AreNamed image = (n : ℕ) → 1 ≤ n → n < inodes_in image → kind_in image n ≡ 1
    → names_of (files_in image) n ≡ (if n == 1 then 0 else 1)
