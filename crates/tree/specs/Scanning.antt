-- What a scan of a directory's slots finds.
use Rattle.std.specs.Prelude.{Bool, List, None, Option, Some, is_none, is_some, length, ℕ, ◌*◌, ◌/◌, ◌<◌, ◌≡◌, ◌≤◌}
use Rattle.std.specs.Prelude.{true, false, get_or, ⊤, ◌||◌}
use Rattle.blockdev.specs.Splice.{part}
use Rattle.imagerules.specs.Places.{place_of_bytes}
use Rattle.tree.specs.declared.place.Beginning.{Beginning}
use Rattle.tree.specs.declared.place.Found.{Found}
use Rattle.tree.specs.declared.place.Sought.{Sought}
use Rattle.tree.specs.declared.place.Sought.TheVariants.{Name, NameOrFree, Taken}
use Rattle.unixmodel.specs.Files.{Entry, has_name}
use Rattle.unixmodel.specs.Numbers.{number_at}

-- a name begins so, with 0 for bytes that it doesn't have
pub record Begins (name : List ℕ) (begins : Beginning) : Type 0 where
  pub first : begins.first ≡ get_or name 0 0
  pub second : begins.second ≡ get_or name 1 0

-- so does the name that is sought, if one is
abbrev pub BeginsWith : Sought → Beginning → Type 0
BeginsWith (Name name) begins = Begins name.now begins
BeginsWith (NameOrFree name) begins = Begins name.now begins
BeginsWith Taken begins = ⊤

-- whether a slot is what is sought
abbrev pub is_sought : Sought → Option Entry → Bool
is_sought (Name name) o = has_name name.now o
is_sought (NameOrFree name) o = is_none o || has_name name.now o
is_sought Taken o = is_some o

-- slot k of a directory's bytes
abbrev pub place_in : List ℕ → ℕ → Option Entry
place_in bytes k = place_of_bytes (part (16 * k) 16 bytes)

-- the first slot from `from` on that is, and the number in it
pub record IsFirst (sought : Sought) (bytes : List ℕ) (from : ℕ) (found : Found) : Type 0 where
  pub behind : from ≤ found.place
  pub within : found.place < length bytes / 16
  pub before : (k : ℕ) → k < found.place → from ≤ k → is_sought sought (place_in bytes k) ≡ false
  pub here : is_sought sought (place_in bytes found.place) ≡ true
  pub number : found.number ≡ number_at 2 0 (part (16 * found.place) 16 bytes)

-- it is found, if there is one
abbrev pub Scans : Sought → List ℕ → ℕ → Option Found → Type 0
Scans sought bytes from (Some found) = IsFirst sought bytes from found
Scans sought bytes from None = (k : ℕ) → k < length bytes / 16 → from ≤ k → is_sought sought (place_in bytes k) ≡ false
