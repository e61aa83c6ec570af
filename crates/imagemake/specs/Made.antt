-- Names are looked up among those that are made so far.
use Rattle.std.specs.Prelude.{Bool, List, Option, Some, [], false, if◌then◌else◌, nat_lt, option_and_then, option_map}
use Rattle.std.specs.Prelude.{position, slice_get, unwrap_or, ℕ, ◌&&◌, ◌+◌, ◌++◌, ◌-◌, ◌==◌, ◌∷◌, ◌≡◌, ◌≤◌, drop}
use Rattle.std.specs.Prelude.{length}
use Rattle.std.specs.Borrow.{Bor}
use Rattle.std.specs.Str.{bytes_eq}
use Rattle.imagemake.specs.declared.made.Spot.{Spot}
use Rattle.unixmodel.specs.Files.{pieces, split_last}

-- a name in the directory of this number, and whether it is a directory's
pub record MadeName : Type 0 where
  pub directory : ℕ
  pub name : List ℕ
  pub folder : Bool

abbrev pub made_name : ℕ → List ℕ → Bool → MadeName
made_name d name folder = record { directory = d; name = name; folder = folder }

-- the same as an entry of a map
abbrev pub name_of : (ℕ × Bor (List ℕ)) × Bool → MadeName
name_of e = made_name e.0.0 e.0.1.now e.1

-- the names in the order of their numbers, and for how many more there is room
pub record Names : Type 0 where
  pub items : List MadeName
  pub spare : ℕ

-- there is room for the names of that many inodes
abbrev pub HasRoom : ℕ → Names → Type 0
HasRoom inodes made = inodes ≤ length made.items + made.spare

-- it is this name in directory d
abbrev pub stands_at : ℕ → List ℕ → MadeName → Bool
stands_at d name m = (m.directory == d) && bytes_eq m.name name

-- the number that the name has in directory d
unfoldable pub found : List MadeName → ℕ → List ℕ → Option ℕ
found made d name = option_map (λ k. k + 2) (position (stands_at d name) made)

-- whether a number is a directory's
unfoldable pub is_folder : List MadeName → ℕ → Bool
is_folder made n =
    if nat_lt n 2 then n == 1
    else unwrap_or (option_map (λ (m : MadeName). m.folder) (slice_get made (n - 2))) false

-- each name in turn
abbrev pub seek : List MadeName → ℕ → List (List ℕ) → Option ℕ
seek made d [] = Some d
seek made d (name ∷ names) = option_and_then (λ next. seek made next names) (found made d name)

-- what all but the last name reach, and the last
unfoldable pub reach : List MadeName → ℕ → List (List ℕ) → Option (Option ℕ × List ℕ)
reach made d names = option_map (λ (split : List (List ℕ) × List ℕ). (seek made d split.0, split.1)) (split_last names)

-- what is found in the first list is found in the other
abbrev pub Extends : List MadeName → List MadeName → Type 0
Extends made more = (d : ℕ) (name : List ℕ) (n : ℕ) → found made d name ≡ Some n → found more d name ≡ Some n

-- the path leads to number n, whatever else is made: what it holds is looked up from there
pub record LeadsTo (made : List MadeName) (above : List ℕ) (n : ℕ) : Type 0 where
  pub below : (more : List MadeName) → Extends made more → (bs : List ℕ)
      → reach more 1 (pieces (drop 1 (above ++ 0x2f ∷ bs))) ≡ reach more n (pieces bs)

-- what all but the last name of a path reach, and that last name
abbrev pub ReachesSpot : List MadeName → List ℕ → Spot → Type 0
ReachesSpot made path spot = reach made 1 (pieces (drop 1 path)) ≡ Some (Some spot.directory, spot.below.now)
