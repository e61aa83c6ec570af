-- What a path reaches, and why its last name may have no spot.
use Rattle.std.specs.Prelude.{List, None, Option, Some, false, option_and_then, option_map, zero, ⊤, ℕ, ◌≡◌}
use Rattle.tree.specs.declared.TreeFault.{TreeFault}
use Rattle.tree.specs.declared.TreeFault.TheVariants.{DeadDir, Device, NotDir, NotFound}
use Rattle.unixmodel.specs.Files.{Entry, Files, Node, follow, is_directory, parts, slot, split_last, start_of}
use Rattle.unixmodel.specs.Files.Node.{Directory}

-- what all but the last of these names reach from d, and the last
abbrev pub reach : Files → ℕ → List (List ℕ) → Option (ℕ × List ℕ)
reach files d names = option_and_then (λ split. option_map (λ k. (k, split.1)) (follow files d split.0))
    (split_last names)

unfoldable pub above : Files → ℕ → List ℕ → Option (ℕ × List ℕ)
above files d path = reach files (start_of d path) (parts path)

-- what lies above the last name is no directory
pub record IsNoDirectory (files : Files) (d : ℕ) (path : List ℕ) : Type 0 where
  pub number : ℕ
  pub name : List ℕ
  pub node : Node
  pub above : above files d path ≡ Some (number, name)
  pub here : slot files number ≡ Some node
  pub other : is_directory node ≡ false

-- what lies above the last name is a directory without links
pub record IsDead (files : Files) (d : ℕ) (path : List ℕ) : Type 0 where
  pub number : ℕ
  pub name : List ℕ
  pub places : List (Option Entry)
  pub above : above files d path ≡ Some (number, name)
  pub here : slot files number ≡ Some (Directory zero places)

-- why a path has no spot
abbrev pub LacksSpot : Files → ℕ → List ℕ → TreeFault → Type 0
LacksSpot files d path NotFound = above files d path ≡ None
LacksSpot files d path NotDir = IsNoDirectory files d path
LacksSpot files d path DeadDir = IsDead files d path
LacksSpot files d path Device = ⊤
LacksSpot files d path _ = ⊥
