-- The files after a name was removed, and what the call returns.
use Rattle.std.specs.Prelude.{IsSome, List, None, Option, Some, ⊤, false, option_and_then, option_map, suc, true, ℕ}
use Rattle.std.specs.Prelude.{◌≡◌, ◌≢◌}
use Rattle.tree.specs.declared.TreeFault.{TreeFault}
use Rattle.tree.specs.declared.TreeFault.TheVariants.{DotName, Device, NotEmpty, NotFound}
use Rattle.tree.specs.Holding.{let_go}
use Rattle.unixmodel.specs.NameCalls.{may_remove, unlinked}
use Rattle.unixmodel.specs.Files.{Entry, Files, Node, Spot, is_dot_name, lookup, slot, spot_of}
use Rattle.unixmodel.specs.Files.Node.{Directory}

-- d is a directory that has links, and each number that it names is that of a node
pub record IsNaming (files : Files) (d : ℕ) : Type 0 where
  pub links : ℕ
  pub places : List (Option Entry)
  pub here : slot files d ≡ Some (Directory (suc links) places)
  pub numbers : (k : ℕ) (e : Entry) → slot places k ≡ Some e → IsSome (slot files e.number)

-- the files are what the definitions make, and the name was that of number n, whose node is still there
pub record Unlinks (old new : Files) (at : Spot) (n : ℕ) : Type 0 where
  pub made : unlinked old at ≡ Some new
  pub named : lookup old at.directory at.name ≡ Some n
  pub stands : slot new n ≢ None

-- the name is that of a directory with names
pub record IsBusy (files : Files) (at : Spot) : Type 0 where
  pub number : ℕ
  pub node : Node
  pub named : lookup files at.directory at.name ≡ Some number
  pub here : slot files number ≡ Some node
  pub busy : may_remove node ≡ false

-- why a name doesn't go
abbrev pub LacksName : Files → Spot → TreeFault → Type 0
LacksName files at DotName = is_dot_name at.name ≡ true
LacksName files at NotFound = lookup files at.directory at.name ≡ None
LacksName files at NotEmpty = IsBusy files at
LacksName files at Device = ⊤
LacksName files at _ = ⊥

-- ---- by path

-- the files without a name, and without its node where nothing keeps that any more
unfoldable pub unlinked_in : List ℕ → Files → ℕ → List ℕ → Option Files
unlinked_in holds files d path =
    option_and_then (λ at. option_and_then (λ n. option_map (λ less. let_go holds less n) (unlinked files at))
    (lookup files at.directory at.name)) (spot_of files d path)
