-- What a call on names leaves: the rules, the nodes that were there, and no node without links except the one that lost
-- its last.
use Rattle.std.specs.Prelude.{IsSome, Some, [], option_map, ℕ, ◌≡◌, ◌≢◌}
use Rattle.unixmodel.specs.Files.{Files, Node, Spot, links_of, lookup, slot}
use Rattle.unixmodel.specs.Files.Node.{Device, Directory, File}
use Rattle.name_rules.specs.Rules.{KeepsTree}

-- what never changes of a node: its type, and the numbers of a device
abbrev pub shape : Node → Node
shape (File links bytes) = File 0 []
shape (Device links major minor) = Device 0 major minor
shape (Directory links places) = Directory 0 []

abbrev pub Stays : Files → Files → Type 0
Stays files more = (m : ℕ) → IsSome (slot files m) → option_map shape (slot more m) ≡ option_map shape (slot files m)

-- a node without links had none before
pub record WasIdle (files : Files) (m : ℕ) : Type 0 where
  pub was : Node
  pub here : slot files m ≡ Some was
  pub none : links_of was ≡ 0

abbrev pub IsIdle : Files → Files → ℕ → Type 0
IsIdle files more m = (node : Node) → slot more m ≡ Some node → links_of node ≡ 0 → WasIdle files m

-- no node loses its last link
pub record Changed (files more : Files) : Type 0 where
  pub tree : KeepsTree more
  pub stays : Stays files more
  pub idle : (m : ℕ) → IsIdle files more m

-- one name less
pub record Loses (files more : Files) (at : Spot) : Type 0 where
  pub number : ℕ
  pub named : lookup files at.directory at.name ≡ Some number
  pub tree : KeepsTree more
  pub stays : Stays files more
  pub idle : (m : ℕ) → m ≢ number → IsIdle files more m
