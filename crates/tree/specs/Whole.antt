-- What the files of every disk keep.
use Rattle.std.specs.Prelude.{None, Some, length, ℕ, ◌<◌, ◌≡◌, ◌≢◌, ◌≤◌}
use Rattle.tree.specs.Stored.{FitsPlaces}
use Rattle.tree.specs.Tree.{FileTree}
use Rattle.unixmodel.specs.Counts.{blocks_of}
use Rattle.unixmodel.specs.Files.{Node, longest, size_of, slot}

-- number 0 has no node, there are blocks for the nodes, each slot of a directory has 16 bytes, and each node can be
-- held
pub record IsWhole (t : FileTree) : Type 0 where
  pub zero : slot t.files 0 ≡ None
  pub within : blocks_of t.files ≤ t.block_limit
  pub places : (n : ℕ) → FitsPlaces (slot t.files n)
  -- the number of each node is one of those that can be held
  pub numbers : (n : ℕ) → slot t.files n ≢ None → (n < length t.holds) × (n < 8192)
  pub most : length t.files ≤ 8192
  -- no file is longer than one can be
  pub short : (n : ℕ) (node : Node) → slot t.files n ≡ Some node → size_of node ≤ longest
