-- Nodes that are no directories.
use Rattle.std.specs.Prelude.{[]}
use Rattle.tree.specs.declared.making.Leaf.{Leaf}
use Rattle.tree.specs.declared.making.Leaf.TheVariants as leaf
use Rattle.unixmodel.specs.Files.{Node}

-- a new one
abbrev pub leaf_node : Leaf → Node
leaf_node leaf.File = Node.File 1 []
leaf_node (leaf.Device major minor) = Node.Device 1 major minor
