-- What calls read of their arguments, and what fstat writes.
use Rattle.std.specs.Prelude.{List, Option, ℕ, ◌++◌}
use Rattle.inode.specs.declared.InodeStat.{InodeStat}
use Rattle.kernel.specs.Kernel.{Kernel, argument}
use Rattle.spaces.specs.Spaces.{view_at}
use Rattle.unixmodel.specs.Memory.{path_at, zeros}
use Rattle.unixmodel.specs.Numbers.{le}

-- the path in an argument of the call of process i
abbrev pub path_argument : Kernel → ℕ → ℕ → Option (List ℕ)
path_argument k i place = path_at (view_at k.spaces i).memory (argument k place)

-- the bytes that fstat writes of a node with this number
unfoldable pub stat_told : ℕ → InodeStat → List ℕ
stat_told number told = le 4 1 ++ le 4 number ++ le 2 told.kind ++ le 2 told.links ++ zeros 4 ++ le 8 told.size
