-- What exec and chdir find.
use Rattle.std.specs.Prelude.{List, Some, ℕ, ◌≡◌}
use Rattle.kernel.specs.Disk.{directory_at}
use Rattle.kernel.specs.Kernel.{Kernel, argument}
use Rattle.spaces.specs.Spaces.{view_at}
use Rattle.unixmodel.specs.Files.{find}
use Rattle.unixmodel.specs.Memory.{path_at}

-- argument 0 is a path that reaches number n
pub record Reaches (k : Kernel) (i n : ℕ) : Type 0 where
  pub path : List ℕ
  pub named : Some path ≡ path_at (view_at k.spaces i).memory (argument k 0)
  pub found : Some n ≡ find k.tree.files (directory_at k i) path
