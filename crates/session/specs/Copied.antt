-- Bytes that are copied into a buffer.
use Rattle.std.specs.Prelude.{List, None, Option, Some, drop, length, min, take, ℕ, ◌++◌, ◌≡◌}
use Rattle.unixmodel.specs.Memory.{Page}
use Rattle.vm.specs.declared.Perm.{Perm}
use Rattle.vm.specs.Leaf.{marks_from}

-- a buffer to whose front these bytes were copied, as many as it has room for
abbrev pub copied : List ℕ → List ℕ → List ℕ
copied bytes old = take (min (length bytes) (length old)) bytes ++ drop (min (length bytes) (length old)) old

-- the page, if there is one, is copied, and its marks are returned
abbrev pub ShowsPage : Option Page → List ℕ → List ℕ → Option Perm → Type 0
ShowsPage None old new None = new ≡ old
ShowsPage None old new (Some marks) = ⊥
ShowsPage (Some page) old new None = ⊥
ShowsPage (Some page) old new (Some marks) = (marks_from marks ≡ page.marks) × (new ≡ copied page.bytes old)
