-- Who holds a node, and which node goes.
use Rattle.std.specs.Prelude.{Bool, List, None, Option, Some, if◌then◌else◌, nat_lt, slice_index_or, slice_set, true, ℕ}
use Rattle.std.specs.Prelude.{◌+◌, ◌-◌, ◌||◌}
use Rattle.unixmodel.specs.Files.{Files, Node, clear, links_of, slot}
use Rattle.unixmodel.specs.Reap.{kept}

-- how many hold number n
abbrev pub holders : List ℕ → ℕ → ℕ
holders holds n = slice_index_or holds n 0

abbrev pub with_hold : List ℕ → ℕ → List ℕ
with_hold holds n = slice_set holds n (holders holds n + 1)

abbrev pub without_hold : List ℕ → ℕ → List ℕ
without_hold holds n = slice_set holds n (holders holds n - 1)

-- a node stays while it has a link or somebody holds it
abbrev pub stays : List ℕ → ℕ → Option Node → Bool
stays holds n None = true
stays holds n (Some node) = nat_lt 0 (links_of node) || nat_lt 0 (holders holds n)

-- the files without node n, unless it stays
unfoldable pub let_go : List ℕ → Files → ℕ → Files
let_go holds files n = if stays holds n (slot files n) then files else clear files n

-- the files that are left once nobody holds any node: those with links
abbrev pub unheld : Files → Files
unheld files = kept (λ n node. nat_lt 0 (links_of node)) 0 files
