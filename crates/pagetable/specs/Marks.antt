-- The marks of leaves, and what they allow.
-- The bits are those of an Sv39 entry: V 1, R 2, W 4, X 8, U 16, A 64 and D 128.
use Rattle.std.proofs.Common.{ℕ, ◌+◌, ◌*◌}
use Rattle.frames.specs.Holders.{one_if}
use Rattle.unixmodel.specs.Memory.{Perm}

-- the marks of the leaf of a page: V, R, A and D always, and W, X and U as the page is
unfoldable pub leaf_marks : Perm → ℕ
leaf_marks m = 1 + 2 + 4 * one_if m.writable + 8 * one_if m.executable + 16 * one_if m.user + 64 + 128
