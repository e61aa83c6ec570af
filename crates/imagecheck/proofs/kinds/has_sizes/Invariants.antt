use Rattle.imagecheck.proofs.Common.{ℕ, ◌<◌, ◌≤◌, format_of, kind_in, length_in, most_bytes, FitsKind}
use Rattle.imagecheck.proofs.kinds.has_sizes.Given as goal

abbrev pub invariant-loop-n : goal.invariant-loop-n
invariant-loop-n l = (m : ℕ) → 1 ≤ m → m < l.n
    → FitsKind (most_bytes (format_of l.image)) (kind_in l.image m) (length_in l.image m)
