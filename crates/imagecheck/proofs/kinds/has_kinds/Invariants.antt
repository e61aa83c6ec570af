use Rattle.imagecheck.proofs.Common.{ℕ, ◌<◌, ◌≤◌, kind_in}
use Rattle.imagecheck.proofs.kinds.has_kinds.Given as goal

abbrev pub invariant-loop-n : goal.invariant-loop-n
invariant-loop-n l = (m : ℕ) → 1 ≤ m → m < l.n → kind_in l.image m ≤ 3
