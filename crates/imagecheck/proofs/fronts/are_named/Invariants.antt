use Rattle.imagecheck.proofs.Common.{ℕ, ◌≡◌, ◌<◌, ◌≤◌, cond, ◌==◌, kind_in, names_of, files_in}
use Rattle.imagecheck.proofs.fronts.are_named.Given as goal

abbrev pub invariant-loop-n : goal.invariant-loop-n
invariant-loop-n l = (m : ℕ) → 1 ≤ m → m < l.n → kind_in l.image m ≡ 1
    → names_of (files_in l.image) m ≡ cond (m == 1) 0 1
