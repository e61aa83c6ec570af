use Rattle.imagecheck.proofs.Common.{ℕ, ◌≡◌, ◌<◌, ◌≤◌, contents_in, kind_in, parent_of, FitsFront, files_in}
use Rattle.imagecheck.proofs.fronts.has_fronts.Given as goal

abbrev pub invariant-loop-n : goal.invariant-loop-n
invariant-loop-n l = (m : ℕ) → 1 ≤ m → m < l.n → kind_in l.image m ≡ 1
    → FitsFront m (parent_of (files_in l.image) m) (contents_in l.image m)
