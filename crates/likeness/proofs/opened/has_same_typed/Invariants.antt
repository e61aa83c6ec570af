use Rattle.std.proofs.Common.{get_or, ℕ, ◌++◌, ◌<◌, ◌≡◌}
use Rattle.likeness.proofs.opened.has_same_typed.Given as goal

abbrev pub invariant-loop-at : goal.invariant-loop-at
invariant-loop-at l = (k : ℕ) → k < l.at
    → get_or (l.one.committed ++ l.one.edited) k 0 ≡ get_or (l.other.committed ++ l.other.edited) k 0
