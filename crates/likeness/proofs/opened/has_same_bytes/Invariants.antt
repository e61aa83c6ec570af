use Rattle.std.proofs.Common.{get_or, ℕ, ◌++◌, ◌<◌, ◌≡◌}
use Rattle.likeness.proofs.opened.has_same_bytes.Given as goal

abbrev pub invariant-loop-k : goal.invariant-loop-k
invariant-loop-k l =
    (j : ℕ) → j < l.k → get_or (l.front ++ l.behind) j 0 ≡ get_or (l.their_front ++ l.their_behind) j 0
