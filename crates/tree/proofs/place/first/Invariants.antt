use Rattle.tree.proofs.Common.{◌≡◌, ◌<◌, ◌≤◌, ℕ, false, is_sought, place_in}
use Rattle.tree.proofs.place.first.Given as goal

abbrev pub invariant-loop-k : goal.invariant-loop-k
invariant-loop-k l = (j : ℕ) → j < l.k → 0 ≤ j → is_sought l.sought (place_in l.places j) ≡ false
