use Rattle.imagecheck.proofs.Common.{ℕ, ◌*◌, ◌<◌, ◌≤◌, drop, take, GoodPlace, place_of_bytes}
use Rattle.imagecheck.proofs.entries.are_good.Given as goal

abbrev pub invariant-loop-k : goal.invariant-loop-k
invariant-loop-k l = (j : ℕ) → j < l.k → 2 ≤ j → GoodPlace l.image (place_of_bytes (take 16 (drop (16 * j) l.bytes)))
