use Rattle.balloc.proofs.Common.{◌≡◌, ℕ, ◌-◌, ◌<◌, ◌≤◌, bit_in}
use Rattle.balloc.proofs.bitmap.first_clear.Given as goal

abbrev pub invariant-scan : goal.invariant-scan
invariant-scan l = record {
  low : l.from ≤ l.i;
  high : l.i ≤ 8192;
  set_so_far : (k : ℕ) → l.from ≤ k → k < l.i → bit_in l.block k ≡ 1;
}

abbrev pub decreases-scan : goal.decreases-scan
decreases-scan l = l.to - l.i
