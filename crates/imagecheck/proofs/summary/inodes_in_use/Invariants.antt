use Rattle.imagecheck.proofs.Common.{◌≡◌, ◌≤◌, ◌-◌, length, filter, range_with_len, is_in_use}
use Rattle.imagecheck.proofs.summary.inodes_in_use.Given as goal

abbrev pub invariant-loop-n : goal.invariant-loop-n
invariant-loop-n l = record {
  total : l.total ≡ length (filter (is_in_use l.image) (range_with_len 1 (l.n - 1)));
  most : l.total ≤ l.n;
}
