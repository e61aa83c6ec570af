use Rattle.imagecheck.proofs.Common.{◌≡◌, ◌≤◌, ◌*◌, length, named_before}
use Rattle.imagecheck.proofs.summary.blocks_in_use.Given as goal

abbrev pub invariant-loop-n : goal.invariant-loop-n
invariant-loop-n l = record {
  total : l.total ≡ length (named_before l.image l.n);
  most : l.total ≤ 66061 * l.n;
}
