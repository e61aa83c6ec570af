use Rattle.std.proofs.Common.{◌≡◌, false}
use Rattle.symbolizer.proofs.searching.Search.look_in.Given as goal

abbrev pub invariant-loop-place : goal.invariant-loop-place
invariant-loop-place g l = l.tree.failed ≡ false
