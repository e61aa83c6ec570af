use Rattle.std.proofs.Common.{◌≡◌, false}
use Rattle.symbolizer.proofs.searching.programs.Given as goal

abbrev pub invariant-loop-looked : goal.invariant-loop-looked
invariant-loop-looked g l = l.tree.failed ≡ false
