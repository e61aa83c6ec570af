use Rattle.std.proofs.Common.{◌≡◌, false}
use Rattle.image_files.proofs.walk.write_tree.Given as goal

abbrev pub invariant-loop-turns : goal.invariant-loop-turns
invariant-loop-turns g l = l.tree.failed ≡ false
