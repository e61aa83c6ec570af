use Rattle.std.proofs.Common.{◌≡◌, false}
use Rattle.image_files.proofs.missing.names_in.Given as goal

abbrev pub invariant-loop-place : goal.invariant-loop-place
invariant-loop-place g l = l.tree.failed ≡ false
