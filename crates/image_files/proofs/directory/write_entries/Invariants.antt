use Rattle.std.proofs.Common.{◌≡◌, false}
use Rattle.image_files.proofs.directory.write_entries.Given as goal

abbrev pub invariant-loop-place : goal.invariant-loop-place
invariant-loop-place g l = l.tree.failed ≡ false
