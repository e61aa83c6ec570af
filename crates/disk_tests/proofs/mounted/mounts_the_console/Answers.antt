use Rattle.std.proofs.Common.{ap, subst}
use Rattle.std.specs.Prelude.{IfOk}
use Rattle.unixmodel.specs.Files.{slot}
use Rattle.unixmodel.specs.Files.Node.{Device}
use Rattle.unixmodel.specs.Start.{flat_files}
use Rattle.mount.specs.Mounted.{IsFlat}
use Rattle.disk_tests.proofs.mounted.mounts_the_console.Goals as goal

-- number 2 is the console
pub stat-requires-clause-node : goal.stat-requires-clause-node
unfolding flat_files
stat-requires-clause-node g c =
    let flat = subst (λ r. IfOk r IsFlat) c.expect-tree.ensures c.mount_flat.ensures in
    (Device 1 1 0, ap (λ files. slot files 2) flat.files)
