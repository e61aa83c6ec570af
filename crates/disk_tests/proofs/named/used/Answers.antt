use Rattle.std.proofs.Common.{length, subst, [], ◌∷◌}
use Rattle.std.specs.Prelude.{IfOk, flat_map}
use Rattle.blockdev.specs.Blocks.{blocks_of}
use Rattle.blockdev.specs.Disk.{count_of}
use Rattle.mount.specs.Mounted.{IsMounted}
use Rattle.disk_tests.proofs.named.used.Goals as goal

pub returns : goal.returns
returns g c =
    let disk = c.fail_after.result in
    let mounted = subst (λ r. IfOk r
    (IsMounted (flat_map (λ b. b) (blocks_of disk.device.bytes)) (length disk.device.bytes ∷ [])
    (count_of disk.left 0))) c.expect.ensures c.mount.ensures.mounted in
    record { up = mounted.up; rules = mounted.rules }
