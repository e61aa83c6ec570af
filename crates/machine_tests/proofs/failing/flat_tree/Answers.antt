use Rattle.mount.proofs.Console.{IsFlat-mounted}
use Rattle.std.proofs.Common.{ap, ◌∙◌}
use Rattle.blockdev.specs.Disk.{Disk, count_of}
use Rattle.machine_tests.proofs.failing.flat_tree.Goals as goal

pub returns-in-Ok-mount : goal.returns-in-Ok-mount
returns-in-Ok-mount c =
    let failing = c.new-2.result in
    IsFlat-mounted failing.device.bytes c.in-Ok.image.items (count_of failing.left 0) c.in-Ok-mount.tree
    (ap (λ (disk : Disk). disk.bytes) c.new-2.ensures.device ∙ c.in-Ok-new.ensures.bytes) c.in-Ok.ensures
    c.in-Ok-mount.ensures.mounted
