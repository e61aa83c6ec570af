use Rattle.mount.proofs.Common.{arith, refl, vec_len, ◌%◌, ◌≡◌, image_of, flat_files}
use Rattle.blockdev.specs.Blocks.{blocks_of}
use Rattle.mount.proofs.Console.{Denotes-disk, IsFlat-mounted, not-unmounted}
use Rattle.mount.proofs.flat.mount_flat.Goals as goal

pub unreachable-requires : goal.unreachable-requires
unreachable-requires c =
    let image = c.in_ok-image.image in
    let whole = c.in_ok-image.ensures.whole in
    let long : vec_len c.in_ok-image.image % 1024 ≡ 0 = omega (arith, image.ok) in
    c.in_default.ensures.length.0 refl long

pub unreachable-requires-in_default-fault : goal.unreachable-requires-in_default-fault
unreachable-requires-in_default-fault c =
    let bytes = c.in-Ok.device.bytes in
    not-unmounted (image_of (blocks_of bytes)) flat_files _
    (Denotes-disk bytes _ c.in-Ok.ensures.bytes c.in_ok-image.ensures) c.in-Err.ensures.unmounted
    c.in_default-fault.not-NoMemory

pub returns-in-Ok-mount : goal.returns-in-Ok-mount
returns-in-Ok-mount c =
    IsFlat-mounted _ _ 0 _ c.in-Ok.ensures.bytes c.in_ok-image.ensures c.in-Ok-mount.ensures.mounted
