use Rattle.std.proofs.Common.{ap, arith, length, subst, sym}
use Rattle.blockdev.specs.Blocks.{blocks_of}
use Rattle.imagebytes.proofs.Disks.{image-is}
use Rattle.imagerules.specs.Content.{image_of}
use Rattle.image_files.specs.Opened.{IsPut}
use Rattle.imagebytes.proofs.files.put.Goals as goal

pub returns-clause-put : goal.returns-clause-put
returns-clause-put c =
    let disk = c.in_ok-disk_of in
    let made = c.into_bytes.result.items in
    let old = image-is c.args.image.now disk.field-0.bytes disk.ensures.disk disk.ensures.whole in
    let new = image-is made c.in_ok-left.left.bytes (sym c.into_bytes.ensures.bytes)
    (omega (arith, c.into_bytes.ensures.whole, c.into_bytes.result.ok.0, ap length c.into_bytes.ensures.bytes)) in
    subst (λ b. IsPut b c.args.path.now c.args.bytes.now made) old
    (subst (λ b. IsPut (image_of (blocks_of disk.field-0.bytes)) c.args.path.now c.args.bytes.now b) new
    c.in_ok-left.ensures.put)
