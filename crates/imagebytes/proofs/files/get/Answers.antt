use Rattle.std.proofs.Common.{subst}
use Rattle.std.specs.Prelude.{IfOk}
use Rattle.imagebytes.proofs.Disks.{image-is}
use Rattle.image_files.specs.Opened.{IsFileOf}
use Rattle.imagebytes.proofs.files.get.Goals as goal

pub returns : goal.returns
returns c =
    let disk = c.in_ok-disk_of in
    subst (λ b. IfOk c.read_file.result (λ bytes. IsFileOf b c.args.path.now bytes.items))
    (image-is c.args.image.now disk.field-0.bytes disk.ensures.disk disk.ensures.whole) c.read_file.ensures
