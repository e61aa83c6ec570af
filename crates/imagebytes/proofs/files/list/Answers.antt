use Rattle.std.proofs.Common.{subst}
use Rattle.imagebytes.proofs.Disks.{image-is}
use Rattle.image_files.specs.Listed.{IsDirectoryOf}
use Rattle.imagebytes.proofs.files.list.Goals as goal

pub returns : goal.returns
returns c =
    let disk = c.in_ok-disk_of in
    subst (λ b. IsDirectoryOf b c.args.path.now)
    (image-is c.args.image.now disk.field-0.bytes disk.ensures.disk disk.ensures.whole) c.in_ok-write_directory.ensures
