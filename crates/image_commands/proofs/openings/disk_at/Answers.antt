use Rattle.image_commands.proofs.Handed.{disk-of}
use Rattle.image_commands.proofs.openings.disk_at.Goals as goal

pub returns-clause-disk : goal.returns-clause-disk
returns-clause-disk g c =
    disk-of (λ d. d.bytes) _ c.in_ok-read_image.field-0 c.args.image.now _ c.in_ok-read_image.ensures.front
    c.disk_of.result
    c.disk_of.ensures.whole c.disk_of.ensures.cut
