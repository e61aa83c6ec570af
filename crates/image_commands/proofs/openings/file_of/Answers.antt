use Rattle.image_commands.proofs.Handed.{file-as, file-in}
use Rattle.image_commands.proofs.openings.file_of.Goals as goal

pub returns-in-Ok-clause-file : goal.returns-in-Ok-clause-file
returns-in-Ok-clause-file g c =
    file-in c.args.words.now c.in_ok-disk.disk.bytes c.in-Ok.bytes.items (g.H.Host.files c.args.host.now)
    c.in_ok-disk.ensures.blocks c.in_ok-disk.ensures.disk
    (file-as _ _ _ c.in-Ok.bytes.items c.as_bytes.ensures.value c.in-Ok.ensures)
