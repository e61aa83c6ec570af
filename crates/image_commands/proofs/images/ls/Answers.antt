use Rattle.image_commands.proofs.Handed.{lists-in, told}
use Rattle.image_commands.proofs.images.ls.Goals as goal

pub returns-in-Ok-clause-listed : goal.returns-in-Ok-clause-listed
returns-in-Ok-clause-listed g c =
    told c.flushed.result (lists-in c.args.words c.in_ok-disk.disk.bytes (g.H.Host.files c.args.host.now)
    c.in_ok-disk.ensures.blocks c.in_ok-disk.ensures.disk c.in-Ok.ensures)
