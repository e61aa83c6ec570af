use Rattle.image_commands.proofs.Handed.{checks-in}
use Rattle.image_commands.proofs.images.check.Goals as goal

pub returns-in-Ok-clause-used : goal.returns-in-Ok-clause-used
returns-in-Ok-clause-used g c =
    checks-in c.args.words c.in_ok-disk.disk.bytes c.in-Ok.summary (g.H.Host.files c.args.host.now)
    c.in_ok-disk.ensures.blocks c.in_ok-disk.ensures.disk (record {
      files = _;
      denotes = c.in-Ok.ensures.denotes;
      inodes = c.in-Ok.ensures.inodes;
      blocks = c.in-Ok.ensures.blocks;
    })
