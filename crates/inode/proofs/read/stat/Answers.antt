use Rattle.cache.proofs.Using.{read-done}
use Rattle.inode.proofs.Reading.{told-inode}
use Rattle.inode.proofs.read.stat.Goals as goal

pub returns : goal.returns
returns g c = read-done c.read_inode.ensures.goes c.in_ok-inode.ensures.done.same
    (told-inode c.args.disk.now.blocks c.args.number c.in_ok-inode.ensures.done.told.is c.told.ensures)
