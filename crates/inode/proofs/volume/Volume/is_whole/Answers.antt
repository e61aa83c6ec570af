use Rattle.inode.proofs.Calls.{up-inside}
use Rattle.inode.proofs.Nodes.{whole-sound}
use Rattle.inode.proofs.volume.Volume.is_whole.Goals as goal

pub returns : goal.returns
returns g c = rw (← c.self.view_is) (whole-sound (c.self.invariant (up-inside c.self.view_is c.requires)))
