use Rattle.inode.proofs.Calls.{up-inside, flushed}
use Rattle.inode.proofs.volume.Volume.into_device.Goals as goal

pub returns : goal.returns
returns g c =
    rw (← c.self.view_is) (flushed g.D.BlockDev.content g.D.BlockDev.failures c.flush-flushed.result
    c.flush-flushed.ensures c.into_device.ensures.device c.into_device.ensures.failures
    (c.self.invariant (up-inside c.self.view_is c.requires.up)))
