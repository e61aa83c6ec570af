use Rattle.mount.proofs.Holding.{stored-denotes}
use Rattle.mount.proofs.device.unmount.Goals as goal

pub returns-clause-denotes : goal.returns-clause-denotes
returns-clause-denotes g c =
    stored-denotes _ (g.D.BlockDev.content c.into_device.result.0) c.requires.rules c.requires.linked _
    c.into_device.ensures.stored
