use Rattle.inode.proofs.Nodes.{told-any}
use Rattle.inode.proofs.Calls.{up-inside, looks, sound-same}
use Rattle.inode.proofs.volume.Volume.look.Goals as goal

pub look-result-requires : goal.look-result-requires
look-result-requires g c = c.self.invariant (up-inside c.self.view_is c.requires.up)

pub returns : goal.returns
returns g c = rw (← c.self.view_is)
    (looks c.look-result.result c.look-result.ensures c.is_err-self-inside.ensures.value
    (told-any c.self.inside.disk.blocks c.self.inside.geometry.inodes c.args.number))

pub invariant_of-self : goal.invariant_of-self
invariant_of-self g c = sound-same c.look-result.result c.look-result.ensures c.is_err-self-inside.ensures.value
    (c.self.invariant (up-inside c.self.view_is c.requires.up))
