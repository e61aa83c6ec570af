use Rattle.inode.proofs.Nodes.{takes-lowest}
use Rattle.inode.proofs.Calls.{takes-sound, up-inside, sound-after, tries}
use Rattle.inode.proofs.volume.Volume.take.Goals as goal

pub take_inode-result-requires : goal.take_inode-result-requires
take_inode-result-requires g c = record { sound = c.self.invariant (up-inside c.self.view_is c.requires.up) }

pub returns : goal.returns
returns g c = rw (← c.self.view_is)
    (tries c.take_inode-result.result c.take_inode-result.ensures c.is_err-self-inside.ensures.value
    (takes-lowest c.self.inside.geometry c.self.inside.disk c.take_inode-result.new.disk c.self.inside.failed
    c.is_err-self-inside.result c.args.kind c.args.links))

pub invariant_of-self : goal.invariant_of-self
invariant_of-self g c = sound-after c.take_inode-result.result c.take_inode-result.ensures
    c.is_err-self-inside.ensures.value
    (λ o was. takes-sound c.args.kind c.args.links (c.self.invariant (up-inside c.self.view_is c.requires.up)) o was)
