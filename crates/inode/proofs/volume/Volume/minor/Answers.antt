use Rattle.inode.proofs.Calls.{asked, looks, sound-same}
use Rattle.inode.proofs.Nodes.{minor-raw}
use Rattle.inode.proofs.volume.Volume.minor.Goals as goal

pub minor-result-requires : goal.minor-result-requires
minor-result-requires g c = asked c.self.view_is c.self.invariant c.requires.up c.args.number c.requires.node

pub returns : goal.returns
returns g c =
    let a = asked c.self.view_is c.self.invariant c.requires.up c.args.number c.requires.node in
    rw (← c.self.view_is) (looks c.minor-result.result c.minor-result.ensures c.is_err-self-inside.ensures.value
    (minor-raw a.inode))

pub invariant_of-self : goal.invariant_of-self
invariant_of-self g c = sound-same c.minor-result.result c.minor-result.ensures c.is_err-self-inside.ensures.value
    (asked c.self.view_is c.self.invariant c.requires.up c.args.number c.requires.node).sound
