use Rattle.inode.proofs.Calls.{asked, looks, sound-same}
use Rattle.inode.proofs.Nodes.{told-raw}
use Rattle.inode.proofs.volume.Volume.stat.Goals as goal

pub stat-result-requires : goal.stat-result-requires
stat-result-requires g c = asked c.self.view_is c.self.invariant c.requires.up c.args.number c.requires.node

pub returns : goal.returns
returns g c =
    let a = asked c.self.view_is c.self.invariant c.requires.up c.args.number c.requires.node in
    rw (← c.self.view_is) (looks c.stat-result.result c.stat-result.ensures c.is_err-self-inside.ensures.value
    (told-raw a.inode))

pub invariant_of-self : goal.invariant_of-self
invariant_of-self g c = sound-same c.stat-result.result c.stat-result.ensures c.is_err-self-inside.ensures.value
    (asked c.self.view_is c.self.invariant c.requires.up c.args.number c.requires.node).sound
