use Rattle.inode.proofs.Calls.{asked, looks, sound-same}
use Rattle.inode.proofs.Nodes.{read-raw}
use Rattle.inode.proofs.volume.Volume.read_at.Goals as goal

pub read_at-result-requires : goal.read_at-result-requires
read_at-result-requires g c = asked c.self.view_is c.self.invariant c.requires.up c.args.number c.requires.node

pub returns : goal.returns
returns g c =
    let a = asked c.self.view_is c.self.invariant c.requires.up c.args.number c.requires.node in
    rw (← c.self.view_is) (looks c.read_at-result.result c.read_at-result.ensures c.is_err-self-inside.ensures.value
    (read-raw a.inode))

pub invariant_of-self : goal.invariant_of-self
invariant_of-self g c = sound-same c.read_at-result.result c.read_at-result.ensures c.is_err-self-inside.ensures.value
    (asked c.self.view_is c.self.invariant c.requires.up c.args.number c.requires.node).sound
