use Rattle.inode.proofs.Calls.{asked, writes-sound, sound-after, tries}
use Rattle.inode.proofs.Nodes.{writes-from}
use Rattle.inode.proofs.volume.Volume.try_writing.Goals as goal

pub write_at-result-requires : goal.write_at-result-requires
write_at-result-requires g c = asked c.self.view_is c.self.invariant c.requires.up c.args.number c.requires.node

pub returns : goal.returns
returns g c =
    let a = asked c.self.view_is c.self.invariant c.requires.up c.args.number c.requires.node in
    rw (← c.self.view_is) (tries c.write_at-result.result c.write_at-result.ensures c.is_err-self-inside.ensures.value
    (writes-from c.self.inside.geometry c.self.inside.disk c.write_at-result.new.disk c.self.inside.failed
    c.is_err-self-inside.result c.args.number c.args.at c.args.bytes.now a.inode))

pub invariant_of-self : goal.invariant_of-self
invariant_of-self g c =
    let a = asked c.self.view_is c.self.invariant c.requires.up c.args.number c.requires.node in
    sound-after c.write_at-result.result c.write_at-result.ensures c.is_err-self-inside.ensures.value
    (writes-sound c.args.number c.args.at c.args.bytes.now a.sound)
