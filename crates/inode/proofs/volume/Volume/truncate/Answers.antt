use Rattle.inode.proofs.Calls.{asked, sound-after, tries}
use Rattle.inode.proofs.Nodes.{changes-wrote}
use Rattle.inode.proofs.volume.Volume.truncate.Goals as goal

pub truncate-result-requires : goal.truncate-result-requires
truncate-result-requires g c = asked c.self.view_is c.self.invariant c.requires.up c.args.number c.requires.node

pub returns : goal.returns
returns g c =
    let a = asked c.self.view_is c.self.invariant c.requires.up c.args.number c.requires.node in
    rw (← c.self.view_is) (tries c.truncate-result.result c.truncate-result.ensures c.is_err-self-inside.ensures.value
    (λ x was. changes-wrote a.inode was))

pub invariant_of-self : goal.invariant_of-self
invariant_of-self g c = sound-after c.truncate-result.result c.truncate-result.ensures
    c.is_err-self-inside.ensures.value (λ x was. was.sound)
