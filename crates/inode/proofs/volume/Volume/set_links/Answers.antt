use Rattle.inode.proofs.Calls.{asked, sound-after, tries}
use Rattle.inode.proofs.Nodes.{changes-links}
use Rattle.inode.proofs.volume.Volume.set_links.Goals as goal

pub set_links-result-requires : goal.set_links-result-requires
set_links-result-requires g c = asked c.self.view_is c.self.invariant c.requires.up c.args.number c.requires.node

pub returns : goal.returns
returns g c =
    let a = asked c.self.view_is c.self.invariant c.requires.up c.args.number c.requires.node in
    rw (← c.self.view_is) (tries c.set_links-result.result c.set_links-result.ensures
    c.is_err-self-inside.ensures.value (λ x was. changes-links a.inode was))

pub invariant_of-self : goal.invariant_of-self
invariant_of-self g c = sound-after c.set_links-result.result c.set_links-result.ensures
    c.is_err-self-inside.ensures.value (λ x was. was.sound)
