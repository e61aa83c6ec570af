use Rattle.inode.proofs.Common.{◌<◌, ◌≡◌, None, refl, slot}
use Rattle.inode.proofs.Calls.{at-inside, up-inside, sound-after, tries}
use Rattle.inode.proofs.Nodes.{changes-taken, unused-free}
use Rattle.inode.proofs.volume.Volume.take_at.Goals as goal

pub take_inode_at-result-requires : goal.take_inode_at-result-requires
take_inode_at-result-requires g c = record {
  sound = c.self.invariant (up-inside c.self.view_is c.requires.up);
  unused = unused-free c.self.inside.disk.blocks c.self.inside.geometry.inodes c.args.number refl c.requires.low
      (at-inside c.self.view_is (λ s. c.args.number < s.geometry.inodes) c.requires.high)
      (at-inside c.self.view_is (λ s. slot s.nodes c.args.number ≡ None) c.requires.free);
}

pub returns : goal.returns
returns g c =
    let free = at-inside c.self.view_is (λ s. slot s.nodes c.args.number ≡ None) c.requires.free in
    rw (← c.self.view_is) (tries c.take_inode_at-result.result c.take_inode_at-result.ensures
    c.is_err-self-inside.ensures.value (λ x was. changes-taken c.args.kind free was))

pub invariant_of-self : goal.invariant_of-self
invariant_of-self g c = sound-after c.take_inode_at-result.result c.take_inode_at-result.ensures
    c.is_err-self-inside.ensures.value (λ x was. was.sets.sound)
