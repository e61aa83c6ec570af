use Rattle.inode.proofs.Common.{◌≡◌, length, raw_at}
use Rattle.inode.proofs.Calls.{asked, at-inside, sound-after, tries}
use Rattle.inode.proofs.Nodes.{changes-given, empty-raw}
use Rattle.inode.proofs.volume.Volume.give.Goals as goal

pub give_inode-result-requires : goal.give_inode-result-requires
give_inode-result-requires g c =
    let a = asked c.self.view_is c.self.invariant c.requires.up c.args.number c.requires.node in
    record {
      sound = a.sound;
      inode = a.inode;
      empty = empty-raw a.inode
          (at-inside c.self.view_is (λ s. length (raw_at s.nodes c.args.number).bytes ≡ 0) c.requires.empty);
    }

pub returns : goal.returns
returns g c =
    let a = asked c.self.view_is c.self.invariant c.requires.up c.args.number c.requires.node in
    let empty = at-inside c.self.view_is (λ s. length (raw_at s.nodes c.args.number).bytes ≡ 0) c.requires.empty in
    rw (← c.self.view_is) (tries c.give_inode-result.result c.give_inode-result.ensures
    c.is_err-self-inside.ensures.value (λ x was. changes-given a.inode empty was))

pub invariant_of-self : goal.invariant_of-self
invariant_of-self g c = sound-after c.give_inode-result.result c.give_inode-result.ensures
    c.is_err-self-inside.ensures.value (λ x was. was.sound)
