use Rattle.tree.proofs.Storing.{held-some, inside-holds, inside-room, up-inside}
use Rattle.tree.proofs.Writing.{device-lost, rewrite-done, rewrite-inside, rewrite-refused}
use Rattle.tree.proofs.tree.Tree.rewrite.Goals as goal
use Rattle.tree.proofs.tree.Tree.rewrite.Goals.{in-Ok, in-Err+in-Device}

pub write_at-requires : goal.write_at-requires
write_at-requires g c = record {
  up = up-inside c.self.view_is c.requires.up;
  node = held-some (inside-holds c.self.invariant c.self.view_is c.requires.up) _ _ c.requires.able.1.here;
}

pub unreachable-requires : goal.unreachable-requires
unreachable-requires g c =
    rewrite-refused _ (inside-holds c.self.invariant c.self.view_is c.requires.up)
    (inside-room c.self.invariant c.self.view_is c.requires.up) c.requires.able.1 c.in-Err.fault
    c.in_default.not-Device c.in-Err.ensures.refused

pub returns : goal.returns
returns g c = elim c.match-write_at.branch [
  | in-Ok w ↦ rw w.result-is (rewrite-done c.self.invariant c.self.view_is c.requires.up w.in-Ok.ensures)
  | in-Err+in-Device w ↦ rw w.result-is
      (device-lost c.self.invariant c.self.view_is c.requires.up (rw w.in-Device.is at w.in-Err.ensures))
]

pub invariant_of-self : goal.invariant_of-self
invariant_of-self g c = rewrite-inside c.self.invariant c.self.view_is c.requires.up c.requires.able.1
    c.write_at.result c.write_at.ensures
