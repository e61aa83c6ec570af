use Rattle.tree.proofs.Common.{Err, Ok, refl, PastEnd, TooLong}
use Rattle.inode.specs.declared.InodeFault.TheVariants.{Blocks}
use Rattle.tree.proofs.Writing.{device-lost, write-inside, write-serves}
use Rattle.tree.proofs.Storing.{held-some, inside-holds, up-inside}
use Rattle.tree.proofs.tree.Tree.write.Goals as goal
use Rattle.tree.proofs.tree.Tree.write.Goals.{in-Err-Blocks, in-Err-Device, in-Err-PastEnd, in-Err-TooLong, in-Ok}

pub write_at-requires : goal.write_at-requires
write_at-requires g c = record {
  up = up-inside c.self.view_is c.requires.up;
  node = held-some (inside-holds c.self.invariant c.self.view_is c.requires.up) _ _ c.requires.file.here;
}

pub returns : goal.returns
returns g c = elim c.match-write_at.branch [
  | in-Ok w ↦ rw w.result-is
      (write-serves c.self.invariant c.self.view_is c.requires.up c.requires.file (Ok _) w.in-Ok.ensures refl)
  | in-Err-Blocks w ↦ rw w.result-is
      (write-serves c.self.invariant c.self.view_is c.requires.up c.requires.file
      (Err (Blocks w.in-Err-Blocks.written)) (rw w.in-Err-Blocks.field-0-is at w.in-Err-Blocks.ensures) refl)
  | in-Err-PastEnd w ↦ rw w.result-is
      (write-serves c.self.invariant c.self.view_is c.requires.up c.requires.file (Err PastEnd)
      (rw w.in-Err-PastEnd.field-0-is at w.in-Err-PastEnd.ensures) refl)
  | in-Err-TooLong w ↦ rw w.result-is
      (write-serves c.self.invariant c.self.view_is c.requires.up c.requires.file (Err TooLong)
      (rw w.in-Err-TooLong.field-0-is at w.in-Err-TooLong.ensures) refl)
  | in-Err-Device w ↦ rw w.result-is
      (device-lost c.self.invariant c.self.view_is c.requires.up
      (rw w.in-Err-Device.field-0-is at w.in-Err-Device.ensures)).serves
]

pub invariant_of-self : goal.invariant_of-self
invariant_of-self g c = write-inside c.self.invariant c.self.view_is c.requires.up c.requires.file c.write_at.result
    c.write_at.ensures
