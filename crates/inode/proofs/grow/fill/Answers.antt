use Rattle.inode.proofs.Common.{arith, subst, Takes, goes-after, goes-stays, step-done, step-failed}
use Rattle.inode.proofs.grow.fill.Goals as goal

pub returns-in_err-b : goal.returns-in_err-b
returns-in_err-b g c = step-failed goes-stays c.take_block.ensures c.in_err-b.was c.from_residual.ensures.1

pub returns-in_default : goal.returns-in_default
returns-in_default g c =
    step-done c.take_block.ensures.goes (subst (Takes _ _ _) c.in_default.is c.in_ok-b.ensures.done)

pub write-requires : goal.write-requires
write-requires g c =
    let takes = (subst (Takes _ _ _) c.in-Some.is c.in_ok-b.ensures.done).0 in
    record {
      block = omega (arith, takes.takes.parts.count, takes.lowest.free.high);
      fits = omega (arith, c.requires.room);
    }

pub returns-in_err-write : goal.returns-in_err-write
returns-in_err-write g c =
    step-failed c.take_block.ensures.goes c.write.ensures c.in_err-write.was c.from_residual-in_err-write.ensures.1

pub returns : goal.returns
returns g c =
    let takes = (subst (Takes _ _ _) c.in-Some.is c.in_ok-b.ensures.done).0 in
    step-done (goes-after c.take_block.ensures.goes c.write.ensures.goes)
    (record { mid = c.take_block.new.disk.blocks; takes = takes; written = c.in_ok-write.ensures.done })
