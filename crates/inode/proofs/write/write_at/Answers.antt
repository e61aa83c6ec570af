use Rattle.inode.proofs.Common.{arith, step-done}
use Rattle.inode.proofs.Found.{found-writes}
use Rattle.inode.proofs.write.write_at.Goals as goal

pub returns-then-bytes-at : goal.returns-then-bytes-at
returns-then-bytes-at g c =
    step-done c.write_found.ensures.goes
    (found-writes c.requires.sound c.requires.inode c.in-Some.ensures c.args.bytes.now c.if-at-found.true
    (omega (arith, c.if-bytes-at.true)) c.in_ok-write_found.ensures.done)
