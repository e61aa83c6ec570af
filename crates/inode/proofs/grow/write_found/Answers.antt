use Rattle.inode.proofs.Common.{goes-stays, step-done, step-failed, step-last}
use Rattle.inode.proofs.Found.{found-kept, found-lies, found-longer, found-parts}
use Rattle.inode.proofs.grow.write_found.Goals as goal

pub write-requires-clause-block : goal.write-requires-clause-block
write-requires-clause-block g c = found-lies c.requires.sound c.requires.inode c.requires.found

pub returns-in_err-write : goal.returns-in_err-write
returns-in_err-write g c = step-failed goes-stays c.write.ensures c.in_err-write.was c.from_residual.ensures.1

pub returns-then-end-found : goal.returns-then-end-found
returns-then-end-found g c =
    step-done c.write.ensures.goes
    (found-kept c.requires.sound c.requires.inode c.requires.found c.args.bytes.now c.requires.within
    c.requires.room c.in_ok-write.ensures.done c.if-end-found.true)

pub write_size-requires-clause-parts : goal.write_size-requires-clause-parts
write_size-requires-clause-parts g c =
    found-parts c.requires.sound c.requires.inode c.requires.found c.args.bytes.now c.requires.within c.requires.room
    c.in_ok-write.ensures.done c.if-end-found.false

pub returns : goal.returns
returns g c =
    step-last c.write.ensures.goes
    (λ _ writes. found-longer c.requires.sound c.requires.inode c.requires.found c.args.bytes.now c.requires.within
    c.requires.room c.in_ok-write.ensures.done c.if-end-found.false writes)
    c.write_size.ensures
