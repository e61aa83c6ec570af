use Rattle.cache.proofs.Using.{goes-stays, step-failed, step-last}
use Rattle.inode.proofs.Filling.{linked}
use Rattle.inode.proofs.Reading.{HasInode-read}
use Rattle.inode.proofs.write.set_links.Goals as goal

pub read_inode-requires : goal.read_inode-requires
read_inode-requires g c = record { parts = c.requires.sound.parts; high = c.requires.inode.high }

pub returns-in_err-inode : goal.returns-in_err-inode
returns-in_err-inode g c = step-failed goes-stays c.read_inode.ensures c.in_err-inode.was c.from_residual.ensures.1

pub write_inode-requires-clause-parts : goal.write_inode-requires-clause-parts
write_inode-requires-clause-parts g c = rw c.in_ok-inode.ensures.done.same c.requires.sound.parts

pub write_inode-requires-clause-high : goal.write_inode-requires-clause-high
write_inode-requires-clause-high g c = c.requires.inode.high

pub returns : goal.returns
returns g c =
    let held = HasInode-read c.requires.sound c.requires.inode c.in_ok-inode.ensures.done.told.is in
    step-last c.read_inode.ensures.goes (λ _ writes. linked c.args.links held c.in_ok-inode.ensures.done.same writes)
    c.write_inode.ensures
