use Rattle.cache.proofs.Using.{goes-after, goes-stays, step-failed, step-last}
use Rattle.balloc.proofs.Counting.{emptied_fits}
use Rattle.inode.proofs.Emptying.{Wrote-empty}
use Rattle.inode.proofs.Reading.{HasInode-read, IsInHand-read}
use Rattle.inode.proofs.empty.truncate.Goals as goal

pub read_inode-requires : goal.read_inode-requires
read_inode-requires g c = record { parts = c.requires.sound.parts; high = c.requires.inode.high }

pub returns-in_err-inode : goal.returns-in_err-inode
returns-in_err-inode g c = step-failed goes-stays c.read_inode.ensures c.in_err-inode.was c.from_residual.ensures.1

pub give_blocks-requires : goal.give_blocks-requires
give_blocks-requires g c =
    IsInHand-read c.in_ok-inode.ensures.done.same
    (HasInode-read c.requires.sound c.requires.inode c.in_ok-inode.ensures.done.told.is)

pub returns-in_err-give_blocks : goal.returns-in_err-give_blocks
returns-in_err-give_blocks g c =
    step-failed c.read_inode.ensures.goes c.give_blocks.ensures c.in_err-give_blocks.was
    c.from_residual-in_err-give_blocks.ensures.1

pub write_inode-requires : goal.write_inode-requires
write_inode-requires g c =
    record {
      parts = c.in_ok-give_blocks.ensures.done.parts;
      high = c.requires.inode.high;
      fits = emptied_fits c.in_ok-inode.ensures.done.told.fits;
    }

pub returns : goal.returns
returns g c =
    let held = HasInode-read c.requires.sound c.requires.inode c.in_ok-inode.ensures.done.told.is in
    step-last (goes-after c.read_inode.ensures.goes c.give_blocks.ensures.goes)
    (λ _ writes. Wrote-empty held (rw (← c.in_ok-inode.ensures.done.same) c.in_ok-give_blocks.ensures.done) writes)
    c.write_inode.ensures
