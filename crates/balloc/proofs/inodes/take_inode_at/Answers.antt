use Rattle.balloc.proofs.Common.{goes-stays, step-last, subst}
use Rattle.layout.specs.Grow.{WritesInode}
use Rattle.balloc.proofs.Counting.{recorded_fresh}
use Rattle.balloc.proofs.inodes.take_inode_at.Goals as goal

pub write_inode-requires : goal.write_inode-requires
write_inode-requires g c =
    record { parts = c.requires.sound.parts; high = c.requires.unused.high; fits = c.new.ensures.fits }

pub returns : goal.returns
returns g c = step-last goes-stays
    (λ _ writes. let fresh = subst (WritesInode _ _ _ _) c.new.ensures.inode writes
    in record { inode = fresh.here; sets = recorded_fresh c.args.kind c.requires.sound c.requires.unused fresh })
    c.write_inode.ensures
