use Rattle.balloc.proofs.Counting.{recorded_given}
use Rattle.std.proofs.Common.{subst}
use Rattle.layout.specs.Grow.{WritesInode}
use Rattle.cache.proofs.Using.{goes-stays, step-last}
use Rattle.balloc.proofs.inodes.give_inode.Goals as goal

pub returns : goal.returns
returns g c = step-last goes-stays
    (λ _ writes. recorded_given c.requires.sound c.requires.inode c.requires.empty
    (subst (WritesInode _ _ _ _) c.new.ensures.inode writes)) c.write_inode.ensures
