use Rattle.std.proofs.Common.{refl}
use Rattle.inode.proofs.Nodes.{emptied-asked, released}
use Rattle.inode.proofs.Calls.{follows-stays, serves-lost, still-up, tries-last}
use Rattle.inode.proofs.volume.Volume.release.Goals as goal

pub returns-in_err-truncate : goal.returns-in_err-truncate
returns-in_err-truncate g c =
    serves-lost _ follows-stays c.truncate.ensures c.in_err-truncate.was refl c.from_residual.ensures.1

pub give-requires : goal.give-requires
give-requires g c =
    let changed = c.in_ok-truncate.ensures.done in
    let asked = emptied-asked changed c.requires.node in
    record { up = still-up c.truncate.ensures c.in_ok-truncate.was; node = asked.0; empty = asked.1 }

pub returns : goal.returns
returns g c = tries-last c.truncate.ensures.follows
    (λ x given. released c.requires.node c.in_ok-truncate.ensures.done given) c.give.ensures
