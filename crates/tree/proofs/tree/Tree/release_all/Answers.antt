use Rattle.tree.proofs.Common.{ap, arith, length, FileTree}
use Rattle.tree.proofs.Ending.{end-still, lost-served}
use Rattle.tree.proofs.Following.{now-served, now-up}
use Rattle.tree.proofs.Storing.{up-inside}
use Rattle.tree.proofs.Keeping.{from-bare, swept-all, swept-more, swept-none}
use Rattle.tree.proofs.tree.Tree.release_all.Goals as goal

pub numbers-number-end-requires : goal.numbers-number-end-requires
numbers-number-end-requires g c = up-inside c.unhold_all.ensures c.requires.up

pub loop-number-init : goal.loop-number-init
loop-number-init g c = swept-none c.unhold_all.ensures

pub release_unlinked-requires : goal.release_unlinked-requires
release_unlinked-requires g c = record { up = now-up c.loop-number.invariant.now c.requires.up }

pub returns-in_err-release_unlinked : goal.returns-in_err-release_unlinked
returns-in_err-release_unlinked g c =
    from-bare (lost-served c.loop-number.invariant.now c.release_unlinked.ensures c.in_err-release_unlinked.was
    c.from_residual.ensures.1)

pub loop-number-preserved : goal.loop-number-preserved
loop-number-preserved g c =
    swept-more c.loop-number.invariant
    (now-served c.loop-number.invariant.now c.release_unlinked.ensures c.in_ok-release_unlinked.was (λ told. told))

pub returns : goal.returns
returns g c =
    let count = ap (λ (t : FileTree). length t.files) c.unhold_all.ensures in
    from-bare (end-still c.requires.up c.loop-number.invariant.now
    (swept-all c.loop-number.invariant (omega arith))).serves
