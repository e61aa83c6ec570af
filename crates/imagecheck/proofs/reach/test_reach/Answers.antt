use Rattle.imagecheck.proofs.Common.{◌≡◌, replicate, set, sym, subst, arith, files_in, HasWalked, inodes-least}
use Rattle.imagecheck.proofs.Reaching.{HasWalked-first}
use Rattle.imagecheck.proofs.reach.test_reach.Goals as goal

pub index_mut-requires : goal.index_mut-requires
index_mut-requires g c = let least = inodes-least c.requires.geometry in omega (arith, c.in_ok-marks.ensures.len)

pub test_climbs-requires-clause-walked : goal.test_climbs-requires-clause-walked
test_climbs-requires-clause-walked g c =
    let least = inodes-least c.requires.geometry in
    let fresh : c.in_ok-marks.marks.items ≡ replicate c.args.geometry.inodes 0 =
    c.in_ok-marks.ensures.items_if_clones_equal (λ y e. cc) in
    subst (HasWalked (files_in c.args.image.now) 2) (sym c.deref_mut.ensures.value)
    (subst (λ xs. HasWalked (files_in c.args.image.now) 2 (set xs 1 1)) (sym fresh) (HasWalked-first _ _ (omega arith)))
