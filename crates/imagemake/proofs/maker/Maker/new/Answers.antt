use Rattle.imagemake.proofs.Common.{arith, refl, sym, held-again, now-begin, now-turned}
use Rattle.imagemake.proofs.Imaging.{bare-tree, blank-stores, possible, refused-numbers}
use Rattle.imagemake.proofs.Makers.{begun-with, none-begun}
use Rattle.imagemake.proofs.maker.Maker.new.Goals as goal

pub returns-then-not-is_possible-clause-refused : goal.returns-then-not-is_possible-clause-refused
returns-then-not-is_possible-clause-refused c =
    λ entries. refused-numbers entries _ _ (sym c.if-not-is_possible.ensures)

pub blank-requires : goal.blank-requires
blank-requires c = possible c.if-not-is_possible.ensures

pub returns-in_err-volume-clause-refused : goal.returns-in_err-volume-clause-refused
returns-in_err-volume-clause-refused c = none-begun _ _ _ c.from_residual.ensures.1 c.in_err-volume.ensures.only

pub is_whole-requires : goal.is_whole-requires
is_whole-requires c = c.in_ok-volume.ensures.blank.up

pub new-requires : goal.new-requires
new-requires c = held-again
    (blank-stores (possible c.if-not-is_possible.ensures) c.in_ok-volume.ensures.blank c.is_whole.ensures)

pub returns-in_err-tree-clause-refused : goal.returns-in_err-tree-clause-refused
returns-in_err-tree-clause-refused c =
    none-begun _ _ c.from_residual-in_err-tree.result c.from_residual-in_err-tree.ensures.1 refl

pub returns-in_err-made-clause-refused : goal.returns-in_err-made-clause-refused
returns-in_err-made-clause-refused c =
    none-begun _ _ c.from_residual-in_err-made.result c.from_residual-in_err-made.ensures.1 refl

pub store_root-requires : goal.store_root-requires
store_root-requires c =
    let p = possible c.if-not-is_possible.ensures in
    let bare = bare-tree p c.in_ok-volume.ensures.blank c.is_whole.ensures c.in_ok-tree.ensures in
    record {
      up = bare.up;
      none = bare.none;
      some = omega (arith, bare.long, p.inodes_low);
      block = omega (arith, bare.limit, p.room);
    }

pub returns-in_default-clause-refused : goal.returns-in_default-clause-refused
returns-in_default-clause-refused c = λ entries. tt

pub returns-clause-begun : goal.returns-clause-begun
returns-clause-begun c =
    let p = possible c.if-not-is_possible.ensures in
    let bare = bare-tree p c.in_ok-volume.ensures.blank c.is_whole.ensures c.in_ok-tree.ensures in
    begun-with (sym c.if-not-is_possible.ensures) p bare (now-turned now-begin c.store_root.ensures c.in-Ok.is) _
    c.in_ok-made.ensures.empty c.in_ok-made.ensures.room
