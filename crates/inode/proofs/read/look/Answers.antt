use Rattle.inode.proofs.Common.{ap, arith, refl, sym, ◌∙◌, goes-stays, read-done, step-failed, DiskInode}
use Rattle.std.proofs.lemmas.Bool.{iff_false}
use Rattle.layout.proofs.KindLemmas.{read-free}
use Rattle.inode.proofs.Reading.{told-inode, used-inode}
use Rattle.inode.proofs.read.look.Goals as goal
use Rattle.inode.proofs.read.look.Goals.{then-number-eq0-via-else-number-eq0+then-number-geometry}
use Rattle.inode.proofs.read.look.Goals.{then-number-eq0-via-then-number-eq0}

pub returns-then-number-eq0 : goal.returns-then-number-eq0
returns-then-number-eq0 g c = elim c.then-number-eq0.branch [
  | then-number-eq0-via-then-number-eq0 w ↦ read-done goes-stays refl
      (λ used. omega (arith, used.low, w.if-number-eq0.true))
  | then-number-eq0-via-else-number-eq0+then-number-geometry w ↦ read-done goes-stays refl
      (λ used. omega (arith, used.high, w.if-number-geometry.true))
]

pub returns-in_err-inode : goal.returns-in_err-inode
returns-in_err-inode g c = step-failed goes-stays c.read_inode.ensures c.in_err-inode.was c.from_residual.ensures.1

pub returns-then-is_free : goal.returns-then-is_free
returns-then-is_free g c =
    let free = (read-free _ _ _).0 (sym c.kind.ensures ∙ c.is_free.ensures.0 c.if-is_free.true) in
    read-done c.read_inode.ensures.goes c.in_ok-inode.ensures.done.same
    (λ used. used.kind (ap (λ (i : DiskInode). i.kind) (sym c.in_ok-inode.ensures.done.told.is) ∙ free))

pub returns : goal.returns
returns g c =
    let is = c.in_ok-inode.ensures.done.told.is in
    let used = used-inode c.if-number-eq0.false c.if-number-geometry.false is
    (λ z. iff_false c.is_free.ensures c.if-is_free.false (c.kind.ensures ∙ (read-free _ _ _).1 z)) in
    read-done c.read_inode.ensures.goes c.in_ok-inode.ensures.done.same
    (used, told-inode c.args.disk.now.blocks c.args.number is c.told.ensures)
