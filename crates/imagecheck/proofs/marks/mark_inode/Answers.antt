use Rattle.std.proofs.lemmas.Bool.{iff_false}
use Rattle.imagecheck.proofs.Common.{◌++◌, subst, sym, ◌∙◌, arith, HasMarks, HasInode-at, HasPlace-at, blocks_of-free}
use Rattle.imagecheck.proofs.Common.{blocks_of-used, FitsAddresses-at, MarksMore}
use Rattle.std.proofs.Common.{append-nil}
use Rattle.imagecheck.proofs.marks.mark_inode.Goals as goal

pub is_free-requires : goal.is_free-requires
is_free-requires c = HasPlace-at c.requires.geometry _ c.requires.high

pub returns-then-is_free : goal.returns-then-is_free
returns-then-is_free c = λ before h.
    subst (λ xs. HasMarks (before ++ xs) c.args.marks.now)
    (sym (blocks_of-free c.args.image.now c.args.n (c.is_free.ensures.0 c.if-is_free.true)))
    (subst (λ xs. HasMarks xs c.args.marks.now) (sym (append-nil before)) h)

pub mark_all-requires : goal.mark_all-requires
mark_all-requires c = record {
  inode = HasInode-at c.requires.geometry c.requires.sizes _ c.requires.low c.requires.high
      (iff_false c.is_free.ensures c.if-is_free.false);
  addresses = FitsAddresses-at _ c.requires.addresses _ c.requires.low (omega (arith, c.requires.geometry.inodes))
      (iff_false c.is_free.ensures c.if-is_free.false);
  rules = c.requires.geometry.rules;
  long = c.requires.long ∙ c.requires.geometry.size;
}

pub returns : goal.returns
returns c =
    subst (λ xs. MarksMore c.args.marks.now c.mark_all.new.marks xs c.mark_all.result)
    (sym (blocks_of-used _ _ (iff_false c.is_free.ensures c.if-is_free.false))) c.mark_all.ensures
