use Rattle.imagecheck.proofs.Common.{◌≡◌, subst, sym, ap, ◌∙◌, arith, MatchBool-at_false, MatchBool-at_true, inodes_in}
use Rattle.imagecheck.proofs.Common.{HasMarks, IsOnce, named_before, named_before-all, named_before-front}
use Rattle.imagecheck.proofs.Common.{named_before-more, inodes-least}
use Rattle.imagecheck.proofs.marks.names_once.Goals as goal

pub returns-then-not-mark_inode : goal.returns-then-not-mark_inode
returns-then-not-mark_inode c = λ once.
    let image = c.args.image.now in
    let n = c.loop-n.n in
    MatchBool-at_false _ _ c.if-not-mark_inode.true (c.mark_inode.ensures _ c.loop-n.invariant)
    (subst IsOnce (named_before-more image n (omega arith))
    (named_before-front image _ (omega arith) (omega (arith, c.requires.geometry.inodes)) once))

pub loop-n-preserved : goal.loop-n-preserved
loop-n-preserved c =
    let image = c.args.image.now in
    let n = c.loop-n.n in
    subst (λ xs. HasMarks xs c.mark_inode.new.marks) (sym (named_before-more image n (omega arith)))
    (MatchBool-at_true _ _ c.if-not-mark_inode.false (c.mark_inode.ensures _ c.loop-n.invariant))

pub returns : goal.returns
returns c =
    let end : c.loop-n.n ≡ inodes_in c.args.image.now =
    omega (
      arith,
      c.requires.geometry.inodes,
      c.loop-n.auto.n-end (omega (arith, inodes-least c.requires.geometry)),
      c.loop-n-test.false,
    ) in
    subst (λ xs. HasMarks xs c.loop-n.marks)
    (ap (named_before c.args.image.now) end ∙ named_before-all c.args.image.now) c.loop-n.invariant
