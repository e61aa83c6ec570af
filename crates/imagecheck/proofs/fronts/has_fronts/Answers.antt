use Rattle.std.proofs.lemmas.Bool.{iff_false}
use Rattle.imagecheck.proofs.Common.{◌≡◌, arith, subst, sym, contents_in, kind_in, parent_of, FitsFront, files_in}
use Rattle.imagecheck.proofs.Common.{HasPlace-at, up_to_more}
use Rattle.imagecheck.proofs.Judging.{refused, told}
use Rattle.imagecheck.proofs.fronts.has_fronts.Goals as goal
use Rattle.imagecheck.proofs.fronts.has_fronts.Goals.{else-is_directory-via-else-is_directory}
use Rattle.imagecheck.proofs.fronts.has_fronts.Goals.{else-is_directory-via-then-is_directory+else-not-has_front}

pub is_directory-requires : goal.is_directory-requires
is_directory-requires c = HasPlace-at c.requires.geometry c.loop-n.n c.loop-n-test.true

pub returns-then-not-has_front : goal.returns-then-not-has_front
returns-then-not-has_front c =
    let n = c.loop-n.n in
    refused c.if-not-has_front.true c.has_front.ensures (λ h.
    subst (λ p. FitsFront n p (contents_in c.args.image.now n))
    (sym (c.requires.parents n (omega (arith, c.requires.long, c.loop-n-test.true))))
    (h n (omega arith) (omega (arith, c.requires.geometry.inodes, c.loop-n-test.true))
    (c.is_directory.ensures.0 c.if-is_directory.true)))

pub loop-n-preserved : goal.loop-n-preserved
loop-n-preserved c =
    let image = c.args.image.now in
    let n = c.loop-n.n in
    let here : kind_in image n ≡ 1
    → FitsFront n (parent_of (files_in image) n) (contents_in image n) = elim c.else-is_directory.branch [
      | else-is_directory-via-then-is_directory+else-not-has_front w ↦ λ _.
          subst (λ p. FitsFront n p (contents_in image n))
          (c.requires.parents n (omega (arith, c.requires.long, c.loop-n-test.true)))
          (w.has_front.ensures.0 w.if-not-has_front.false)
      | else-is_directory-via-else-is_directory w ↦ λ e. absurd
          (iff_false c.is_directory.ensures w.if-is_directory.false e)
    ] in
    up_to_more (λ m. kind_in image m ≡ 1 → FitsFront m (parent_of (files_in image) m) (contents_in image m)) n
    c.loop-n.invariant here

pub returns : goal.returns
returns c = told (λ n low high. c.loop-n.invariant n low
    (omega (arith, c.requires.geometry.inodes, c.loop-n-test.false)))
