use Rattle.std.proofs.lemmas.Bool.{iff_false}
use Rattle.imagecheck.proofs.Common.{◌≡◌, ◌<◌, cond, length, arith, ◌==◌, kind_in, names_of, files_in, HasPlace-at}
use Rattle.imagecheck.proofs.Common.{up_to_more}
use Rattle.imagecheck.proofs.Judging.{refused, told}
use Rattle.imagecheck.proofs.fronts.are_named.Goals as goal
use Rattle.imagecheck.proofs.fronts.are_named.Goals.{else-is_directory-via-else-is_directory}
use Rattle.imagecheck.proofs.fronts.are_named.Goals.{else-is_directory-via-then-is_directory+else-not-fits_names}

pub is_directory-requires : goal.is_directory-requires
is_directory-requires c = HasPlace-at c.requires.geometry c.loop-n.n c.loop-n-test.true

pub returns-then-not-fits_names : goal.returns-then-not-fits_names
returns-then-not-fits_names c =
    let within : c.loop-n.n < length c.args.counts.now = omega (arith, c.requires.long, c.loop-n-test.true) in
    refused c.if-not-fits_names.true c.fits_names.ensures
    (λ h. rw (c.requires.counts c.loop-n.n within)
    (h c.loop-n.n (omega arith) (omega (arith, c.requires.geometry.inodes, c.loop-n-test.true))
    (c.is_directory.ensures.0 c.if-is_directory.true)))

pub loop-n-preserved : goal.loop-n-preserved
loop-n-preserved c =
    let image = c.args.image.now in
    let n = c.loop-n.n in
    let within : n < length c.args.counts.now = omega (arith, c.requires.long, c.loop-n-test.true) in
    let here : kind_in image n ≡ 1 → names_of (files_in image) n ≡ cond (n == 1) 0 1 = elim c.else-is_directory.branch [
      | else-is_directory-via-then-is_directory+else-not-fits_names w ↦ λ _. rw (c.requires.counts n within)
          at (w.fits_names.ensures.0 w.if-not-fits_names.false)
      | else-is_directory-via-else-is_directory w ↦ λ e. absurd
          (iff_false c.is_directory.ensures w.if-is_directory.false e)
    ] in
    up_to_more (λ m. kind_in image m ≡ 1 → names_of (files_in image) m ≡ cond (m == 1) 0 1) n c.loop-n.invariant here

pub returns : goal.returns
returns c = told (λ n low high. c.loop-n.invariant n low
    (omega (arith, c.requires.geometry.inodes, c.loop-n-test.false)))
