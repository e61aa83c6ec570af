use Rattle.layout.proofs.KindLemmas.{number-read}
use Rattle.unixmodel.specs.Image.{major_in, minor_in}
use Rattle.imagecheck.proofs.Common.{arith, most_bytes, format_of, kind_in, length_in, FitsKind, up_to_more}
use Rattle.imagecheck.proofs.Common.{HasPlace-at, length-is, super-is}
use Rattle.imagecheck.proofs.Judging.{refused, told}
use Rattle.imagecheck.proofs.kinds.has_sizes.Goals as goal

pub format_of-requires : goal.format_of-requires
format_of-requires c = let least =
    (super-is c.requires.geometry).size_least in omega (arith, length-is c.requires.geometry, c.requires.geometry.size)

pub kind-requires : goal.kind-requires
kind-requires c = HasPlace-at c.requires.geometry c.loop-n.n c.loop-n-test.true

pub size-requires : goal.size-requires
size-requires c = HasPlace-at c.requires.geometry c.loop-n.n c.loop-n-test.true

pub returns-then-not-fits_kind : goal.returns-then-not-fits_kind
returns-then-not-fits_kind c = refused c.if-not-fits_kind.true c.fits_kind.ensures (λ h.
    let known = number-read (kind_in c.args.image.now c.loop-n.n) (major_in c.args.image.now c.loop-n.n)
    (minor_in c.args.image.now c.loop-n.n)
    (c.requires.kinds.known c.loop-n.n (omega arith) (omega (arith, c.requires.geometry.inodes))) in
    rw (c.single-longest.ensures.told, c.format_of.ensures, c.kind.ensures, known, c.size.ensures)
    (h c.loop-n.n (omega arith) (omega (arith, c.requires.geometry.inodes))))

pub loop-n-preserved : goal.loop-n-preserved
loop-n-preserved c =
    let known = number-read (kind_in c.args.image.now c.loop-n.n) (major_in c.args.image.now c.loop-n.n)
    (minor_in c.args.image.now c.loop-n.n)
    (c.requires.kinds.known c.loop-n.n (omega arith) (omega (arith, c.requires.geometry.inodes))) in
    up_to_more (λ m. FitsKind (most_bytes (format_of c.args.image.now)) (kind_in c.args.image.now m)
    (length_in c.args.image.now m)) c.loop-n.n c.loop-n.invariant
    (rw (c.single-longest.ensures.told, c.format_of.ensures, c.kind.ensures, known, c.size.ensures)
    at (c.fits_kind.ensures.0 c.if-not-fits_kind.false))

pub returns : goal.returns
returns c = told (λ n low high. c.loop-n.invariant n low
    (omega (arith, c.requires.geometry.inodes, c.loop-n-test.false)))
