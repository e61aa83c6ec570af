use Rattle.layout.proofs.KindLemmas.{number-read}
use Rattle.unixmodel.specs.Image.{kind_in, major_in, minor_in}
use Rattle.imagecheck.proofs.Common.{◌<◌, length, arith, IsTrue, ◌↔◌, HasPlace-at, up_to_more, HasBlocks-of}
use Rattle.imagecheck.proofs.Judging.{refused, told}
use Rattle.imagecheck.proofs.Entering.{FitsLinks-at, HasLinks-from, LinksFit}
use Rattle.imagecheck.proofs.links.has_links.Goals as goal
use Rattle.imagecheck.proofs.links.has_links.Goals.{After-fits_links}

-- the test of a count
fits-is : (c : After-fits_links) → IsTrue c.fits_links.result ↔ LinksFit c.args.image.now c.loop-n.n
fits-is c =
    let counts = c.requires.counts in
    let in_names : c.loop-n.n < length c.args.names.now = omega (arith, counts.names_long, c.loop-n-test.true) in
    let in_subdirectories : c.loop-n.n < length c.args.subdirectories.now =
    omega (arith, counts.subdirectories_long, c.loop-n-test.true) in
    let known = number-read (kind_in c.args.image.now c.loop-n.n) (major_in c.args.image.now c.loop-n.n)
    (minor_in c.args.image.now c.loop-n.n)
    ((HasBlocks-of c.args.image.now c.requires.blocks).inodes.kinds.known c.loop-n.n (omega arith)
    (omega (arith, c.requires.geometry.inodes, c.loop-n-test.true))) in
    rw (
      c.kind.ensures,
      known,
      c.links-told.ensures,
      counts.names c.loop-n.n in_names,
      counts.subdirectories c.loop-n.n in_subdirectories,
    ) at c.fits_links.ensures

pub links-told-requires : goal.links-told-requires
links-told-requires c = HasPlace-at c.requires.geometry c.loop-n.n c.loop-n-test.true

pub kind-requires : goal.kind-requires
kind-requires c = HasPlace-at c.requires.geometry c.loop-n.n c.loop-n-test.true

pub returns-then-not-fits_links : goal.returns-then-not-fits_links
returns-then-not-fits_links c =
    refused c.if-not-fits_links.true (fits-is (goal.at.returns-then-not-fits_links c).After-fits_links)
    (λ h. FitsLinks-at c.args.image.now (HasBlocks-of c.args.image.now c.requires.blocks) h c.loop-n.n (omega arith)
    (omega (arith, c.requires.geometry.inodes, c.loop-n-test.true)))

pub loop-n-preserved : goal.loop-n-preserved
loop-n-preserved c = up_to_more (LinksFit c.args.image.now) c.loop-n.n c.loop-n.invariant
    ((fits-is (goal.at.loop-n-preserved c).After-fits_links).0 c.if-not-fits_links.false)

pub returns : goal.returns
returns c =
    told (HasLinks-from _ (HasBlocks-of c.args.image.now c.requires.blocks)
    (λ n low high. c.loop-n.invariant n low (omega (arith, c.requires.geometry.inodes, c.loop-n-test.false))))
