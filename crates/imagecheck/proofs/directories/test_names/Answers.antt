use Rattle.imagecheck.proofs.Common.{◌<◌, arith, subst, sym, iff_false, inodes_in, HasNames, HasBlocks-of}
use Rattle.imagecheck.proofs.Parents.{least-in, names-at}
use Rattle.imagecheck.proofs.directories.test_names.Goals as goal

pub has_names-requires-clause-least : goal.has_names-requires-clause-least
has_names-requires-clause-least c =
    least-in c.requires.geometry c.requires.blocks _ c.requires.low c.requires.high c.requires.directory _
    c.requires.bytes

pub returns-then-not-has_names-clause-judged : goal.returns-then-not-has_names-clause-judged
returns-then-not-has_names-clause-judged c =
    let image = c.args.image.now in
    let n = c.args.n in
    let high : n < inodes_in image = omega (arith, c.requires.geometry.inodes, c.requires.high) in (
      HasBlocks-of image c.requires.blocks,
      λ h. iff_false c.has_names.ensures c.if-not-has_names.true
          (subst (HasNames image) (sym c.requires.bytes) (names-at image n c.requires.low high c.requires.directory h)),
    )

pub returns-clause-judged : goal.returns-clause-judged
returns-clause-judged c =
    subst (HasNames c.args.image.now) c.requires.bytes (c.has_names.ensures.0 c.if-not-has_names.false)
