use Rattle.imagecheck.proofs.Common.{iff_false, HasBlocks-of}
use Rattle.imagecheck.proofs.files.test_links.Goals as goal

pub returns-then-not-has_links-clause-judged : goal.returns-then-not-has_links-clause-judged
returns-then-not-has_links-clause-judged c = (
  HasBlocks-of c.args.image.now c.requires.blocks,
  c.requires.entries,
  iff_false c.has_links.ensures c.if-not-has_links.true,
)
