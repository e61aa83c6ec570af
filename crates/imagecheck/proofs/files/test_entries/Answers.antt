use Rattle.imagecheck.proofs.Common.{iff_false, HasBlocks-of}
use Rattle.imagecheck.proofs.Parents.{entries-at}
use Rattle.imagecheck.proofs.Entering.{HasEntries-from}
use Rattle.imagecheck.proofs.files.test_entries.Goals as goal

pub returns-then-not-are_named-clause-judged : goal.returns-then-not-are_named-clause-judged
returns-then-not-are_named-clause-judged c = (
  HasBlocks-of c.args.image.now c.requires.blocks,
  λ h. iff_false c.are_named.ensures c.if-not-are_named.true
      (λ n low high e. (entries-at _ n low high e h).named),
)

pub returns-then-not-has_fronts-clause-judged : goal.returns-then-not-has_fronts-clause-judged
returns-then-not-has_fronts-clause-judged c = (
  HasBlocks-of c.args.image.now c.requires.blocks,
  λ h. iff_false c.has_fronts.ensures c.if-not-has_fronts.true
      (λ n low high e. let fits = entries-at _ n low high e h in record { own = fits.own; parent = fits.parent }),
)

pub returns-clause-judged : goal.returns-clause-judged
returns-clause-judged c =
    HasEntries-from _ (HasBlocks-of c.args.image.now c.requires.blocks) c.requires.names
    (c.are_named.ensures.0 c.if-not-are_named.false) (c.has_fronts.ensures.0 c.if-not-has_fronts.false)
