use Rattle.std.proofs.Common.{◌∙◌}
use Rattle.image_commands.proofs.Manifests.{entry-of, lines-more}
use Rattle.imagemake.specs.Making.{entry_at}
use Rattle.image_commands.proofs.images.maker_of.Goals as goal

pub loop-line-preserved : goal.loop-line-preserved
loop-line-preserved g c =
    let read = c.loop-line.invariant.0 in
    let same = c.loop-line.invariant.1 in
    let e = entry_at c.path_of.result.now c.in_ok-thing.thing in (
      read,
      c.thing_from.ensures.same ∙ same,
      lines-more _ _ _ _ c.loop-line.line-index _ e c.loop-line-test.true
          (entry-of _ read same _ e c.path_of.ensures c.in_ok-thing.ensures.thing) _ _ c.loop-line.invariant.2
          c.with-making.ensures,
    )
