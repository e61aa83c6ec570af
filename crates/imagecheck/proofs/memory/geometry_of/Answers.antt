use Rattle.imagecheck.proofs.Common.{subst, arith, format_named, image_of-blocks, TellsGeometry}
use Rattle.imagecheck.proofs.Sounding.{IsFront-memory}
use Rattle.imagecheck.proofs.memory.geometry_of.Goals as goal

pub returns-clause-judged : goal.returns-clause-judged
returns-clause-judged c =
    let image = c.args.image.now in
    subst (λ x. TellsGeometry (format_named c.args.format) x c.geometry_in.result)
    (image_of-blocks image (omega (arith, c.if-image-ne0.false)))
    (c.geometry_in.ensures.judged _
    (IsFront-memory image _ (omega (arith, c.if-count-lt2.false)) c.copy_from_slice.ensures.after))
