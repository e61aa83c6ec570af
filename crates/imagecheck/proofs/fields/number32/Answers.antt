use Rattle.imagecheck.proofs.Common.{length, ap, ◌∙◌, arith, between_to_end, little_number, number_at-drop}
use Rattle.imagecheck.proofs.fields.number32.Goals as goal

pub returns : goal.returns
returns c =
    c.read_u32.ensures ∙ ap (little_number 4)
    (between_to_end c.args.image.now c.args.at (length c.args.image.now) (omega arith))
    ∙ number_at-drop 4 c.args.at c.args.image.now c.requires
