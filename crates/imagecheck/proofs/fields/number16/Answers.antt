use Rattle.imagecheck.proofs.Common.{length, ap, ◌∙◌, arith, between_to_end, little_number, number_at-drop}
use Rattle.imagecheck.proofs.fields.number16.Goals as goal

pub returns : goal.returns
returns c =
    c.read_u16.ensures ∙ ap (little_number 2)
    (between_to_end c.args.image.now c.args.at (length c.args.image.now) (omega arith))
    ∙ number_at-drop 2 c.args.at c.args.image.now c.requires
