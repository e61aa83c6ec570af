use Rattle.layout.proofs.Common.{◌*◌, length, ap, ◌∙◌, arith, between_to_end, little_number}
use Rattle.layout.proofs.read_number.Goals as goal

pub returns : goal.returns
returns c = c.read_u32.ensures
    ∙ ap (little_number 4) (between_to_end c.args.bytes.now (4 * c.args.k) (length c.args.bytes.now) (omega arith))
