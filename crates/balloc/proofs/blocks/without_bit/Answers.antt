use Rattle.balloc.proofs.Common.{w8, bit_at_clear_same, bit_at_clear_other}
use Rattle.balloc.proofs.blocks.without_bit.Goals as goal

pub returns-clause-here : goal.returns-clause-here
returns-clause-here c = bit_at_clear_same w8 c.args.byte c.args.k c.requires

pub returns-clause-others : goal.returns-clause-others
returns-clause-others c = λ j within apart. bit_at_clear_other w8 c.args.byte c.args.k c.requires j within apart
