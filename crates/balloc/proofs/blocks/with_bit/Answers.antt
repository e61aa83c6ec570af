use Rattle.balloc.proofs.Common.{w8, bit_at_set_same, bit_at_set_other}
use Rattle.balloc.proofs.blocks.with_bit.Goals as goal

pub returns-clause-here : goal.returns-clause-here
returns-clause-here c = bit_at_set_same w8 c.args.byte c.args.k c.requires

pub returns-clause-others : goal.returns-clause-others
returns-clause-others c = λ j within apart. bit_at_set_other w8 c.args.byte c.args.k c.requires j apart
