use Rattle.tracetext.proofs.DigitLemmas.{all_lanes}
use Rattle.tracetext.proofs.digits.spelled.Goals as goal

pub returns : goal.returns
returns c = all_lanes 16 c.args.numbers c.requires.count c.requires.small
