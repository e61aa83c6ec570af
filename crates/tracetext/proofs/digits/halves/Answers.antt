use Rattle.tracetext.proofs.DigitLemmas.{halves_of_bytes}
use Rattle.tracetext.proofs.digits.halves.Goals as goal

pub returns : goal.returns
returns c = halves_of_bytes c.args.n
