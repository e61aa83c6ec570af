use Rattle.proc.proofs.Waiting.{first-from, none-from}
use Rattle.proc.proofs.mask.Mask.first_from.Goals as goal

pub returns-in-Some-clause-finds : goal.returns-in-Some-clause-finds
returns-in-Some-clause-finds c = first-from c.in-Some.ensures.finds

pub returns-in-None-clause-finds : goal.returns-in-None-clause-finds
returns-in-None-clause-finds c = none-from _ c.in-None.ensures.finds
