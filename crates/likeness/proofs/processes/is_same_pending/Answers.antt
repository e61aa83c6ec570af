use Rattle.std.proofs.Common.{rules}
use Rattle.std.proofs.lemmas.Bool.{OnTrue_at, OnTrue_from}
use Rattle.likeness.proofs.Same.{pending-same}
use Rattle.likeness.proofs.processes.is_same_pending.Goals as goal

pub returns : goal.returns
returns c = OnTrue_from c.are_same_numbers.result _ (λ agreed. pending-same c.args.one c.args.other
    c.if-not-is_same_call.ensures (OnTrue_at agreed c.are_same_numbers.ensures) (search rules) (search rules))
