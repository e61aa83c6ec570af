use Rattle.std.proofs.Common.{rules}
use Rattle.std.proofs.lemmas.Bool.{OnTrue_at, OnTrue_from}
use Rattle.likeness.proofs.Same.{same-but-descriptors}
use Rattle.likeness.proofs.processes.is_same_process.Goals as goal

pub returns : goal.returns
returns c = OnTrue_from c.is_same_mode.result _ (λ agreed.
    rw (c.process_by-one.ensures, c.process_by-two.ensures) at
    (same-but-descriptors c.process_by-one.result c.process_by-two.result (search rules) (search rules)
    c.if-not-are_same_numbers.ensures (search rules) (search rules) (search rules)
    (OnTrue_at agreed c.is_same_mode.ensures)))
