use Rattle.layout.proofs.Common.{ap, ◌∙◌, arith, entry_bytes}
use Rattle.layout.proofs.ReadsBack.{in_front}
use Rattle.layout.proofs.Entry.from_bytes.Goals as goal

pub returns-clause-spells : goal.returns-clause-spells
returns-clause-spells c = ap entry_bytes c.from_front.ensures
    ∙ in_front 0 2 14 c.args.bytes.now (omega arith) (λ i. omega (arith, c.type_inv.bytes i))
