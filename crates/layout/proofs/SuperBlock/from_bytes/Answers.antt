use Rattle.layout.proofs.Common.{ap, ◌∙◌, arith, super_bytes}
use Rattle.layout.proofs.ReadsBack.{spelled-range}
use Rattle.layout.proofs.SuperBlock.from_bytes.Goals as goal

pub returns-clause-spells : goal.returns-clause-spells
returns-clause-spells c = ap super_bytes c.from_front-numbers.ensures
    ∙ spelled-range 8 0 c.args.bytes.now (omega arith) (λ i. omega (arith, c.type_inv.bytes i))
