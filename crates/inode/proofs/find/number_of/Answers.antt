use Rattle.inode.proofs.Common.{◌-◌, ◌∙◌, ap, arith, number_at}
use Rattle.inode.proofs.Found.{fits-of, index-lies, listed-number, own-number}
use Rattle.inode.proofs.find.number_of.Goals as goal

pub returns-then-slot-lt-DIRECT-clause-number : goal.returns-then-slot-lt-DIRECT-clause-number
returns-then-slot-lt-DIRECT-clause-number g c = c.read_number.ensures
    ∙ own-number c.args.disk.now.blocks c.args.bytes.now c.args.slot c.if-slot-lt-DIRECT.true

pub recent-requires : goal.recent-requires
recent-requires g c =
    index-lies c.args.disk.now.blocks c.args.bytes.now c.args.slot (omega (arith, c.if-slot-lt-DIRECT.false))
    (omega arith) c.read_number-single.ensures c.requires.asked c.requires.index

pub returns-clause-number : goal.returns-clause-number
returns-clause-number g c =
    c.read_number-2.ensures ∙ ap (λ b. number_at b (c.args.slot - 11)) c.in-Some.ensures
    ∙ listed-number c.args.disk.now.blocks c.args.bytes.now c.args.slot (omega (arith, c.if-slot-lt-DIRECT.false))
    (omega arith) c.read_number-single.ensures

pub returns-then-slot-lt-DIRECT-clause-fits : goal.returns-then-slot-lt-DIRECT-clause-fits
returns-then-slot-lt-DIRECT-clause-fits g c = fits-of c.args.bytes.now (λ i. (omega (arith, c.type_inv.bytes i)))

pub returns-clause-fits : goal.returns-clause-fits
returns-clause-fits g c = fits-of c.args.bytes.now (λ i. (omega (arith, c.type_inv.bytes i)))
