use Rattle.asmtext.proofs.Common.{digits_value, Some, base_of}
use Rattle.asmtext.proofs.NumberLemmas.{negative_within, positive_within}
use Rattle.asmtext.proofs.number.Number.field_in.Goals as goal

pub returns-then-self : goal.returns-then-self
returns-then-self c =
    let size = digits_value (base_of c.args.self.now.radix) c.args.self.now.digits.items in
    rw (c.negated.ensures, c.if-self.true)
    (negative_within c.args.below c.args.above c.args.bits size (Some c.in_ok-size.size)
    (rw (c.base.ensures.is, c.deref.ensures.value) at c.in_ok-size.ensures))

pub returns : goal.returns
returns c =
    let size = digits_value (base_of c.args.self.now.radix) c.args.self.now.digits.items in
    rw (c.magnitude-2.ensures, c.base-2.ensures.is, c.deref-2.ensures.value, c.if-self.false)
    (positive_within c.args.below c.args.above c.args.bits size c.requires.2)
