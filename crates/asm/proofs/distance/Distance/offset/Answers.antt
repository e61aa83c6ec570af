use Rattle.asm.proofs.Common.{arith, ne_eqb}
use Rattle.asm.specs.Distance.{distance_seen}
use Rattle.asm.proofs.DistanceLemmas.{half_less, offset_is}
use Rattle.asm.proofs.distance.Distance.offset.Goals as goal

pub field_in-requires : goal.field_in-requires
field_in-requires c =
    let less = half_less c.args.bits c.requires.0 in
    rw c.pow-half.ensures (omega arith, less, omega (arith, less))

pub returns-then-offset-eq1-clause-is : goal.returns-then-offset-eq1-clause-is
returns-then-offset-eq1-clause-is c =
    rw c.if-offset-eq1.true at (offset_is c.args.bits (distance_seen c.args.self.now) c.in-Some.offset c.requires.0
    (rw c.pow-half.ensures at c.in-Some.ensures))

pub returns-clause-is : goal.returns-clause-is
returns-clause-is c =
    rw (ne_eqb _ _ c.if-offset-eq1.false)
    at (offset_is c.args.bits (distance_seen c.args.self.now) c.in-Some.offset c.requires.0
    (rw c.pow-half.ensures at c.in-Some.ensures))
