use Rattle.std.proofs.Common.{arith, ◌+◌}
use Rattle.std.proofs.lemmas.Int.Digits.{digits_value_more}
use Rattle.std.proofs.lemmas.Str.Parse.{digits_value-take-le}
use Rattle.asmtext.proofs.NumberLemmas.{none_above}
use Rattle.asmtext.proofs.number.magnitude.Goals as goal

pub loop-digit-preserved : goal.loop-digit-preserved
loop-digit-preserved c =
    let before = c.loop-digit.invariant in
    let more = digits_value_more c.args.radix c.args.digits.now c.loop-digit.digit-index c.loop-digit-test.true in
    record {
      value = grind (arith, more, before.value, c.digit_of.ensures);
      bound = omega arith;
    }

pub returns-then-most-next : goal.returns-then-most-next
returns-then-most-next c =
    let more = digits_value_more c.args.radix c.args.digits.now c.loop-digit.digit-index c.loop-digit-test.true in
    let below = digits_value-take-le c.args.radix c.args.digits.now (c.loop-digit.digit-index + 1) (omega arith) in
    none_above _ _ (grind (arith, more, below, c.loop-digit.invariant.value, c.digit_of.ensures))
