use Rattle.std.proofs.Common.{arith, rules, ◌+◌, ◌<◌, slice_index}
use Rattle.std.proofs.lemmas.Int.Digits.{digits_more, digits_value_more}
use Rattle.std.proofs.lemmas.Str.Parse.{digit_at, digits_value-take-le}
use Rattle.std.specs.Char.{digit_value}
use Rattle.events.proofs.script.fields.count.Goals as goal

pub returns-then-not-is_ascii_digit : goal.returns-then-not-is_ascii_digit
returns-then-not-is_ascii_digit c n counted =
    let digit = digit_at c.args.digits.now c.loop-digit.digit-index counted.numeral.1 c.loop-digit-test.true in
    grind (arith, digit, c.is_ascii_digit.ensures.cases)

pub returns-then-number-gt-MOST_EVENTS : goal.returns-then-number-gt-MOST_EVENTS
returns-then-number-gt-MOST_EVENTS c n counted =
    let more = digits_value_more 10 c.args.digits.now c.loop-digit.digit-index c.loop-digit-test.true in
    let below = digits_value-take-le 10 c.args.digits.now (c.loop-digit.digit-index + 1) (omega arith) in
    grind (arith, more, below, counted.value, counted.bound, c.loop-digit.invariant.value)

pub loop-digit-preserved : goal.loop-digit-preserved
loop-digit-preserved c =
    let before = c.loop-digit.invariant in
    let more = digits_value_more 10 c.args.digits.now c.loop-digit.digit-index c.loop-digit-test.true in
    let digit : digit_value (slice_index c.args.digits.now c.loop-digit.digit-index) < 10 = search rules in
    record {
      value = grind (arith, more, before.value, c.from.ensures);
      digits = digits_more 10 c.args.digits.now c.loop-digit.digit-index c.loop-digit-test.true before.digits digit;
      bound = omega arith;
    }
