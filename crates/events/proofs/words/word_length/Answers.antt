use Rattle.std.proofs.Common.{arith, ◌≢◌}
use Rattle.events.proofs.Wording.{plain-in}
use Rattle.events.proofs.words.word_length.Goals as goal

pub returns-in_default : goal.returns-in_default
returns-in_default c =
    let unmarked : c.in_ok-first.first.now ≢ 0x23 = omega arith in
    plain-in c.args.bytes.now c.in_ok-first.first.now c.in_ok-first.field-0-1.now c.plain_length.result
    c.in_ok-first.ensures.cases.0 c.requires unmarked c.plain_length.ensures
