use Rattle.imagecheck.proofs.Common.{refl, format_named}
use Rattle.imagecheck.proofs.Sounding.{Begins-from, Length-told, Magic-told, Numbers-told}
use Rattle.imagecheck.proofs.load.geometry_in.Goals as goal

pub returns-then-numbers-count-clause-judged : goal.returns-then-numbers-count-clause-judged
returns-then-numbers-count-clause-judged c =
    λ blocks front. Length-told front c.requires c.from_front-numbers.ensures (format_named c.args.format)
    c.if-numbers-count.true

pub returns-in-Ok-clause-judged : goal.returns-in-Ok-clause-judged
returns-in-Ok-clause-judged c =
    λ blocks front. Begins-from front c.requires c.from_front-numbers.ensures _ c.if-numbers-count.false
    c.in-Ok.ensures.ok.0 c.in-Ok.ensures.ok.1

pub returns-in-Err-Magic-clause-judged : goal.returns-in-Err-Magic-clause-judged
returns-in-Err-Magic-clause-judged c =
    let wrong = rw c.in-Err-Magic.field-0-is at c.in-Err-Magic.ensures.magic in
    λ blocks front. Magic-told front c.requires c.from_front-numbers.ensures _ c.if-numbers-count.false (wrong.0 refl)

pub returns-in-Err-Numbers-clause-judged : goal.returns-in-Err-Numbers-clause-judged
returns-in-Err-Numbers-clause-judged c =
    let wrong = (rw c.in-Err-Numbers.field-0-is at c.in-Err-Numbers.ensures.numbers).0 refl in
    λ blocks front. Numbers-told front c.requires c.from_front-numbers.ensures _ c.if-numbers-count.false wrong.0
    wrong.1

pub returns-in-Err-Short-clause-judged : goal.returns-in-Err-Short-clause-judged
returns-in-Err-Short-clause-judged c = absurd ((rw c.in-Err-Short.field-0-is at c.in-Err-Short.ensures.long) refl)
