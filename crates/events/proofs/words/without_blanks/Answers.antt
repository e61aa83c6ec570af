use Rattle.std.proofs.Common.{ap, drop, rules, tests, ◌∙◌}
use Rattle.std.proofs.lemmas.Iterator.{YieldsList-from_slice}
use Rattle.std.proofs.lemmas.Iterator.Search.{position_from_yields_List}
use Rattle.events.proofs.Wording.{all-blank, is_inked, placed, unblanked, unplaced}
use Rattle.events.proofs.words.without_blanks.Goals as goal

pub returns-in-Some : goal.returns-in-Some
returns-in-Some c =
    unblanked c.args.bytes.now c.behind.result.now
    (c.behind.ensures ∙ ap (λ n. drop n c.args.bytes.now) (placed _ _ _ c.position.result
    (position_from_yields_List is_inked _ _ c.position.result c.position.ensures.ran
    (YieldsList-from_slice c.args.bytes.now cc) (λ x b q k. search (rules, tests))) c.in-Some.is))

pub returns-in-None : goal.returns-in-None
returns-in-None c =
    all-blank c.args.bytes.now (unplaced _ _ c.position.result
    (position_from_yields_List is_inked _ _ c.position.result c.position.ensures.ran
    (YieldsList-from_slice c.args.bytes.now cc) (λ x b q k. search (rules, tests))) c.in-None.is)
