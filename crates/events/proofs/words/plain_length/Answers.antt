use Rattle.std.proofs.Common.{arith, length, rules, tests}
use Rattle.std.specs.List.{position_or_len}
use Rattle.std.proofs.lemmas.Iterator.{YieldsList-from_slice}
use Rattle.std.proofs.lemmas.Iterator.Search.{position_from_yields_List}
use Rattle.std.proofs.lemmas.List.Sums.{prefix_len-le-length}
use Rattle.std.specs.Prelude.{not, ◌≤◌}
use Rattle.events.specs.Words.{is_blank}
use Rattle.events.proofs.Wording.{placed, unplaced}
use Rattle.events.proofs.words.plain_length.Goals as goal

pub returns-in-Some : goal.returns-in-Some
returns-in-Some c =
    placed _ _ _ c.position.result
    (position_from_yields_List is_blank _ _ c.position.result c.position.ensures.ran
    (YieldsList-from_slice c.args.bytes.now cc) (λ x b q k. search (rules, tests))) c.in-Some.is

pub returns-in-None : goal.returns-in-None
returns-in-None c =
    let all : length c.args.bytes.now ≤ position_or_len is_blank c.args.bytes.now =
    unplaced _ _ c.position.result
    (position_from_yields_List is_blank _ _ c.position.result c.position.ensures.ran
    (YieldsList-from_slice c.args.bytes.now cc) (λ x b q k. search (rules, tests))) c.in-None.is in
    omega (arith, prefix_len-le-length (λ x. not (is_blank x)) c.args.bytes.now)
