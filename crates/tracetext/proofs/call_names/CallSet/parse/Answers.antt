use Rattle.std.proofs.Common.{ap, arith, lit<, sym, true, ◌∙◌}
use Rattle.std.proofs.lemmas.Iterator.Consumers.{YieldsList-at, YieldsList-end, YieldsList-so_far, YieldsList-turn}
use Rattle.std.proofs.lemmas.Iterator.Splits.{YieldsList-from_str_split}
use Rattle.std.proofs.lemmas.List.{length-set}
use Rattle.tracetext.specs.Names.{first_unknown, is_among}
use Rattle.tracetext.proofs.NameLemmas.{has_more, known_more, read_more, unknown_at}
use Rattle.tracetext.proofs.call_names.CallSet.parse.Goals as goal

pub returns-in_default : goal.returns-in_default
returns-in_default c =
    let split = c.split-name-items.ensures in
    let road = YieldsList-at c.into_iter-name-iterator.ensures.into_iter_gives
    (YieldsList-from_str_split 44 c.args.names.now (lit< tt) split.text split.has_more split.pattern) in
    let turn = YieldsList-turn road c.loop-name.yielded _ c.loop-name.yielded_by _ _ c.in-Some.name c.in-Some.is
    c.next.ensures.steps in
    let so_far = YieldsList-so_far road c.loop-name.yielded _ c.loop-name.yielded_by in
    let (_, _, _, known, _) = c.loop-name.invariant in
    unknown_at _ _ _ turn.0 (ap first_unknown (sym so_far) ∙ known)
    (sym c.number_named.ensures.named ∙ c.in_default.is) turn.1

pub loop-name-preserved : goal.loop-name-preserved
loop-name-preserved c =
    let (_, _, many, known, has) = c.loop-name.invariant in
    let named = sym c.in-Some-number_named.ensures.named in
    let more = read_more c.loop-name.yielded c.in-Some.name in (
      tt,
      tt,
      length-set c.loop-name.set.has c.in-Some-number_named.number true ∙ many,
      ap first_unknown more ∙ known_more _ _ _ known named,
      λ number h. has_more c.loop-name.set.has _ c.in-Some.name.now number c.in-Some-number_named.number
          (let within = c.in-Some-number_named.ensures.within in omega (arith, within, many)) named (has number h)
          ∙ ap (is_among number) (sym more),
    )

pub returns : goal.returns
returns c =
    let split = c.split-name-items.ensures in
    let road = YieldsList-at c.into_iter-name-iterator.ensures.into_iter_gives
    (YieldsList-from_str_split 44 c.args.names.now (lit< tt) split.text split.has_more split.pattern) in
    let all = YieldsList-end road c.loop-name.yielded _ c.loop-name.yielded_by _ _ c.in-None.is c.next.ensures.steps in
    let (_, _, _, known, has) = c.loop-name.invariant in
    record {
      known = ap first_unknown (sym all.0) ∙ known;
      has = λ number h. has number h ∙ ap (is_among number) all.0;
    }
