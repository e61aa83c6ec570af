use Rattle.std.proofs.Common.{arith, None, rules, subst}
use Rattle.std.proofs.lemmas.List.{get_or_default}
use Rattle.std.proofs.lemmas.List.Elements.{AllWithin-more}
use Rattle.jobfiles.specs.Apart.{IsOther}
use Rattle.jobfiles.proofs.twice.is_among.Goals as goal

pub loop-other-preserved : goal.loop-other-preserved
loop-other-preserved g c =
    let name = c.args.name.now in
    let others = c.args.others.now in
    let index = c.loop-other.other-index in
    AllWithin-more (IsOther name) others 0 index c.loop-other.invariant
    (λ d. subst (IsOther name) (get_or_default others index None d c.loop-other-test.true)
    (c.is_same.ensures (search rules)))

pub returns : goal.returns
returns g c is = λ k d less. c.loop-other.invariant k d (omega arith) (omega (arith, less, c.loop-other-test.false))
