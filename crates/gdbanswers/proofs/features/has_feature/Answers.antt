use Rattle.std.proofs.Common.{bytes_eq, rules, tests, ◌==◌}
use Rattle.std.proofs.lemmas.Iterator.Search.{any_from_yields_List}
use Rattle.std.proofs.lemmas.Iterator.Splits.{YieldsList-from_slice_split}
use Rattle.gdbanswers.proofs.features.has_feature.Goals as goal

pub returns : goal.returns
returns c =
    let split = c.split.ensures in
    any_from_yields_List (λ one. bytes_eq one c.args.feature.now) _ _ _ c.any.ensures.ran
    (YieldsList-from_slice_split _ (λ byte. byte == 59) c.args.text.now split.rest split.done split.closure
    (λ x b q k. search (rules, tests))) (λ x b q k. search (rules, tests))
