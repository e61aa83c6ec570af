use Rattle.asmtext.proofs.Common.{rules, tests, map_from_collect, YieldsList-from_slice_split, is_comma}
use Rattle.asmtext.proofs.parts.split_parts.Goals as goal

pub returns : goal.returns
returns c =
    let split = c.split.ensures in
    map_from_collect _ c.collect.ensures.ran
    (YieldsList-from_slice_split _ is_comma c.args.symbols.now split.rest split.done split.closure
    (λ x b q k. search (rules, tests)))
