use Rattle.asmtext.proofs.Common.{rules, tests, ◌==◌, map_from_collect, YieldsList-from_slice_split}
use Rattle.asmtext.proofs.line.split_lines.Goals as goal

pub returns : goal.returns
returns c =
    let split = c.split.ensures in
    map_from_collect _ c.collect.ensures.ran
    (YieldsList-from_slice_split _ (λ c. c == 0x0a) c.args.text.now split.rest split.done split.closure
    (λ x b q k. search (rules, tests)))
