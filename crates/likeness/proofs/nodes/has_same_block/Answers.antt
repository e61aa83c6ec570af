use Rattle.std.proofs.Common.{rules, ◌*◌}
use Rattle.likeness.proofs.Reading.{block-same}
use Rattle.likeness.proofs.nodes.has_same_block.Goals as goal

pub returns : goal.returns
returns g c = block-same c.args.number (1024 * c.args.k) _ _ c.are_same.result (search rules) (search rules)
    c.in-Ok.ensures c.in-Ok-read_any.ensures c.are_same.ensures
