use Rattle.digests.proofs.Steps.{node-done, none-done}
use Rattle.kernel.proofs.Steps.{lost-reads}
use Rattle.digests.proofs.nodes.mix_node.Goals as goal

pub returns-in_err-stat : goal.returns-in_err-stat
returns-in_err-stat g c = lost-reads _ _ _ c.from_residual.result c.from_residual.ensures.0 c.in_err-stat.ensures

pub returns-in_default : goal.returns-in_default
returns-in_default g c = none-done c.args.digest _ c.args.number c.in_ok-stat.ensures c.in_default.is c.mix.ensures

pub returns : goal.returns
returns g c = node-done _ c.args.digest c.args.number _ c.in_ok-stat.ensures c.in-Some.is c.mix_stat.ensures
    c.mix_contents.ensures
