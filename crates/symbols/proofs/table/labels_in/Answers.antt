use Rattle.symbols.proofs.Tables.{entry-more, entry-none}
use Rattle.symbols.proofs.table.labels_in.Goals as goal

pub loop-preserved : goal.loop-preserved
loop-preserved c =
    let cases = c.in-Some.ensures.cases in
    entry-more _ _ _ _ _ _ c.loop.invariant _ _ _ c.loop-test.true cases.0 cases.1 cases.2
    c.in_ok-push_label.ensures

pub returns-in_default : goal.returns-in_default
returns-in_default c = entry-none _ _ _ _ _ _ c.loop.invariant c.in_default.ensures.cases
