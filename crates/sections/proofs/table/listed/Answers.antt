use Rattle.sections.proofs.Reading.{listed-all, listed-more}
use Rattle.sections.proofs.table.listed.Goals as goal

pub loop-preserved : goal.loop-preserved
loop-preserved c =
    let cases = c.in-Some.ensures.cases in
    listed-more _ _ _ _ _ _ _ _ _ c.loop-test.true cases.0 cases.1 cases.2 c.section_in.ensures
    c.in_ok-push.ensures.items c.loop.invariant

pub returns-in_default : goal.returns-in_default
returns-in_default c = listed-all _ _ _ _ _ c.in_default.ensures.cases c.loop.invariant
