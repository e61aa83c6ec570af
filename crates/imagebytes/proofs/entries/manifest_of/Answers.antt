use Rattle.std.proofs.Common.{arith, sym, ◌∙◌}
use Rattle.std.proofs.lemmas.Bool.{eqb-false, eqb-true}
use Rattle.imagebytes.proofs.Reading.{read-all, read-left, read-more, read-none}
use Rattle.imagebytes.proofs.entries.manifest_of.Goals as goal

pub returns-in_default-clause-refused : goal.returns-in_default-clause-refused
returns-in_default-clause-refused c =
    read-none _ _ _ _ _ c.loop-one.invariant _ c.loop-one-test.true c.in_ok-made.field-0 c.in_default.is
    c.in_ok-made.ensures.entry

pub loop-one-preserved : goal.loop-one-preserved
loop-one-preserved c =
    read-more _ _ _ _ _ c.loop-one.invariant _ c.loop-one-test.true c.in_ok-made.field-0 c.in-Some.made
    c.in-Some.behind c.in-Some.is c.in_ok-made.ensures.entry c.in_ok-made.ensures.rest c.push.new.self.items
    c.in_ok-push.ensures.items

pub returns-then-not-is_empty-clause-refused : goal.returns-then-not-is_empty-clause-refused
returns-then-not-is_empty-clause-refused c =
    read-left _ _ _ _ _ c.loop-one.invariant (omega arith)
    (eqb-false _ 0 (sym c.is_empty.ensures ∙ c.if-not-is_empty.true))

pub returns-clause-made : goal.returns-clause-made
returns-clause-made c =
    read-all _ _ _ _ _ c.loop-one.invariant (omega arith)
    (eqb-true _ 0 (sym c.is_empty.ensures ∙ c.if-not-is_empty.false))
