use Rattle.std.proofs.Common.{sym, ◌∙◌}
use Rattle.std.proofs.lemmas.Result.{IfOk-from_err}
use Rattle.events.proofs.LineLemmas.{first-fault, memory-told, said-item, said-next}
use Rattle.events.proofs.lines.from_lines.Goals as goal

pub loop-index-preserved-then-is_empty : goal.loop-index-preserved-then-is_empty
loop-index-preserved-then-is_empty g c =
    said-next g.L.FromLine.says (λ line. line.now) c.args.lines.now c.loop-index.index _ c.loop-index.said.items
    c.loop-index-test.true c.loop-index.invariant (sym c.if-is_empty.true ∙ c.is_empty.ensures)

pub loop-index-preserved : goal.loop-index-preserved
loop-index-preserved g c =
    rw c.in_ok-push.ensures.items
    (said-item g.L.FromLine.says (λ line. line.now) c.args.lines.now c.loop-index.index _ c.loop-index.said.items
    c.loop-index-test.true c.loop-index.invariant c.in-Some.one
    (sym c.if-is_empty.false ∙ c.is_empty.ensures) (rw c.in-Some.is at c.in_ok-one.ensures))

pub returns-in_default-clause-err : goal.returns-in_default-clause-err
returns-in_default-clause-err g c =
    first-fault g.L.FromLine.says (λ line. line.now) c.args.lines.now c.loop-index.index _ c.loop-index.said.items
    c.loop-index-test.true c.loop-index.invariant
    (sym c.if-is_empty.false ∙ c.is_empty.ensures) (rw c.in_default.is at c.in_ok-one.ensures)

pub returns-in_err-one : goal.returns-in_err-one
returns-in_err-one g c = record {
  ok = IfOk-from_err c.from_residual.result _ c.from_residual.ensures.0;
  err = memory-told g.L.FromLine.says _ c.from_residual.result c.from_residual.ensures.1;
}

pub returns-in_err-push : goal.returns-in_err-push
returns-in_err-push g c = record {
  ok = IfOk-from_err c.from_residual-in_err-push.result _ c.from_residual-in_err-push.ensures.0;
  err = memory-told g.L.FromLine.says _ c.from_residual-in_err-push.result c.from_residual-in_err-push.ensures.1;
}
