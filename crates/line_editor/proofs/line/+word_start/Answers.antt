use Rattle.std.proofs.Common.{refl, sym, ◌∙◌}
use Rattle.line_editor.specs.Lines.{word_start}
use Rattle.line_editor.proofs.Words.{begins, inside, skips}
use Rattle.line_editor.proofs.line.+word_start.Goals as goal

pub returns-then-place-eq0-clause-start : goal.returns-then-place-eq0-clause-start
unfolding word_start
returns-then-place-eq0-clause-start t c = rw c.if-place-eq0.true refl

pub returns-then-not-is_blank-clause-start : goal.returns-then-not-is_blank-clause-start
returns-then-not-is_blank-clause-start t c =
    c.word_start.ensures.start
    ∙ sym (inside c.args.text.now c.args.place c.args.seen _ c.if-place-eq0.false
    c.is_blank.ensures c.if-not-is_blank.true)

pub returns-then-seen-clause-start : goal.returns-then-seen-clause-start
returns-then-seen-clause-start t c =
    sym (begins c.args.text.now c.args.place c.args.seen _ c.if-place-eq0.false
    c.is_blank.ensures c.if-not-is_blank.false
    c.if-seen.true)

pub returns-clause-start : goal.returns-clause-start
returns-clause-start t c =
    c.word_start-2.ensures.start
    ∙ sym (skips c.args.text.now c.args.place c.args.seen _ c.if-place-eq0.false
    c.is_blank.ensures
    c.if-not-is_blank.false c.if-seen.false)
