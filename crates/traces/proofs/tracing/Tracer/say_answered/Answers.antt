use Rattle.std.proofs.Common.{sym, ◌∙◌}
use Rattle.std.proofs.lemmas.Bool.{true≢false}
use Rattle.tracetext.specs.declared.pen.Form.TheVariants as form
use Rattle.traces.proofs.tracing.Tracer.say_answered.Goals as goal

pub returns-then-is_err : goal.returns-then-is_err
returns-then-is_err g c shown written = absurd (true≢false (sym written ∙ c.starve.ensures.none form.Text))
