-- Which forms of a trace are wanted.
use Rattle.std.specs.Prelude.{Bool}
use Rattle.tracetext.specs.declared.pen.Form.{Form}
use Rattle.tracetext.specs.declared.pen.Form.TheVariants.{Commits, Events, Spans, Text}
use Rattle.tracetext.specs.declared.wishes.Wanted.{Wanted}

abbrev pub wants : Wanted → Form → Bool
wants wanted Text = wanted.text
wants wanted Spans = wanted.spans
wants wanted Commits = wanted.commits
wants wanted Events = wanted.events
