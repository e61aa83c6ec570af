-- What a pen writes, where it goes, and what the pen gave up.
use Rattle.std.specs.Prelude.{Bool, List, None, Option, Some, false, option_map, ℕ, ◌++◌, ◌≡◌, ◌≢◌}
use Rattle.tracetext.specs.declared.pen.Form.{Form}
use Rattle.tracetext.specs.declared.pen.Form.TheVariants.{Commits, Events, Spans, Text}
use Rattle.tracetext.specs.declared.pen.Pen.{Pen}
use Rattle.tracetext.specs.declared.pen.Trouble.{Trouble}

-- what each form was given so far, where that is known
abbrev pub Given : Type 0
Given = Form → Option (List ℕ)

-- a form gets these bytes at its end, where it is known what it has
abbrev pub Appends : Form → List ℕ → Given → Given → Type 0
Appends form bytes old new = new form ≡ option_map (λ given. given ++ bytes) (old form)

-- all other forms have what they had
abbrev pub KeepsOthers : Form → Given → Given → Type 0
KeepsOthers form old new = (other : Form) → other ≢ form → new other ≡ old other

-- whether lines of a form are written
abbrev pub has : {S : Type 0} → Pen S → Form → Bool
has pen Text = pen.has_text
has pen Spans = pen.has_spans
has pen Commits = pen.has_commits
has pen Events = pen.has_events

-- the pen with this said of a form
abbrev pub set : {S : Type 0} → Pen S → Form → Bool → Pen S
set pen Text wanted = record pen { has_text = wanted }
set pen Spans wanted = record pen { has_spans = wanted }
set pen Commits wanted = record pen { has_commits = wanted }
set pen Events wanted = record pen { has_events = wanted }

-- the trouble that came first
abbrev pub first_trouble : Option Trouble → Trouble → Option Trouble
first_trouble None trouble = Some trouble
first_trouble (Some first) trouble = Some first

-- the pen that gave up a form
abbrev pub lost : {S : Type 0} → Pen S → Form → Trouble → Pen S
lost pen form trouble = record (set pen form false) { trouble = first_trouble pen.trouble trouble }
