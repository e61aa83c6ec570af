-- What the text of a trace says of calls, and the calls that are held back.
use Rattle.std.specs.Prelude.{Bool, IfSome, List, None, Option, Some, false, get_or, if◌then◌else◌, min, true}
use Rattle.std.specs.Prelude.{string_bytes, ℕ, ℤ, ◌+◌, ◌++◌, ◌-◌, ◌<◌, ◌^◌, ◌≡◌, ◌≤◌}
use Rattle.tracetext.specs.Lines.{line_saying, outcome_text}
use Rattle.tracetext.specs.Wishes.{IsOf}
use Rattle.tracetext.specs.declared.asked.Asked.{Asked}
use Rattle.tracetext.specs.declared.asked.CallText.{CallText}
use Rattle.tracetext.specs.declared.lines.Outcome.{Outcome}
use Rattle.tracetext.specs.declared.lines.Outcome.TheVariants.{Answered}
use Rattle.tracetext.specs.declared.rows.Row.{Row}
use Rattle.traces.specs.declared.tracing.Tracer.{Tracer}

-- the number of the event after `at` events
abbrev pub number_after : ℕ → ℕ
number_after at = min (at + 1) (2 ^ 64 - 1)

-- the same, where it is shown
abbrev pub stamp : Bool → ℕ → Option ℕ
stamp is_shown at = if is_shown then Some (number_after at) else None

-- the events of a process are shown now
pub record Shows {S : Type 0} (tracer : Tracer S) (pid : ℕ) : Type 0 where
  pub from : tracer.wanted.from ≤ number_after tracer.at
  pub to : number_after tracer.at ≤ tracer.wanted.to
  pub process : IsOf tracer.wanted.pid pid

-- a call is shown now
pub record ShowsCall {S : Type 0} (tracer : Tracer S) (asked : Asked) : Type 0 where
  pub process : Shows tracer asked.pid
  pub call : get_or tracer.wanted.calls.has asked.number (get_or tracer.wanted.calls.has 0 false) ≡ true

-- the line of what becomes of a call
abbrev pub call_line : {S : Type 0} → Tracer S → Asked → Outcome → List ℕ
call_line tracer asked outcome =
    line_saying (stamp tracer.wanted.times tracer.at) asked.pid (outcome_text asked.number tracer.text outcome)

-- the line of the calls that are held back
abbrev pub row_line : {S : Type 0} → Tracer S → List ℕ
row_line tracer =
    line_saying (stamp tracer.wanted.times tracer.row.at) tracer.row.pid
    (outcome_text tracer.row.number tracer.row.text (Answered tracer.row.answer tracer.row.times))

-- what was given ends with this line, where it is known
abbrev pub EndsWith : List ℕ → Option (List ℕ) → Type 0
EndsWith line given = IfSome given (λ text. (front : List ℕ) × (text ≡ front ++ line))

-- the row has this call, its arguments before and after a buffer, and its answer
pub record IsHeld (row : Row) (asked : Asked) (text : CallText) (answer : ℤ) : Type 0 where
  pub times : 0 < row.times
  pub pid : row.pid ≡ asked.pid
  pub number : row.number ≡ asked.number
  pub answered : row.answer ≡ answer
  pub front : string_bytes row.text.front ≡ string_bytes text.front
  pub back : string_bytes row.text.back ≡ string_bytes text.back
