-- What is kept of a process's last calls.
use Rattle.std.specs.Prelude.{None, Option, Some, ℤ}
use Rattle.tracetext.specs.declared.asked.Asked.{Asked}
use Rattle.reports.specs.declared.last_calls.Made.{Made}
use Rattle.reports.specs.declared.last_calls.LastCalls.{LastCalls}

-- a call that has no answer yet
abbrev pub unanswered : Asked → Made
unanswered asked = record { asked = asked; answer = None }

-- one call more: the first of four is forgotten
abbrev pub begun : Asked → LastCalls → LastCalls
begun asked calls =
    record { first = calls.second; second = calls.third; third = calls.last; last = Some (unanswered asked) }

-- the answer that was known first
abbrev pub kept : ℤ → Option ℤ → Option ℤ
kept answer None = Some answer
kept answer (Some known) = Some known

-- a call with its answer
abbrev pub with_answer : ℤ → Option Made → Option Made
with_answer answer None = None
with_answer answer (Some made) = Some (record { asked = made.asked; answer = kept answer made.answer })

-- the last call has returned this, if its answer was not known
abbrev pub answered : ℤ → LastCalls → LastCalls
answered answer calls =
    record { first = calls.first; second = calls.second; third = calls.third; last = with_answer answer calls.last }
