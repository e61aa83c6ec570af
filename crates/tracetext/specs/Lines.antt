-- The lines of the text of a trace, in strace's manner.
use Rattle.std.specs.Prelude.{List, None, Option, Some, [], codes, decimal, false, if◌then◌else◌, nat_lt}
use Rattle.std.specs.Prelude.{string_bytes, true, ℕ, ℤ, ◌++◌}
use Rattle.std.specs.Borrow.{Bor}
use Rattle.std.specs.Fmt.{digits, signed_decimal}
use Rattle.tracetext.specs.Names.{call_name}
use Rattle.tracetext.specs.Quotes.{filled, quoted}
use Rattle.tracetext.specs.declared.asked.CallText.{CallText}
use Rattle.tracetext.specs.declared.asked.Shown.{Shown}
use Rattle.tracetext.specs.declared.asked.Shown.TheVariants.{Cut, Nothing, Whole}
use Rattle.tracetext.specs.declared.lines.Detail.{Detail}
use Rattle.tracetext.specs.declared.lines.Detail.TheVariants.{Reason, Word}
use Rattle.tracetext.specs.declared.lines.FaultText.{FaultText}
use Rattle.tracetext.specs.declared.lines.FaultText.TheVariants.{Known, Unknown}
use Rattle.tracetext.specs.declared.lines.Line.{Line}
use Rattle.tracetext.specs.declared.lines.Outcome.{Outcome}
use Rattle.tracetext.specs.declared.lines.Outcome.TheVariants.{Answered, Left, Resumed, Unfinished}
use Rattle.tracetext.specs.declared.lines.Says.{Says}
use Rattle.tracetext.specs.declared.lines.Says.TheVariants as says
use Rattle.unixmodel.specs.Calls.{call_of}
use Rattle.unixmodel.specs.declared.call.Call.{Call}
use Rattle.unixmodel.specs.declared.call.Call.TheVariants.{Read, Wait}

-- ---- the arguments of a call

-- the bytes of a buffer, where there is one
abbrev pub shown_text : Shown → List ℕ → List ℕ
shown_text Nothing bytes = []
shown_text Whole bytes = quoted bytes false
shown_text Cut bytes = quoted bytes true

-- from the buffer on
unfoldable pub rest_text : CallText → List ℕ
rest_text text = shown_text text.shown text.«data».items ++ string_bytes text.back

unfoldable pub arguments_text : CallText → List ℕ
arguments_text text = string_bytes text.front ++ rest_text text

-- ---- what becomes of the call of a number, with these arguments

-- its name and arguments, up to the bracket after them
unfoldable pub told_text : ℕ → CallText → List ℕ
told_text number text = call_name number ++ codes "(" ++ arguments_text text

-- the bracket after the arguments, and what the call returned
unfoldable pub answer_text : ℤ → List ℕ
answer_text answer = codes ") = " ++ signed_decimal answer

-- how often it came in a row, if more than once
abbrev pub times_text : ℕ → List ℕ
times_text times = if nat_lt 1 times then codes " (" ++ decimal times ++ codes " times)" else []

-- calls in a row that returned at once
abbrev pub answered_text : ℕ → CallText → ℤ → ℕ → List ℕ
answered_text number text answer times = told_text number text ++ answer_text answer ++ times_text times

-- a read that waits: what it fills in isn't shown yet
abbrev pub unread_text : ℕ → CallText → List ℕ
unread_text number text = call_name number ++ codes "(" ++ string_bytes text.front ++ codes "<unfinished ...>"

-- a call that waits
abbrev pub unfinished_text : Option Call → ℕ → CallText → List ℕ
unfinished_text (Some Read) number text = unread_text number text
unfinished_text _ number text = told_text number text ++ codes " <unfinished ...>"

-- what read and wait filled in
abbrev pub filled_in : Option Call → CallText → List ℕ
filled_in (Some Read) text = codes " " ++ rest_text text
filled_in (Some Wait) text = codes " " ++ rest_text text
filled_in _ text = []

-- a call that returned in a turn
abbrev pub resumed_text : ℕ → CallText → ℤ → List ℕ
resumed_text number text answer =
    codes "<... " ++ call_name number ++ codes " resumed>" ++ filled_in (call_of number) text ++ answer_text answer

unfoldable pub outcome_text : ℕ → CallText → Outcome → List ℕ
outcome_text number text (Answered answer times) = answered_text number text answer times
outcome_text number text Unfinished = unfinished_text (call_of number) number text
outcome_text number text (Resumed answer) = resumed_text number text answer
outcome_text number text Left = told_text number text ++ codes ") = ?"

-- ---- a fault

unfoldable pub hexadecimal : ℕ → List ℕ
hexadecimal number = codes "0x" ++ digits 16 false number

unfoldable pub detail_text : Detail → List ℕ
detail_text (Reason reason) = reason.now
detail_text (Word word) = codes " 0x" ++ filled 8 (digits 16 false word)

unfoldable pub cause_text : FaultText → List ℕ
cause_text Unknown = codes "fault"
cause_text (Known access detail address) =
    codes "fault " ++ access.now ++ detail_text detail ++ codes " at " ++ hexadecimal address

-- the name of a pc
abbrev pub name_text : Option (Bor (List ℕ)) → List ℕ
name_text None = []
name_text (Some name) = codes " in " ++ name.now

-- a fault, its pc, and the pc's name, if it is known
abbrev pub fault_text : FaultText → ℕ → Option (Bor (List ℕ)) → List ℕ
fault_text fault pc name =
    codes "--- " ++ cause_text fault ++ codes ", pc " ++ hexadecimal pc ++ name_text name ++ codes " ---"

-- ---- a line

abbrev pub killed_text : Option ℕ → List ℕ
killed_text None = codes "+++ killed +++"
killed_text (Some killer) = codes "+++ killed by pid " ++ decimal killer ++ codes " +++"

-- what is said of a process
unfoldable pub says_text : Says → List ℕ
says_text (says.Call call outcome) = outcome_text call.number call.text.now outcome
says_text (says.Ended status) = codes "+++ ended with " ++ signed_decimal status ++ codes " +++"
says_text (says.Fault fault pc name) = fault_text fault pc name
says_text (says.Killed killer) = killed_text killer
says_text says.Turn = codes "--- turn ---"
says_text says.Tick = codes "--- tick ---"

-- the number of the event, where it is shown
abbrev pub stamp_text : Option ℕ → List ℕ
stamp_text None = []
stamp_text (Some at) = decimal at ++ codes " "

-- a process, and what is said of it
unfoldable pub line_saying : Option ℕ → ℕ → List ℕ → List ℕ
line_saying at pid said = stamp_text at ++ codes "[pid " ++ decimal pid ++ codes "] " ++ said ++ codes "\n"

abbrev pub line_text : Line → List ℕ
line_text line = line_saying line.at line.pid (says_text line.says)
