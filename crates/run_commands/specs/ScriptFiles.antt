-- What is known of the script that is recorded in a file.
use Rattle.std.specs.Prelude.{Bool, IsSome, List, None, Option, Some, [], false, is_some, option_map, true, ℕ, ⊤, ◌++◌}
use Rattle.std.specs.Prelude.{◌≡◌}
use Rattle.std.specs.Borrow.{Bor}
use Rattle.std.specs.List.{All}
use Rattle.events.specs.Records.{Kept, Records, noted}
use Rattle.events.specs.Rows.{IsRow, row_events, rows_text}
use Rattle.events.specs.Scripts.{IsScriptOf}
use Rattle.events.specs.Transcripts.{text_events}
use Rattle.events.specs.declared.row.Row.{Row}
use Rattle.host.specs.Files.{Appends, Holds, HostFiles, Writes}
use Rattle.host.specs.declared.report.Failure.{Failure}
use Rattle.run_commands.specs.declared.script_file.ScriptFile.{ScriptFile}
use Rattle.unixmodel.specs.declared.event.Event.{Event}

-- what a file has of the script: nothing before it is made
abbrev pub stored : Bool → Option (List ℕ) → List ℕ
stored true (Some bytes) = bytes
stored _ _ = []

-- the lines of the script, those that wait, too
abbrev pub lines_at : HostFiles → List ℕ → Bool → List ℕ → List ℕ
lines_at files name is_made waiting = stored is_made (files name) ++ waiting

-- the events that are recorded: those that the lines say, and those of the row to which some still come. They are
-- known while a script is recorded, nothing failed, and it is known what the host's names hold
abbrev pub kept_of : Option HostFiles → Option (Bor (List ℕ)) → Option Failure → Bool → List ℕ → Row → Option Kept
kept_of (Some files) (Some name) None is_made waiting row =
    Some (noted (text_events (lines_at files name.now is_made waiting) ++ row_events row))
kept_of _ _ _ _ _ _ = None

abbrev pub kept_in : Option HostFiles → ScriptFile → Option Kept
kept_in held file = kept_of held file.name file.failure file.is_made file.lines.bytes.items file.row

-- no event is recorded yet
abbrev pub new_in : Option HostFiles → Option (Bor (List ℕ)) → Option Kept
new_in (Some files) (Some name) = Some (noted [])
new_in _ _ = None

-- the file of this name is empty
abbrev pub IsEmptyIn : Option (Bor (List ℕ)) → Option HostFiles → Type 0
IsEmptyIn (Some name) held = Holds name.now [] held
IsEmptyIn None held = ⊤

-- the lines are those of rows, and the file is there once it is made
pub record AreLines (files : HostFiles) (name : List ℕ) (is_made : Bool) (waiting : List ℕ) (row : Row) : Type 0 where
  pub there : is_made ≡ true → IsSome (files name)
  pub rows : List Row
  pub fit : All IsRow rows
  pub fits : IsRow row
  pub lines : lines_at files name is_made waiting ≡ rows_text rows

abbrev pub IsSoundOf : Option HostFiles → Option (Bor (List ℕ)) → Option Failure → Bool → List ℕ → Row → Type 0
IsSoundOf (Some files) (Some name) None is_made waiting row = AreLines files name.now is_made waiting row
IsSoundOf _ _ _ _ _ _ = ⊤

-- where events are known
abbrev pub IsSound : Option HostFiles → ScriptFile → Type 0
IsSound held file = IsSoundOf held file.name file.failure file.is_made file.lines.bytes.items file.row

-- just these events are recorded after the others, where the script was sound
pub record Takes (held holds : Option HostFiles) (before after : ScriptFile) (events : List Event) : Type 0 where
  pub sound : IsSound held before → IsSound holds after
  pub records : IsSound held before → Records (kept_in held before) (kept_in holds after) events
  pub name : after.name ≡ before.name
  pub known : after.failure ≡ None → (before.failure ≡ None) × (is_some holds ≡ is_some held)

-- lines are put at the end of a file that is made, and make another one
abbrev pub Puts : Bool → List ℕ → List ℕ → Option HostFiles → Option HostFiles → Type 0
Puts true name lines old new = Appends name lines old new
Puts false name lines old new = Writes name lines old new

-- no line waits, and the row has no event
pub record IsAllWritten (file : ScriptFile) : Type 0 where
  pub made : file.is_made ≡ true
  pub none : file.lines.bytes.items ≡ []
  pub empty : row_events file.row ≡ []

-- the file of this name holds a script of these events
pub record HoldsScript (named : Option (Bor (List ℕ))) (held : Option HostFiles) (events : List Event) : Type 0 where
  pub name : Bor (List ℕ)
  pub is : named ≡ Some name
  pub files : HostFiles
  pub known : held ≡ Some files
  pub text : List ℕ
  pub there : files name.now ≡ Some text
  pub script : IsScriptOf text events

-- what is known of a recorder: its events, the name of its file, and which host it has
pub record Recorder : Type 0 where
  pub kept : Option Kept
  pub name : Option (List ℕ)
  pub host : ℕ

abbrev pub name_of : Option (Bor (List ℕ)) → Option (List ℕ)
name_of name = option_map (λ (n : Bor (List ℕ)). n.now) name

abbrev pub recorder : Option HostFiles → ℕ → ScriptFile → Recorder
recorder held host file = record { kept = kept_in held file; name = name_of file.name; host = host }

-- one of no events
abbrev pub new_recorder : Option HostFiles → ℕ → Option (Bor (List ℕ)) → Recorder
new_recorder held host name = record { kept = new_in held name; name = name_of name; host = host }

-- no event more is recorded, and what is recorded may be lost
pub record IsWrittenOut (old new : Recorder) : Type 0 where
  pub records : Records old.kept new.kept []
  pub name : new.name ≡ old.name
  pub host : new.host ≡ old.host
