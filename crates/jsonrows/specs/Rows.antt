-- The rows of a report and of the lines of events.
use Rattle.std.specs.Prelude.{List, None, Option, Some, [], option_and_then, option_map, slice_index_or, suc, zero, ℕ}
use Rattle.std.specs.Prelude.{◌++◌, ◌∷◌}
use Rattle.machine.specs.declared.holdings.Holdings.{Holdings}
use Rattle.machine.specs.declared.holdings.OpenOn.{OpenOn}
use Rattle.machine.specs.declared.holdings.OpenOn.TheVariants as on
use Rattle.machine.specs.declared.holdings.Opened.{Opened}
use Rattle.machine.specs.Holdings.{holdings_of}
use Rattle.jsonrows.specs.declared.call_rows.Handed.{Handed}
use Rattle.jsonrows.specs.declared.descriptors.DescriptorRow.{DescriptorRow}
use Rattle.jsonrows.specs.declared.descriptors.OnKind.TheVariants as kind
use Rattle.jsonrows.specs.declared.descriptors.OnRow.{OnRow}
use Rattle.unixmodel.specs.Files.{slot}
use Rattle.unixmodel.specs.OpenFiles.{OpenFile}
use Rattle.unixmodel.specs.State.{State}
use Rattle.unixmodel.specs.Shown.{shown_process}

-- a call that was handed nothing in memory
abbrev pub nothing : Handed
nothing = record {
  path = None;
  new_path = None;
  argv = None;
  «data» = None;
  cut = None;
  status = None;
  ends = None;
}

-- ---- descriptors

abbrev pub descriptor_of : Option Holdings → ℕ → Option ℕ
descriptor_of None descriptor = None
descriptor_of (Some held) descriptor = slot held.descriptors descriptor

-- the open file that a descriptor of the process with a pid names
abbrev pub file_named : State → ℕ → ℕ → Option OpenFile
file_named s pid descriptor = option_and_then (slot s.opens)
    (descriptor_of (option_map holdings_of (shown_process s pid)) descriptor)

-- what a file is open on: its kind, a number and of a file the offset
abbrev pub on_row : OpenOn → OnRow
on_row (on.File number offset) = record { kind = kind.File; number = number; offset = Some offset }
on_row (on.Console number) = record { kind = kind.Console; number = number; offset = None }
on_row (on.Device number) = record { kind = kind.Device; number = number; offset = None }
on_row (on.ReadEnd pipe) = record { kind = kind.ReadEnd; number = pipe; offset = None }
on_row (on.WriteEnd pipe) = record { kind = kind.WriteEnd; number = pipe; offset = None }

abbrev pub row_of : ℕ → Option Opened → List DescriptorRow
row_of descriptor None = []
row_of descriptor (Some opened) = record {
  descriptor = descriptor;
  on = on_row opened.on;
  readable = opened.readable;
  writable = opened.writable;
} ∷ []

-- the rows of the first n descriptors, as far as they are open
unfoldable pub rows_below : List (Option Opened) → ℕ → List DescriptorRow
rows_below descriptors zero = []
rows_below descriptors (suc n) = rows_below descriptors n ++ row_of n (slice_index_or descriptors n None)
