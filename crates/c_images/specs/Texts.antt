-- Assembly texts in numbers.
use Rattle.std.proofs.Common.{Global, Vec}
use Rattle.std.specs.Prelude.{Err, IfErr, IfOk, List, Ok, Result, length, ⊤, ℕ, ◌≡◌}
use Rattle.std.specs.String.{string_bytes}
use Rattle.std.specs.declared.alloc.AllocError.{AllocError}
use Rattle.asm.specs.Emitted.{Tells}
use Rattle.asm.specs.declared.fault.AsmFault.{AsmFault}
use Rattle.assembly_texts.specs.Told.{IsTold}
use Rattle.assembly_texts.specs.declared.telling.Told.{Told}
use Rattle.assembly_texts.specs.declared.telling.Told.TheVariants.{Faults, Made}
use Rattle.unixmodel.specs.Assembly as the
use Rattle.c_images.specs.Copied.{copied}
use Rattle.c_images.specs.Faults.{asm_number}
use Rattle.c_images.specs.declared.texts.AssembledTold.{AssembledTold}
use Rattle.c_images.specs.declared.texts.ExpandedTold.{ExpandedTold}
use Rattle.c_images.specs.declared.texts.TextFault.{TextFault}
use Rattle.c_images.specs.declared.texts.TextFault.TheVariants as text

abbrev pub text_number : TextFault → ℕ
text_number text.Text = 500
text_number (text.Line fault) = asm_number fault.kind

-- the fault is the text's
abbrev pub TellsText : List ℕ → TextFault → Type 0
TellsText bytes text.Text = ⊤
TellsText bytes (text.Line fault) = Tells (the.assembled bytes) fault

-- how many bytes the file has, or the line of the fault
abbrev pub assembled_told : Result (Vec ℕ Global) TextFault → AssembledTold
assembled_told (Ok file) = record { bytes = length file.items; line = 0 }
assembled_told (Err text.Text) = record { bytes = 0; line = 0 }
assembled_told (Err (text.Line fault)) = record { bytes = 0; line = fault.line }

-- ---- texts as other assemblers take them

abbrev pub expanded_number : Result Told AllocError → ℕ
expanded_number (Ok (Made file report)) = 0
expanded_number (Ok (Faults report)) = 600
expanded_number (Err e) = 4

abbrev pub expanded_put : Result Told AllocError → ExpandedTold → ExpandedTold
expanded_put (Ok (Made file report)) old = record { bytes = length file.items; report = length (string_bytes report) }
expanded_put (Ok (Faults report)) old = record { bytes = 0; report = length (string_bytes report) }
expanded_put (Err e) old = old

abbrev pub file_put : Result Told AllocError → List ℕ → List ℕ
file_put (Ok (Made file report)) old = copied file.items old
file_put (Ok (Faults report)) old = old
file_put (Err e) old = old

abbrev pub report_put : Result Told AllocError → List ℕ → List ℕ
report_put (Ok (Made file report)) old = copied (string_bytes report) old
report_put (Ok (Faults report)) old = copied (string_bytes report) old
report_put (Err e) old = old
