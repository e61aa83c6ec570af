-- What processes hold and wait for, and why their next instructions fault, as a session has it in numbers.
use Rattle.std.specs.Prelude.{List, MatchOption, None, Option, Some, false, length, option_and_then, option_map, ℕ, ◌≡◌}
use Rattle.next_fault.specs.Causes.{fault_shown}
use Rattle.kernel.specs.Shows.{descriptors_on}
use Rattle.machine.specs.Holdings.{IsOfKind, file_told, pending_in}
use Rattle.machine.specs.View.{View}
use Rattle.machine.specs.declared.holdings.OpenOn.{OpenOn}
use Rattle.machine.specs.declared.holdings.OpenOn.TheVariants as on
use Rattle.machine.specs.declared.holdings.Opened.{Opened}
use Rattle.session.specs.Copied.{copied}
use Rattle.session.specs.Told.{flag}
use Rattle.session.specs.declared.held.FaultTold.{FaultTold}
use Rattle.session.specs.declared.held.OpenedTold.{OpenedTold}
use Rattle.session.specs.declared.held.WaitTold.{WaitTold}
use Rattle.unixmodel.specs.Files.{slot}
use Rattle.unixmodel.specs.OpenFiles.{OpenFile}
use Rattle.unixmodel.specs.Process.{Process}
use Rattle.unixmodel.specs.Shown.{shown_process}
use Rattle.unixmodel.specs.State.{State}
use Rattle.unixmodel.specs.declared.process.Pending.{Pending}
use Rattle.unixmodel.specs.declared.trap.Cause.{Cause}
use Rattle.unixmodel.specs.declared.trap.Cause.TheVariants as cause
use Rattle.unixmodel.specs.declared.trap.Trap.{Trap}

-- ---- descriptors

abbrev pub kind_number : OpenOn → ℕ
kind_number (on.File number offset) = 1
kind_number (on.Console number) = 2
kind_number (on.Device number) = 3
kind_number (on.ReadEnd pipe) = 4
kind_number (on.WriteEnd pipe) = 5

abbrev pub number_on : OpenOn → ℕ
number_on (on.File number offset) = number
number_on (on.Console number) = number
number_on (on.Device number) = number
number_on (on.ReadEnd pipe) = pipe
number_on (on.WriteEnd pipe) = pipe

abbrev pub offset_on : OpenOn → ℕ
offset_on (on.File number offset) = offset
offset_on (on.Console number) = 0
offset_on (on.Device number) = 0
offset_on (on.ReadEnd pipe) = 0
offset_on (on.WriteEnd pipe) = 0

abbrev pub opened_told : ℕ → Opened → OpenedTold
opened_told file o = record {
  number = number_on o.on;
  file = file;
  kind = kind_number o.on;
  offset = offset_on o.on;
  readable = flag o.readable;
  writable = flag o.writable;
  descriptors = o.descriptors;
}

-- the number of the open file that a descriptor of a process names, and that file
abbrev pub file_named : State → ℕ → ℕ → Option ℕ
file_named s pid descriptor = option_and_then (λ (p : Process). slot p.descriptors descriptor) (shown_process s pid)

abbrev pub open_file : State → ℕ → ℕ → Option OpenFile
open_file s pid descriptor = option_and_then (slot s.opens) (file_named s pid descriptor)

-- the numbers are those of this open file of the state, and of how many descriptors name it
pub record IsOpen (m : View) (file : ℕ) (told : OpenedTold) : Type 0 where
  pub opened : Opened
  pub numbers : told ≡ opened_told file opened
  pub opens : slot m.state.opens file ≡ Some (file_told opened)
  pub count : opened.descriptors ≡ descriptors_on m.state file
  -- a node's kind doesn't matter once the machine has failed
  pub kind : m.failed ≡ false → IsOfKind m.state.files opened.on

-- that of the open file that the descriptor names
pub record IsNamed (m : View) (pid descriptor : ℕ) (told : OpenedTold) : Type 0 where
  pub file : ℕ
  pub named : file_named m.state pid descriptor ≡ Some file
  pub opens : IsOpen m file told

-- a descriptor's open file, or that it names none
abbrev pub ShowsDescriptor : View → ℕ → ℕ → Option OpenedTold → Type 0
ShowsDescriptor m pid descriptor told =
    MatchOption told (open_file m.state pid descriptor ≡ None) (IsNamed m pid descriptor)

-- ---- pipes

-- the bytes of the pipe, if there is one, are copied, and how many it has is returned
abbrev pub ShowsPipe : Option (List ℕ) → List ℕ → List ℕ → Option ℕ → Type 0
ShowsPipe None old new None = new ≡ old
ShowsPipe None old new (Some count) = ⊥
ShowsPipe (Some bytes) old new None = ⊥
ShowsPipe (Some bytes) old new (Some count) = (count ≡ length bytes) × (new ≡ copied bytes old)

-- ---- calls that wait

abbrev pub wait_told : Pending → WaitTold
wait_told w = record { arguments = w.args; done = w.done; since = w.since }

-- the call that a process waits in
abbrev pub wait_of : State → ℕ → Option WaitTold
wait_of s pid = option_map wait_told (option_and_then (λ (p : Process). pending_in p.mode) (shown_process s pid))

abbrev pub directory_of : State → ℕ → Option ℕ
directory_of s pid = option_map (λ (p : Process). p.directory) (shown_process s pid)

-- ---- faults

-- the number of a cause, as the RISC-V manual has it
abbrev pub cause_number : Cause → ℕ
cause_number cause.InstructionMisaligned = 0
cause_number cause.IllegalInstruction = 2
cause_number cause.Breakpoint = 3
cause_number cause.LoadMisaligned = 4
cause_number cause.StoreMisaligned = 6
cause_number cause.EnvironmentCall = 8
cause_number cause.InstructionPageFault = 12
cause_number cause.LoadPageFault = 13
cause_number cause.StorePageFault = 15

abbrev pub fault_told : Trap × ℕ → FaultTold
fault_told f = record { address = f.0.address; pc = f.1; cause = cause_number f.0.cause }

-- the fault of a process's next instruction
abbrev pub next_fault : State → ℕ → Option FaultTold
next_fault s pid = option_map fault_told (option_and_then fault_shown (shown_process s pid))
