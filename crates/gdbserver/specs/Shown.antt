-- What a debugger is sent of the state at a time.
use Rattle.std.specs.Prelude.{List, min, option_map, ℕ}
use Rattle.gdbstate.specs.Looks.{bytes_shown, memory_answer, registers_answer}
use Rattle.gdbwire.specs.declared.packets.Part.{Part}
use Rattle.machine.specs.Seen.{seen_of}
use Rattle.timeline.specs.Line.{Line, state_at}
use Rattle.unixmodel.specs.Shown.{shown_process}
use Rattle.unixmodel.specs.State.{State}

abbrev pub state_of : Line → State
state_of line = state_at line.start line.events line.at

-- the registers of a process
abbrev pub registers_of : Line → ℕ → List ℕ
registers_of line pid = registers_answer (option_map seen_of (shown_process (state_of line) pid))

-- its memory
abbrev pub memory_of : Line → ℕ → Part → List ℕ
memory_of line pid part = memory_answer (bytes_shown (state_of line) pid part.from (min part.count 4096))
