-- What is sent of the registers and the memory of a process.
use Rattle.std.specs.Prelude.{List, None, Option, Some, [], codes, option_and_then, slice_get, suc, zero, ℕ, ◌%◌, ◌+◌}
use Rattle.std.specs.Prelude.{if◌then◌else◌, length, nat_lt, ◌==◌, ◌/◌, ◌∷◌, ◌^◌}
use Rattle.gdbreplies.specs.Replies.{error_sent, register_sent, registers_sent}
use Rattle.gdbwire.specs.Hex.{hex_bytes}
use Rattle.machine.specs.declared.seen.Seen.{Seen}
use Rattle.unixmodel.specs.Memory.{Page}
use Rattle.unixmodel.specs.Shown.{shown_page}
use Rattle.unixmodel.specs.State.{State}

-- the registers of a process, or E01 where there is none
abbrev pub registers_answer : Option Seen → List ℕ
registers_answer None = error_sent 1
registers_answer (Some seen) = registers_sent seen.registers seen.pc

-- the register of a process with a number, of which the pc is number 32
abbrev pub register_numbered : ℕ → Seen → Option ℕ
register_numbered number seen = if number == 32 then Some seen.pc else slice_get seen.registers number

-- a register, or E01 where there is none
abbrev pub value_answer : Option ℕ → List ℕ
value_answer None = error_sent 1
value_answer (Some value) = register_sent value

abbrev pub register_answer : ℕ → Option Seen → List ℕ
register_answer number None = error_sent 1
register_answer number (Some seen) = value_answer (register_numbered number seen)

-- the byte at an address of a process, whatever the marks of its page are
abbrev pub byte_of : ℕ → Option Page → Option ℕ
byte_of address page = option_and_then (λ (p : Page). slice_get p.bytes (address % 4096)) page

unfoldable pub byte_shown : State → ℕ → ℕ → Option ℕ
byte_shown s pid address = byte_of address (shown_page s pid (address / 4096))

-- the same, at a number that may be no address
abbrev pub byte_from : State → ℕ → ℕ → Option ℕ
byte_from s pid address = if nat_lt address (2 ^ 64) then byte_shown s pid address else None

-- a byte, if it is there, and then the others
abbrev pub followed : Option ℕ → List ℕ → List ℕ
followed None bytes = []
followed (Some byte) bytes = byte ∷ bytes

-- the bytes from an address on, at most n and no further than the first that is not there
unfoldable pub bytes_shown : State → ℕ → ℕ → ℕ → List ℕ
bytes_shown s pid address zero = []
bytes_shown s pid address (suc n) = followed (byte_from s pid address) (bytes_shown s pid (address + 1) n)

-- bytes, or E0e where there are none
abbrev pub memory_answer : List ℕ → List ℕ
memory_answer bytes = if length bytes == 0 then error_sent 14 else hex_bytes bytes
