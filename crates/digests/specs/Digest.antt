-- The digest of a state: a number of 64 bits, into which the numbers that make up the state are mixed one after the
-- other.
-- What no event changes is left out (how many frames and blocks there are), and of devices their minor numbers, and of
-- pages whether a fork had them.
use Rattle.std.specs.Prelude.{Bool, List, None, Option, Some, [], bit_xor, drop, false, length, map}
use Rattle.std.specs.Prelude.{option_map, replicate, slice_get, suc, take, true, zero, ℕ, ℤ, ◌%◌, ◌*◌, ◌++◌, ◌+◌}
use Rattle.std.specs.Prelude.{◌/◌, ◌^◌, ◌∷◌, ◌≡◌}
use Rattle.std.specs.Int.{cast_unsigned, div_ceil, w32}
use Rattle.std.specs.List.{fold}
use Rattle.byteorder.specs.Endian.{little_number}
use Rattle.renumbering.specs.Renumbered.{IsRenumbered}
use Rattle.schedules.specs.Alike.{mode_set_back, state_set_back}
use Rattle.unixmodel.specs.Console.{Console}
use Rattle.unixmodel.specs.declared.call.Call.{Call}
use Rattle.unixmodel.specs.declared.call.Call.TheVariants.{Read, Sleep, Wait, Write}
use Rattle.unixmodel.specs.declared.process.Mode.{Mode}
use Rattle.unixmodel.specs.declared.process.Mode.TheVariants.{Ready, Running, Waiting, Zombie}
use Rattle.unixmodel.specs.Files.{Files, Node, kind_of, links_of, node_bytes, size_of, slot}
use Rattle.unixmodel.specs.Files.Node.{Device, Directory, File}
use Rattle.unixmodel.specs.Memory.{Memory, Page}
use Rattle.unixmodel.specs.OpenFiles.{OpenFile, Target}
use Rattle.unixmodel.specs.OpenFiles.End.{ReadEnd, WriteEnd}
use Rattle.unixmodel.specs.OpenFiles.Target.{OnNode, OnPipe}
use Rattle.unixmodel.specs.Process.{Process}
use Rattle.unixmodel.specs.State.{State, open_limit, place_limit, process_at}

-- ---- mixing

-- the digest of nothing
abbrev pub start : ℕ
start = 0xCBF29CE484222325

-- An odd number, so that no two numbers of 64 bits have the same product in 64 bits.
abbrev pub factor : ℕ
factor = 0x9E3779B97F4A7C15

-- the high half goes into the low one too
abbrev pub folded : ℕ → ℕ
folded product = bit_xor product (product / 2 ^ 32)

-- one number goes in
unfoldable pub mix : ℕ → ℕ → ℕ
mix digest number = folded (bit_xor digest number * factor % 2 ^ 64)

-- numbers go in, one after the other
abbrev pub mixed : ℕ → List ℕ → ℕ
mixed digest numbers = fold mix digest numbers

-- n steps, each of which is given its number, from 0 on
unfoldable pub each : (ℕ → ℕ → ℕ) → ℕ → ℕ → ℕ
each step zero digest = digest
each step (suc n) digest = step (each step n digest) n

-- word k of bytes, and all of them in turn
abbrev pub word_mixed : List ℕ → ℕ → ℕ → ℕ
word_mixed bytes digest k = mix digest (little_number 8 (drop (8 * k) bytes))

abbrev pub words_mixed : ℕ → List ℕ → ℕ
words_mixed digest bytes = each (word_mixed bytes) (length bytes / 8) digest

-- bytes go in as words of 8, and what is left after the last word by itself
unfoldable pub bytes_mixed : ℕ → List ℕ → ℕ
bytes_mixed digest bytes = mixed (words_mixed digest bytes) (drop (8 * (length bytes / 8)) bytes)

abbrev pub flag : Bool → ℕ
flag false = 0
flag true = 1

-- ---- processes

-- the number of a call that can wait; no other call waits
abbrev pub waiting_number : Call → ℕ
waiting_number Wait = 3
waiting_number Read = 5
waiting_number Sleep = 13
waiting_number Write = 16
waiting_number _ = 0

abbrev pub mode_numbers : Mode → List ℕ
mode_numbers Running = 1 ∷ []
mode_numbers Ready = 2 ∷ []
mode_numbers (Waiting w) = 3 ∷ waiting_number w.number ∷ w.done ∷ w.since ∷ w.args
mode_numbers (Zombie status) = 4 ∷ cast_unsigned w32 status ∷ []

abbrev pub descriptor_number : Option ℕ → ℕ
descriptor_number None = 0
descriptor_number (Some id) = id + 1

abbrev pub descriptors_mixed : ℕ → List (Option ℕ) → ℕ
descriptors_mixed digest descriptors = fold (λ d o. mix d (descriptor_number o)) digest descriptors

abbrev pub page_mixed : ℕ → Page → ℕ
page_mixed digest p = bytes_mixed
    (mixed digest (flag p.marks.writable ∷ flag p.marks.executable ∷ flag p.marks.user ∷ [])) p.bytes

abbrev pub page_or_same : ℕ → Option Page → ℕ
page_or_same digest None = digest
page_or_same digest (Some p) = page_mixed digest p

-- a memory: how many pages it has, and each of them
unfoldable pub memory_mixed : ℕ → Memory → ℕ
memory_mixed digest memory =
    each (λ d n. page_or_same d (slice_get memory n)) (length memory) (mix digest (length memory))

abbrev pub front_numbers : Process → List ℕ
front_numbers p = p.pid ∷ p.parent ∷ p.pc ∷ p.size ∷ p.directory ∷ flag p.killed ∷ []

-- a process, except its memory
unfoldable pub bare_mixed : ℕ → Process → ℕ
bare_mixed digest p = descriptors_mixed
    (mixed (mixed (mixed digest (front_numbers p)) p.registers) (mode_numbers p.mode)) p.descriptors

abbrev pub place_mixed : ℕ → Option Process → ℕ
place_mixed digest None = mix digest 0
place_mixed digest (Some p) = memory_mixed (bare_mixed digest p) p.memory

unfoldable pub places_mixed : ℕ → State → ℕ
places_mixed digest s = each (λ d i. place_mixed d (process_at s i)) place_limit digest

-- ---- open files, pipes, the console

abbrev pub target_numbers : Target → List ℕ
target_numbers (OnNode number offset) = 1 ∷ number ∷ offset ∷ []
target_numbers (OnPipe pipe ReadEnd) = 2 ∷ pipe ∷ []
target_numbers (OnPipe pipe WriteEnd) = 3 ∷ pipe ∷ []

abbrev pub open_mixed : ℕ → Option OpenFile → ℕ
open_mixed digest None = mix digest 0
open_mixed digest (Some f) = mixed (mixed digest (target_numbers f.target)) (flag f.readable ∷ flag f.writable ∷ [])

unfoldable pub opens_mixed : ℕ → List (Option OpenFile) → ℕ
opens_mixed digest opens = each (λ d n. open_mixed d (slot opens n)) open_limit digest

-- the bytes of a pipe come between two numbers that are no bytes
abbrev pub pipe_mixed : ℕ → Option (List ℕ) → ℕ
pipe_mixed digest None = mix digest 0
pipe_mixed digest (Some bytes) = mix (mixed (mix digest 0x100) bytes) 0x100

unfoldable pub pipes_mixed : ℕ → List (Option (List ℕ)) → ℕ
pipes_mixed digest pipes = each (λ d n. pipe_mixed d (slot pipes n)) open_limit digest

unfoldable pub console_mixed : ℕ → Console → ℕ
console_mixed digest c = mixed (mixed digest (length c.committed ∷ length c.edited ∷ [])) (c.committed ++ c.edited)

-- ---- files

abbrev pub major_of : Node → ℕ
major_of (File links bytes) = 0
major_of (Device links major minor) = major
major_of (Directory links places) = 0

-- the bytes of a node of a size, block by block
unfoldable pub contents_mixed : ℕ → ℕ → List ℕ → ℕ
contents_mixed digest size bytes =
    each (λ d k. bytes_mixed d (take 1024 (drop (1024 * k) bytes))) (div_ceil size 1024) digest

abbrev pub node_mixed : ℕ → Option Node → ℕ
node_mixed digest None = mix digest 0
node_mixed digest (Some node) =
    contents_mixed (mixed digest (kind_of node ∷ links_of node ∷ size_of node ∷ major_of node ∷ [])) (size_of node)
    (node_bytes node)

unfoldable pub files_mixed : ℕ → Files → ℕ
files_mixed digest files = each (λ d n. node_mixed d (slot files n)) (length files) digest

-- ---- the state

abbrev pub status_number : Option ℤ → ℕ
status_number None = 0
status_number (Some status) = cast_unsigned w32 status + 1

abbrev pub front_of : State → List ℕ
front_of s = s.ticks ∷ s.next_pid ∷ s.last ∷ status_number s.halted ∷ []

-- everything except open files, pipes and files
abbrev pub processes_digest : State → ℕ
processes_digest s = places_mixed (console_mixed (mixed start (front_of s)) s.console) s

-- everything except the files
unfoldable pub digest_but_files : State → ℕ
digest_but_files s = pipes_mixed (opens_mixed (processes_digest s) s.opens) s.pipes

unfoldable pub digest_of : State → ℕ
digest_of s = files_mixed (digest_but_files s) s.files

-- ---- without the numbers of open files and pipes

-- an open file goes in as what it is open on, a pipe as its bytes
abbrev pub on_mixed : List (Option (List ℕ)) → ℕ → Target → ℕ
on_mixed pipes digest (OnNode number offset) = mixed digest (target_numbers (OnNode number offset))
on_mixed pipes digest (OnPipe pipe ReadEnd) = pipe_mixed (mix digest 2) (slot pipes pipe)
on_mixed pipes digest (OnPipe pipe WriteEnd) = pipe_mixed (mix digest 3) (slot pipes pipe)

abbrev pub file_mixed : List (Option (List ℕ)) → ℕ → Option OpenFile → ℕ
file_mixed pipes digest None = mix digest 0
file_mixed pipes digest (Some f) = mixed (on_mixed pipes digest f.target) (flag f.readable ∷ flag f.writable ∷ [])

-- a descriptor goes in as the open file that it names
abbrev pub named_mixed : State → ℕ → Option ℕ → ℕ
named_mixed s digest None = mix digest 0
named_mixed s digest (Some id) = file_mixed s.pipes digest (slot s.opens id)

abbrev pub names_mixed : State → ℕ → List (Option ℕ) → ℕ
names_mixed s digest descriptors = fold (named_mixed s) digest descriptors

abbrev pub holder_mixed : State → ℕ → Option Process → ℕ
holder_mixed s digest None = digest
holder_mixed s digest (Some p) = names_mixed s digest p.descriptors

unfoldable pub holders_mixed : State → ℕ → ℕ
holders_mixed s digest = each (λ d i. holder_mixed s d (process_at s i)) place_limit digest

-- a process that names no open file
abbrev pub bare : Process → Process
bare p = record p { descriptors = replicate 16 None }

-- the state without open files and pipes
unfoldable pub bare_state : State → State
bare_state s = record s { places = map (option_map bare) s.places; opens = []; pipes = [] }

-- Everything except the files: of open files and pipes, what the processes' descriptors name, one by one. Which
-- descriptors share an open file, and which open files a pipe, doesn't go in.
unfoldable pub numberless_but_files : State → ℕ
numberless_but_files s = holders_mixed s (processes_digest (bare_state s))

unfoldable pub digest_but_numbers : State → ℕ
digest_but_numbers s = files_mixed (numberless_but_files s) s.files

-- the law: states that differ in the numbers of open files and pipes alone have the same
abbrev pub NumbersStayOut : Type 0
NumbersStayOut = (s t : State) → IsRenumbered s t → digest_but_numbers s ≡ digest_but_numbers t

-- ---- which of the two

-- the state with its clock set back to 0 and without numbers, where it says what the clock shows
abbrev pub by_clock : Option ℕ → State → State
by_clock None s = s
by_clock (Some ticks) s = bare_state (state_set_back ticks s)

abbrev pub mode_by : Option ℕ → Mode → Mode
mode_by None mode = mode
mode_by (Some ticks) mode = mode_set_back ticks mode

-- what the clock shows then
abbrev pub clock_by : Option ℕ → ℕ → ℕ
clock_by None ticks = ticks
clock_by (Some now) ticks = 0
