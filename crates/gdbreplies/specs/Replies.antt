-- The bodies of what is sent to gdb.
use Rattle.std.specs.Prelude.{◌∷◌, ◌++◌, ◌+◌, ◌-◌, ℕ, List, [], None, Option, Some, codes, drop, flat_map}
use Rattle.std.specs.Prelude.{if◌then◌else◌, length, min, nat_le, take}
use Rattle.std.specs.Int.{to_be_bytes, to_le_bytes, w64}
use Rattle.gdbwire.specs.Hex.{hex_byte, hex_bytes, hex_number}
use Rattle.gdbwire.specs.declared.packets.Part.{Part}
use Rattle.gdbreplies.specs.declared.stops.Signal.{Signal}
use Rattle.gdbreplies.specs.declared.stops.Signal.TheVariants.{Bus, Illegal, Segmentation, Trap}
use Rattle.gdbreplies.specs.declared.stops.Stop.{Stop}
use Rattle.gdbreplies.specs.declared.stops.Stop.TheVariants.{Accessed, Begins, Broke, Ends, Faults, Forked, Interrupted}
use Rattle.gdbreplies.specs.declared.stops.Stop.TheVariants.{Read, Stepped, Wrote}

-- ---- threads

-- the thread of a process: each has one, of the same number
abbrev pub thread_name : ℕ → List ℕ
thread_name pid = codes "p" ++ (hex_number pid ++ (codes "." ++ hex_number pid))

abbrev pub more_sent : List ℕ → List ℕ
more_sent pids = flat_map (λ pid. codes "," ++ thread_name pid) pids

abbrev pub threads_sent : List ℕ → List ℕ
threads_sent [] = codes "l"
threads_sent (pid ∷ pids) = codes "m" ++ (thread_name pid ++ more_sent pids)

abbrev pub current_sent : ℕ → List ℕ
current_sent pid = codes "QC" ++ thread_name pid

abbrev pub pid_sent : Option ℕ → List ℕ
pid_sent None = []
pid_sent (Some pid) = codes "pid:" ++ (hex_number pid ++ codes ";")

-- the architecture, and the process where one is meant
abbrev pub process_sent : Option ℕ → List ℕ
process_sent pid = pid_sent pid
    ++ (codes "triple:" ++ (hex_bytes (codes "riscv64-unknown-elf") ++ codes ";ptrsize:8;endian:little;"))

-- ---- stops

-- signals have the numbers that gdb gives them
abbrev pub number_of_signal : Signal → ℕ
number_of_signal Illegal = 4
number_of_signal Trap = 5
number_of_signal Bus = 7
number_of_signal Segmentation = 11

abbrev pub signal_of : Stop → ℕ
signal_of (Faults signal) = number_of_signal signal
signal_of Interrupted = 2
signal_of _ = 5

abbrev pub place_sent : List ℕ → ℕ → List ℕ
place_sent word address = word ++ (hex_number address ++ codes ";")

-- what is special about a stop
abbrev pub why_sent : Stop → List ℕ
why_sent Stepped = []
why_sent Broke = codes "swbreak:;"
why_sent (Wrote address) = place_sent (codes "watch:") address
why_sent (Read address) = place_sent (codes "rwatch:") address
why_sent (Accessed address) = place_sent (codes "awatch:") address
why_sent (Forked pid) = codes "fork:" ++ (thread_name pid ++ codes ";")
why_sent Begins = codes "replaylog:begin;"
why_sent Ends = codes "replaylog:end;"
why_sent (Faults signal) = []
why_sent Interrupted = []

-- the thread that stopped
abbrev pub tail_sent : ℕ → List ℕ
tail_sent pid = codes "thread:" ++ (thread_name pid ++ codes ";")

abbrev pub stop_sent : ℕ → Stop → List ℕ
stop_sent pid stop = codes "T" ++ (hex_byte (signal_of stop) ++ (why_sent stop ++ tail_sent pid))

-- a process runs another program from now on
abbrev pub exec_sent : ℕ → List ℕ → List ℕ
exec_sent pid path = codes "T05exec:" ++ (hex_bytes path ++ (codes ";" ++ tail_sent pid))

-- a process has ended
abbrev pub end_sent : ℕ → ℕ → List ℕ
end_sent pid status = codes "W" ++ (hex_byte status ++ (codes ";process:" ++ hex_number pid))

abbrev pub error_sent : ℕ → List ℕ
error_sent number = codes "E" ++ hex_byte number

abbrev pub console_sent : List ℕ → List ℕ
console_sent bytes = codes "O" ++ hex_bytes bytes

-- ---- registers

abbrev pub register_sent : ℕ → List ℕ
register_sent value = hex_bytes (to_le_bytes w64 value)

-- x0 to x31, and the pc
abbrev pub registers_sent : List ℕ → ℕ → List ℕ
registers_sent registers pc = flat_map register_sent registers ++ register_sent pc

-- ---- parts

-- of a document, what is asked for: no more than 4096 bytes at once
unfoldable pub part_of : List ℕ → Part → List ℕ
part_of document part = take (min part.count 4096) (drop part.from document)

-- m where more follows, and l before the last
abbrev pub part_sent : List ℕ → Part → List ℕ
part_sent document part =
    (if nat_le (length document - part.from) (length (part_of document part)) then codes "l" else codes "m")
    ++ part_of document part

abbrev pub file_part_sent : List ℕ → List ℕ
file_part_sent bytes = codes "F" ++ (hex_number (length bytes) ++ (codes ";" ++ bytes))

abbrev pub opened_sent : ℕ → List ℕ
opened_sent number = codes "F" ++ hex_number number

-- ENOENT is 2
abbrev pub no_file_sent : List ℕ
no_file_sent = codes "F-1,2"

-- Mode 0100755 and one link, the size, and blocks of 1024 bytes: four bytes each for device, number, mode, links, user,
-- group and special device, eight each for size, block size and blocks, and four each for three times, the highest byte
-- first.
abbrev pub status_sent : ℕ → List ℕ
status_sent size = codes "F40;"
    ++ ((0 ∷ 0 ∷ 0 ∷ 0 ∷ 0 ∷ 0 ∷ 0 ∷ 0 ∷ 0 ∷ 0 ∷ 129 ∷ 237 ∷ 0 ∷ 0 ∷ 0 ∷ 1 ∷ 0 ∷ 0 ∷ 0 ∷ 0 ∷ 0 ∷ 0 ∷ 0 ∷ 0 ∷ 0 ∷ 0 ∷ 0
    ∷ 0 ∷ [])
    ++ (to_be_bytes w64 size
    ++ (0 ∷ 0 ∷ 0 ∷ 0 ∷ 0 ∷ 0 ∷ 4 ∷ 0 ∷ 0 ∷ 0 ∷ 0 ∷ 0 ∷ 0 ∷ 0 ∷ 0 ∷ 0 ∷ 0 ∷ 0 ∷ 0 ∷ 0 ∷ 0 ∷ 0 ∷ 0 ∷ 0 ∷ 0 ∷ 0 ∷ 0
    ∷ 0 ∷ [])))

-- ---- the description of the registers

-- name, what it holds, number, offset among the bytes of all, and what lldb uses it for
abbrev pub Row : Type 0
Row = List ℕ × List ℕ × List ℕ × List ℕ × List ℕ

abbrev pub rows : List Row
rows =
    (codes "zero", codes "int", codes "0", codes "0", [])
    ∷ (codes "ra", codes "code_ptr", codes "1", codes "8", codes "ra")
    ∷ (codes "sp", codes "data_ptr", codes "2", codes "16", codes "sp")
    ∷ (codes "gp", codes "data_ptr", codes "3", codes "24", [])
    ∷ (codes "tp", codes "data_ptr", codes "4", codes "32", [])
    ∷ (codes "t0", codes "int", codes "5", codes "40", [])
    ∷ (codes "t1", codes "int", codes "6", codes "48", [])
    ∷ (codes "t2", codes "int", codes "7", codes "56", [])
    ∷ (codes "fp", codes "data_ptr", codes "8", codes "64", codes "fp")
    ∷ (codes "s1", codes "int", codes "9", codes "72", [])
    ∷ (codes "a0", codes "int", codes "10", codes "80", codes "arg1")
    ∷ (codes "a1", codes "int", codes "11", codes "88", codes "arg2")
    ∷ (codes "a2", codes "int", codes "12", codes "96", codes "arg3")
    ∷ (codes "a3", codes "int", codes "13", codes "104", codes "arg4")
    ∷ (codes "a4", codes "int", codes "14", codes "112", codes "arg5")
    ∷ (codes "a5", codes "int", codes "15", codes "120", codes "arg6")
    ∷ (codes "a6", codes "int", codes "16", codes "128", codes "arg7")
    ∷ (codes "a7", codes "int", codes "17", codes "136", codes "arg8")
    ∷ (codes "s2", codes "int", codes "18", codes "144", [])
    ∷ (codes "s3", codes "int", codes "19", codes "152", [])
    ∷ (codes "s4", codes "int", codes "20", codes "160", [])
    ∷ (codes "s5", codes "int", codes "21", codes "168", [])
    ∷ (codes "s6", codes "int", codes "22", codes "176", [])
    ∷ (codes "s7", codes "int", codes "23", codes "184", [])
    ∷ (codes "s8", codes "int", codes "24", codes "192", [])
    ∷ (codes "s9", codes "int", codes "25", codes "200", [])
    ∷ (codes "s10", codes "int", codes "26", codes "208", [])
    ∷ (codes "s11", codes "int", codes "27", codes "216", [])
    ∷ (codes "t3", codes "int", codes "28", codes "224", [])
    ∷ (codes "t4", codes "int", codes "29", codes "232", [])
    ∷ (codes "t5", codes "int", codes "30", codes "240", [])
    ∷ (codes "t6", codes "int", codes "31", codes "248", [])
    ∷ (codes "pc", codes "code_ptr", codes "32", codes "256", codes "pc")
    ∷ []

unfoldable pub attribute_sent : List ℕ → List ℕ → List ℕ
attribute_sent name text = codes " " ++ (name ++ (codes "=\"" ++ (text ++ codes "\"")))

abbrev pub use_sent : List ℕ → List ℕ
use_sent [] = []
use_sent (b ∷ bs) = attribute_sent (codes "generic") (b ∷ bs)

unfoldable pub row_head : List ℕ
row_head = codes "<reg bitsize=\"64\" encoding=\"uint\" format=\"hex\" group=\"general\" group_id=\"1\""

unfoldable pub numbers_sent : List ℕ → List ℕ → List ℕ
numbers_sent number place = attribute_sent (codes "regnum") number ++ (attribute_sent (codes "dwarf_regnum") number
    ++ (attribute_sent (codes "ehframe_regnum") number ++ attribute_sent (codes "offset") place))

unfoldable pub row_sent : List ℕ → List ℕ → List ℕ → List ℕ → List ℕ → List ℕ
row_sent name holds number place generic = row_head ++ (attribute_sent (codes "name") name
    ++ (attribute_sent (codes "type") holds ++ (numbers_sent number place ++ (use_sent generic ++ codes "/>"))))

unfoldable pub architecture : List ℕ
architecture = codes "<target version=\"1.0\"><architecture>riscv:rv64</architecture><osabi>none</osabi>"

abbrev pub description : List ℕ
description = architecture ++ (codes "<feature name=\"org.gnu.gdb.riscv.cpu\">"
    ++ (flat_map (λ (r : Row). row_sent r.0 r.1 r.2 r.3 r.4) rows ++ codes "</feature></target>"))
