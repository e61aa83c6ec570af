-- Bytes of processes that are watched for changes.
use Rattle.std.specs.Prelude.{Bool, List, None, Option, Some, drop, false, if◌then◌else◌, nat_lt, not, option_and_then}
use Rattle.std.specs.Prelude.{true, ℕ, ◌%◌, ◌+◌, ◌/◌, ◌==◌, ◌||◌}
use Rattle.byteorder.specs.Endian.{little_number}
use Rattle.gdbstate.specs.declared.watches.Watched.{Watched}
use Rattle.gdbstate.specs.declared.watches.Width.{Width}
use Rattle.gdbstate.specs.declared.watches.Width.TheVariants.{Eight, Four, One}
use Rattle.unixmodel.specs.Memory.{Page}
use Rattle.unixmodel.specs.Shown.{shown_page}
use Rattle.unixmodel.specs.State.{State}

-- how many bytes are compared as one number
abbrev pub width_of : Width → ℕ
width_of One = 1
width_of Four = 4
width_of Eight = 8

-- the number at an offset of a page, the lowest byte first; none where it goes on past the page's end
abbrev pub number_in : List ℕ → ℕ → Width → Option ℕ
number_in page at width =
    if nat_lt 4096 (at + width_of width) then None else Some (little_number (width_of width) (drop at page))

abbrev pub number_on : ℕ → Width → Option Page → Option ℕ
number_on address width page = option_and_then (λ (p : Page). number_in p.bytes (address % 4096) width) page

-- the number at an address of a process, whatever the marks of its page are
unfoldable pub number_shown : State → ℕ → ℕ → Width → Option ℕ
number_shown s pid address width = number_on address width (shown_page s pid (address / 4096))

-- an option of a number equals another
abbrev pub same_number : Option ℕ → Option ℕ → Bool
same_number None None = true
same_number (Some a) (Some b) = a == b
same_number _ _ = false

-- watched bytes are others than they were
abbrev pub watch_changed : State → Watched → Bool
watch_changed s w = not (same_number (number_shown s w.pid w.address w.width) w.value)

abbrev pub is_same_pid : Option ℕ → ℕ → Bool
is_same_pid None pid = false
is_same_pid (Some running) pid = running == pid

-- watched bytes are of the process that runs, or others than they were
abbrev pub near_watch : State → Option ℕ → Watched → Bool
near_watch s running w = is_same_pid running w.pid || watch_changed s w
