-- The entries of page tables that a walk reads, whatever the access.
use Rattle.std.specs.Prelude.{List, None, Option, Some, [], if◌then◌else◌, length, nat_lt, ℕ, ◌%◌, ◌&&◌, ◌/◌, ◌∷◌}
use Rattle.std.specs.Prelude.{get_or}
use Rattle.sv39.specs.Entry.{turn_of}
use Rattle.sv39.specs.Walk.{entry_of, frame_at, is_canonical}
use Rattle.sv39.specs.declared.Turn.{Turn}
use Rattle.sv39.specs.declared.Turn.TheVariants.{Down, Leaf, Stop}
use Rattle.unixmodel.specs.declared.trap.Access.TheVariants.{Load}
use Rattle.walks.specs.declared.WalkTold.{WalkTold}

-- the frame to which a turn leads on, in a memory of n frames
abbrev pub led_to : ℕ → Turn → Option ℕ
led_to n Stop = None
led_to n (Down number) = frame_at n number
led_to n (Leaf number) = None

-- the table that an entry names; for which access the walk is makes no difference
abbrev pub table_at : ℕ → ℕ → Option ℕ
table_at n entry = led_to n (turn_of entry 1 Load)

-- the table of the root, in which a page's walk begins
abbrev pub root_table : ℕ → ℕ → ℕ → Option ℕ
root_table n root page = if is_canonical page && nat_lt root n then Some root else None

-- what is read of a table, where there is one
abbrev pub read_in : (ℕ → List ℕ) → Option ℕ → List ℕ
read_in read None = []
read_in read (Some table) = read table

abbrev pub read_low : List (List ℕ) → ℕ → ℕ → List ℕ
read_low m page table = entry_of m table (page / 1 % 512) ∷ []

-- an entry, and what is read of the table that it names
abbrev pub read_on : List (List ℕ) → (ℕ → List ℕ) → ℕ → List ℕ
read_on m read entry = entry ∷ read_in read (table_at (length m) entry)

abbrev pub read_middle : List (List ℕ) → ℕ → ℕ → List ℕ
read_middle m page table = read_on m (read_low m page) (entry_of m table (page / 512 % 512))

abbrev pub read_high : List (List ℕ) → ℕ → ℕ → List ℕ
read_high m page table = read_on m (read_middle m page) (entry_of m table (page / 262144 % 512))

-- the entries that the walk of a page reads, from the table of a root on
unfoldable pub entries_read : List (List ℕ) → ℕ → ℕ → List ℕ
entries_read m root page = read_in (read_high m page) (root_table (length m) root page)

-- the same as three numbers and how many they are
abbrev pub walk_told : List ℕ → WalkTold
walk_told read = record {
  entries = get_or read 0 0 ∷ get_or read 1 0 ∷ get_or read 2 0 ∷ [];
  count = length read;
}
