-- How a program lies in the memory of a slot.
use Rattle.std.specs.Prelude.{List, None, Option, Some, length, true, ℕ, ◌%◌, ◌*◌, ◌+◌, ◌++◌, ◌<◌, ◌^◌, ◌≡◌, ◌≤◌}
use Rattle.elf.specs.declared.LoadSegment.{LoadSegment}
use Rattle.elf.specs.Headers.{is_within, segment_shown}
use Rattle.programs.specs.Passed.{stacked}
use Rattle.spaces.specs.Spaces.{SpaceView, Spaces, taken_frames, view_at, with_place, with_view}
use Rattle.tree.specs.Tree.{FileTree}
use Rattle.unixmodel.specs.Counts.{page_frames}
use Rattle.unixmodel.specs.Memory.{Memory}
use Rattle.unixmodel.specs.Plan.{Loaded, Segment, load_segment, segment_at, segment_pages}

-- pages, all of them whole
abbrev pub paged : Memory → SpaceView
paged memory = record { memory = memory; size = 4096 * length memory }

abbrev pub IsPaged : SpaceView → Type 0
IsPaged h = h.size ≡ 4096 * length h.memory

-- the slot gets these pages, or these after those that it has
abbrev pub with_paged : Spaces → ℕ → Memory → Spaces
with_paged s at memory = with_view s at (paged memory)

abbrev pub with_more : Spaces → ℕ → Memory → Spaces
with_more s at pages = with_paged s at ((view_at s at).memory ++ pages)

-- a slot may have that many pages
abbrev pub HasRoom : Spaces → ℕ → ℕ → Type 0
HasRoom s at n = taken_frames (with_place s at None) + 4 + page_frames n ≤ s.frames

-- the files are as they were
abbrev pub Leaves : {T : Type 0} → FileTree → FileTree → T → Type 0
Leaves old new told = new ≡ record old { failures = new.failures }

-- ---- segments

-- a segment of a file of `len` bytes may follow `count` pages
pub record Follows (len count : ℕ) (g : LoadSegment) : Type 0 where
  pub less : g.file_size ≤ g.size
  pub ends : g.address + g.size < 2 ^ 64
  pub aligned : g.address % 4096 ≡ 0
  pub after : 4096 * count ≤ g.address
  pub within : is_within g.offset g.file_size len ≡ true

-- what is loaded next, by the program header at an offset of a file
abbrev pub next_in : List ℕ → ℕ → SpaceView → ℕ → Option Loaded
next_in file place h end = load_segment file (record { pages = h.memory; end = end }) (segment_at file place)

-- a segment of a file is loaded after the pages of a slot, whatever segment of the format it is
abbrev pub LoadsSegment : List ℕ → Spaces → Spaces → ℕ → LoadSegment → Type 0
LoadsSegment file old new at segment = (g : Segment) → segment ≡ segment_shown g
    → new ≡ with_more old at (segment_pages file (length (view_at old at).memory) g)

-- there is something to load, and the slot may have its pages
abbrev pub MayLoad : Spaces → ℕ → Option Loaded → Type 0
MayLoad s at o = (next : Loaded) × (o ≡ Some next) × (length next.pages < 2 ^ 32) × HasRoom s at (length next.pages)

-- the slot has the pages that are loaded, and the result is where they end
abbrev pub LoadsTo : Spaces → Spaces → ℕ → Option Loaded → ℕ → Type 0
LoadsTo old new at o told = (next : Loaded) → o ≡ Some next → (told ≡ next.end) × (new ≡ with_paged old at next.pages)

-- the slot has the pages that are loaded; or those, and a stack with this page after them
abbrev pub Loads : Spaces → Spaces → ℕ → Option Loaded → Type 0
Loads old new at o = (last : Loaded) → o ≡ Some last → new ≡ with_paged old at last.pages

abbrev pub LoadsWithStack : Spaces → Spaces → ℕ → Option Loaded → List ℕ → Type 0
LoadsWithStack old new at o page = (last : Loaded) → o ≡ Some last → new ≡ with_paged old at (stacked last.pages page)
