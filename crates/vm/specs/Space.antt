-- What a space is.
use Rattle.std.specs.Prelude.{◌≡◌, ◌≢◌, ◌<◌, ◌≤◌, ℕ, ◌+◌, ◌-◌, ◌/◌, List, ◌++◌, length, replicate}
use Rattle.ram.specs.Memory.{frame_of}
use Rattle.frames.specs.declared.Frames.{Frames}
use Rattle.frames.specs.Free.{free_count}
use Rattle.vm.specs.declared.Space.{Space}
use Rattle.vm.specs.Dense.{mapping_below, entries_below, frame_at, frames_for, held, marks_at, page_at, pages_below}
use Rattle.vm.specs.Dense.{IsDense, IsOpenFrom, OwnsFrames}
use Rattle.vm.specs.Leaf.{marks_from, right_marks}
use Rattle.frames.specs.Holders.{count_of, holders_of, Trades}
use Rattle.sv39.specs.Mapping.{Mapped, memory_of}
use Rattle.unixmodel.specs.Memory.{Memory, Perm as Rights, write_bytes, zero_page}
use Rattle.vm.specs.declared.Perm.{Perm}

-- how many pages that many bytes need
abbrev pub pages_in : ℕ → ℕ
pages_in size = (size + 4095) / 4096

-- the most bytes that a space has
abbrev pub max_size : ℕ
max_size = 274877898752

-- the space is intact beside the free frames
abbrev pub IsSpace : List (List ℕ) → Space → Frames → Type 0
IsSpace m s free = OwnsFrames m s.root.0 s.trap.0 (pages_in s.size) free

-- the tables map the pages of the space, its trap frame, and nothing else
abbrev pub IsMapped : List (List ℕ) → Space → Type 0
IsMapped m s = IsDense m s.root.0 s.trap.0 (pages_in s.size)

-- the frame of each page of a space, and what a program may do there by right
abbrev pub mapping_of : List (List ℕ) → Space → List Mapped
mapping_of m s = mapping_below m s.root.0 (pages_in s.size)

-- what the walk gives of each page
abbrev pub entries_of : List (List ℕ) → Space → List Mapped
entries_of m s = entries_below m s.root.0 (pages_in s.size)

-- the memory of a program
abbrev pub pages_of : List (List ℕ) → Space → Memory
pages_of m s = memory_of m (mapping_of m s)

-- the bytes of the trap frame
abbrev pub registers_of : List (List ℕ) → Space → List ℕ
registers_of m s = frame_of m s.trap.0

-- the frames that a space of n pages holds
abbrev pub held_by : List (List ℕ) → Space → ℕ → List ℕ
held_by m s n = held m s.root.0 s.trap.0 n

-- the frames that a space holds
abbrev pub holds : List (List ℕ) → Space → List ℕ
holds m s = held_by m s (pages_in s.size)

-- the frame of a page of a space, and what a program may do there by right
abbrev pub page_frame : List (List ℕ) → Space → ℕ → ℕ
page_frame m s p = frame_at m s.root.0 p

abbrev pub page_rights : List (List ℕ) → Space → ℕ → Rights
page_rights m s p = right_marks (marks_at m s.root.0 p)

-- a leaf with the rights of this page
abbrev pub HasRights : List (List ℕ) → Space → ℕ → ℕ → Type 0
HasRights m s p leaf = right_marks leaf ≡ page_rights m s p

-- the first n pages of a space
abbrev pub first_pages : List (List ℕ) → Space → ℕ → Memory
first_pages m s n = pages_below m s.root.0 n

-- each page has in a space the frame that it had in another one
abbrev pub HasFramesOf : List (List ℕ) → List (List ℕ) → Space → Space → Type 0
HasFramesOf m k x c = (p : ℕ) → p < pages_in x.size → page_frame k c p ≡ page_frame m x p

-- the frame of each page of a space got one more holder
abbrev pub GainsHolders : List (List ℕ) → List (List ℕ) → Space → Frames → Frames → Type 0
GainsHolders m k x s w = (p : ℕ) → p < pages_in x.size
    → holders_of k w (page_frame m x p) ≡ holders_of m s (page_frame m x p) + 1

-- the other pages of a space have the marks that they had
abbrev pub SameOtherMarks : List (List ℕ) → List (List ℕ) → Space → ℕ → Type 0
SameOtherMarks m k x page = (p : ℕ) → p < pages_in x.size → p ≢ page → marks_at k x.root.0 p ≡ marks_at m x.root.0 p

-- and the other pages of a space the bytes and the rights that they had
abbrev pub SameOtherPages : List (List ℕ) → List (List ℕ) → Space → ℕ → Type 0
SameOtherPages m k x page = (p : ℕ) → p < pages_in x.size → p ≢ page → page_at k x.root.0 p ≡ page_at m x.root.0 p

-- the pages of zeros that are added where a space of `size` bytes gets `more`
abbrev pub new_pages : ℕ → ℕ → Perm → Memory
new_pages size more perm = replicate (pages_in (size + more) - pages_in size) (zero_page (marks_from perm))

-- a space of `size` bytes may have `more` beside, but fewer frames are free than it needs for them
abbrev pub LacksFrames : List (List ℕ) → Frames → ℕ → ℕ → Type 0
LacksFrames m s size more = (size + more ≤ max_size)
    × (frames_for (pages_in size) + free_count m s < frames_for (pages_in (size + more)))

-- the memory of a program once these bytes are stored at an address
abbrev pub stored : List (List ℕ) → Space → ℕ → List ℕ → Memory
stored m s address bytes = write_bytes (pages_of m s) address bytes

-- no frame occurs twice in what the space holds: no two pages have the same, and none of them is a table or the trap
-- frame
abbrev pub IsOnce : List (List ℕ) → Space → Type 0
IsOnce m s = (f : ℕ) → count_of f (holds m s) ≤ 1

-- A space's pages from one on stay open where they are, and those that are added after it are open: there a store goes
-- through where the program may write by right.
abbrev pub StaysOpen : List (List ℕ) → List (List ℕ) → Space → Space → Type 0
StaysOpen m k old new = (first : ℕ) → IsOpenFrom m old.root.0 (pages_in old.size) first
    → IsOpenFrom k new.root.0 (pages_in new.size) first

-- a space of which nothing was written except the bytes of its pages and its trap frame
pub record Stands (m k : List (List ℕ)) (s : Space) : Type 0 where
  pub count : length k ≡ length m
  pub mapped : IsMapped k s
  pub once : IsOnce k s
  pub mapping : mapping_of k s ≡ mapping_of m s
  pub entries : entries_of k s ≡ entries_of m s
  pub frames : holds k s ≡ holds m s
  pub space : (free : Frames) → IsSpace m s free → IsSpace k s free
  pub trades : (free : Frames) → IsSpace m s free → Trades m k free free (holds m s) (holds k s)

-- a space that another one's change leaves as it was
pub record IsUntouched (m k : List (List ℕ)) (s : Space) : Type 0 where
  pub mapping : mapping_of k s ≡ mapping_of m s
  pub entries : entries_of k s ≡ entries_of m s
  pub pages : pages_of k s ≡ pages_of m s
  pub registers : registers_of k s ≡ registers_of m s
  pub frames : holds k s ≡ holds m s

-- a space holds what it held, and shares with a new one what that holds
abbrev pub SharesWith : List (List ℕ) → List (List ℕ) → Space → Space → Frames → Frames → Type 0
SharesWith m k x c s w = Trades m k s w (holds m x) (holds k x ++ holds k c)

-- A space that may have other frames than it had, of which it traded what it holds: its registers are as they were.
pub record Reframes (m k : List (List ℕ)) (x : Space) (s q : Frames) : Type 0 where
  pub space : IsSpace k x q
  pub registers : registers_of k x ≡ registers_of m x
  pub trades : Trades m k s q (holds m x) (holds k x)

-- and whose program sees what it saw
pub record IsRearranged (m k : List (List ℕ)) (x : Space) (s q : Frames) : Type 0 where
  pub frames : Reframes m k x s q
  pub pages : pages_of k x ≡ pages_of m x
