-- Address spaces, read off a memory.
use Rattle.std.specs.Prelude.{◌≡◌, ◌≢◌, ◌==◌, ◌<◌, ◌≤◌, ℕ, zero, suc, ◌+◌, ◌-◌, ◌/◌, ◌%◌, ◌^◌, if◌then◌else◌, nat_lt}
use Rattle.std.specs.Prelude.{IfSome, List, [], ◌∷◌, ◌++◌, Option, Some, None, replicate, true, unwrap_or}
use Rattle.ram.specs.Memory.{frame_of}
use Rattle.ram.specs.declared.FrameNo.{FrameNo}
use Rattle.frames.specs.declared.Frames.{Frames}
use Rattle.frames.specs.Free.{further_at, IsFreeList}
use Rattle.frames.specs.Holders.{one_if, count_of, holders_of}
use Rattle.pagetable.specs.Tree.{mid_node, low_node, lookup_of, table_at, IsTree}
use Rattle.pagetable.specs.Shape.{table_of, IsTidy}
use Rattle.sv39.specs.Mapping.{Mapped, memory_of}
use Rattle.unixmodel.specs.Memory.{Perm, Page, Memory}
use Rattle.vm.specs.Leaf.{IsUserLeaf, entry_marks, is_open, right_marks}

-- the page of the trap frame
abbrev pub trap_page : ℕ
trap_page = 67108862

-- the marks of the trap frame: readable and writable for the kernel
abbrev pub trap_marks : ℕ
trap_marks = 455

-- the frame that a page is mapped to
abbrev pub frame_at : List (List ℕ) → ℕ → ℕ → ℕ
frame_at m r p = (unwrap_or (lookup_of m r p) (0, 0)).0

-- the marks that a page is mapped with
abbrev pub marks_at : List (List ℕ) → ℕ → ℕ → ℕ
marks_at m r p = (unwrap_or (lookup_of m r p) (0, 0)).1

-- the frame of a leaf, and marks as they are read off it
abbrev pub read_by : (ℕ → Perm) → ℕ × ℕ → Mapped
read_by read leaf = record { frame = leaf.0; marks = read leaf.1 }

abbrev pub read_at : (ℕ → Perm) → List (List ℕ) → ℕ → ℕ → Mapped
read_at read m r p = read_by read (frame_at m r p, marks_at m r p)

-- a page with these bytes and the marks of this leaf
abbrev pub page_with : List ℕ → ℕ → Page
page_with bytes leaf = record { bytes = bytes; marks = right_marks leaf }

-- a page of zeros with the marks of this leaf
abbrev pub blank_page : ℕ → Page
blank_page leaf = page_with (replicate 4096 0) leaf

-- the bytes of a page, and what a program may do there by right
abbrev pub page_at : List (List ℕ) → ℕ → ℕ → Page
page_at m r p = page_with (frame_of m (frame_at m r p)) (marks_at m r p)

-- the frames of the pages below n, and their marks as they are read off the leaves
unfoldable pub read_below : (ℕ → Perm) → List (List ℕ) → ℕ → ℕ → List Mapped
read_below read m r zero = []
read_below read m r (suc n) = read_below read m r n ++ (read_at read m r n ∷ [])

-- the pages below n have the frames and the marks that they had, however marks are read
abbrev pub SameLeaves : List (List ℕ) → List (List ℕ) → ℕ → ℕ → Type 0
SameLeaves m k r n = (read : ℕ → Perm) → read_below read k r n ≡ read_below read m r n

-- and so have those below each number up to n
abbrev pub SameLeavesUpTo : List (List ℕ) → List (List ℕ) → ℕ → ℕ → Type 0
SameLeavesUpTo m k r n = (read : ℕ → Perm) (b : ℕ) → b ≤ n → read_below read k r b ≡ read_below read m r b

-- the mapping of the pages below n, by right
abbrev pub mapping_below : List (List ℕ) → ℕ → ℕ → List Mapped
mapping_below m r n = read_below right_marks m r n

-- what the walk gives of them
abbrev pub entries_below : List (List ℕ) → ℕ → ℕ → List Mapped
entries_below m r n = read_below entry_marks m r n

-- at each page from one on, of those below n, a store goes through where a program may write by right
abbrev pub IsOpenFrom : List (List ℕ) → ℕ → ℕ → ℕ → Type 0
IsOpenFrom m r n first = (p : ℕ) → first ≤ p → p < n
    → is_open (marks_at m r p) ≡ (right_marks (marks_at m r p)).writable

-- the pages below n
abbrev pub pages_below : List (List ℕ) → ℕ → ℕ → Memory
pages_below m r n = memory_of m (mapping_below m r n)

-- the frames of the pages below n
unfoldable pub frames_below : List (List ℕ) → ℕ → ℕ → List ℕ
frames_below m r zero = []
frames_below m r (suc n) = frame_at m r n ∷ frames_below m r n

-- the tables that page p is the first to need, where all pages below it are mapped
abbrev pub tables_for : List (List ℕ) → ℕ → ℕ → List ℕ
tables_for m r p = (if p == 0 then table_of m r (mid_node p) ∷ [] else [])
    ++ (if p % 512 == 0 then table_of m r (low_node p) ∷ [] else [])

-- the tables of a space of n pages
unfoldable pub tables_below : List (List ℕ) → ℕ → ℕ → List ℕ
tables_below m r zero = r ∷ table_of m r (mid_node trap_page) ∷ table_of m r (low_node trap_page) ∷ []
tables_below m r (suc n) = tables_for m r n ++ tables_below m r n

-- the frames that a space of n pages holds
abbrev pub held : List (List ℕ) → ℕ → ℕ → ℕ → List ℕ
held m r t n = tables_below m r n ++ (t ∷ frames_below m r n)

-- how many frames a space of n pages holds
abbrev pub frames_for : ℕ → ℕ
frames_for n = 4 + n + (n + 511) / 512 + one_if (nat_lt 0 n)

-- this is the table whose entries map a page, where it is known
abbrev pub IsTableFor : List (List ℕ) → ℕ → ℕ → Option FrameNo → Type 0
IsTableFor m r page known = IfSome known (λ low. table_at m r (low_node page) ≡ Some low.0)

-- the pages from `from` up to `to` are some of one table, and its first isn't among them
pub record IsRun (from to : ℕ) : Type 0 where
  pub some : from < to
  pub one : (to - 1) / 512 ≡ from / 512
  pub inner : from % 512 ≢ 0

-- the tables from r map the pages below n, the trap frame, and nothing else
pub record IsDense (m : List (List ℕ)) (r t n : ℕ) : Type 0 where
  pub tree : IsTree m r
  pub tidy : IsTidy m r
  pub small : n ≤ 32768
  pub pages : (p : ℕ) → p < n → lookup_of m r p ≡ Some (frame_at m r p, marks_at m r p)
  pub leaves : (p : ℕ) → p < n → IsUserLeaf (marks_at m r p)
  pub trap : lookup_of m r trap_page ≡ Some (t, trap_marks)
  pub rest : (p : ℕ) → n ≤ p → p < 2 ^ 27 → p ≢ trap_page → lookup_of m r p ≡ None

-- A space of n pages beside the free frames and other holders: it alone holds its tables, its trap frame and the frames
-- of open pages.
pub record OwnsFrames (m : List (List ℕ)) (r t n : ℕ) (s : Frames) : Type 0 where
  pub dense : IsDense m r t n
  pub once : (f : ℕ) → count_of f (held m r t n) ≤ 1
  pub free : IsFreeList m s
  pub own : (f : ℕ) → 0 < count_of f (tables_below m r n) + count_of f (t ∷ []) → further_at s f ≡ 0
  pub alone : (p : ℕ) → p < n → is_open (marks_at m r p) ≡ true → further_at s (frame_at m r p) ≡ 0
  pub held : (f : ℕ) → count_of f (held m r t n) ≤ holders_of m s f
