-- What is done to spaces beside free frames, where a memory and who holds its frames are one value.
use Rattle.std.specs.Prelude.{◌≡◌, ◌<◌, ◌≤◌, ℕ, ◌+◌, ◌-◌, [], ◌++◌, replicate, take, true}
use Rattle.frames.specs.declared.memory.Memory.{Memory}
use Rattle.frames.specs.Holders.{count_of}
use Rattle.frames.specs.Owned.{Trades, free_count, further_at}
use Rattle.pagetable.specs.Tree.{IsLeafMarks}
use Rattle.ram.specs.Memory.{frame_of}
use Rattle.unixmodel.specs.Memory.{shared_memory}
use Rattle.vm.specs.declared.Perm.{Perm}
use Rattle.vm.specs.declared.Space.{Space}
use Rattle.vm.specs.Dense as dense
use Rattle.vm.specs.Dense.{IsOpenFrom, SameLeavesUpTo, blank_page, frames_for, marks_at, page_at, page_with}
use Rattle.vm.specs.Fork as fork
use Rattle.vm.specs.Leaf.{IsUserLeaf, is_open, right_marks, user_leaf}
use Rattle.vm.specs.Space as space
use Rattle.vm.specs.Space.{HasFramesOf, SameOtherMarks, SameOtherPages, StaysOpen, entries_of, first_pages, held_by}
use Rattle.vm.specs.Space.{holds, mapping_of, new_pages, page_frame, page_rights, pages_in, pages_of, registers_of}

-- a space of n pages beside the free frames and other holders
abbrev pub OwnsFrames : Memory → ℕ → ℕ → ℕ → Type 0
OwnsFrames m r t n = dense.OwnsFrames m.ram r t n m.frames

-- the first n pages of a space are intact beside the free frames
abbrev pub HasPages : Memory → Space → ℕ → Type 0
HasPages m x n = OwnsFrames m x.root.0 x.trap.0 n

-- and so is the space
abbrev pub IsSpace : Memory → Space → Type 0
IsSpace m x = space.IsSpace m.ram x m.frames

-- a space of `size` bytes may have `more` beside, but fewer frames are free than it needs for them
abbrev pub LacksFrames : Memory → ℕ → ℕ → Type 0
LacksFrames m size more = space.LacksFrames m.ram m.frames size more

-- the frame of each page of a space got one more holder
abbrev pub GainsHolders : Memory → Memory → Space → Type 0
GainsHolders m k x = space.GainsHolders m.ram k.ram x m.frames k.frames

-- a space holds what it held, and shares with a new one what that holds
abbrev pub SharesWith : Memory → Memory → Space → Space → Type 0
SharesWith m k x c = space.SharesWith m.ram k.ram x c m.frames k.frames

-- a space that may have other frames than it had: its registers are as they were
abbrev pub Reframes : Memory → Memory → Space → Type 0
Reframes m k x = space.Reframes m.ram k.ram x m.frames k.frames

-- and whose program sees what it saw
abbrev pub IsRearranged : Memory → Memory → Space → Type 0
IsRearranged m k x = space.IsRearranged m.ram k.ram x m.frames k.frames

-- a space and a new one, which shares its first n pages
abbrev pub IsPart : Memory → Space → Space → ℕ → Type 0
IsPart m x c n = fork.IsPart m.ram x c n m.frames

-- one more page
abbrev pub IsMore : Memory → Memory → Space → Space → ℕ → Type 0
IsMore m k x c n = fork.IsMore m.ram k.ram x c n m.frames k.frames

-- the first n pages are shared
abbrev pub IsSoFar : Memory → Memory → Space → Space → ℕ → Type 0
IsSoFar m k x c n = fork.IsSoFar m.ram k.ram x c n m.frames k.frames

-- ---- spaces that come and grow

-- a space of no pages was made
pub record Creates (m k : Memory) (x : Space) : Type 0 where
  pub space : IsSpace k x
  pub size : x.size ≡ 0
  pub registers : registers_of k.ram x ≡ replicate 4096 0
  pub trades : Trades m k [] (holds k.ram x)

-- new pages may have a leaf with these marks: a store goes through at them where they are writable by right
pub record IsNewLeaf (leaf : ℕ) : Type 0 where
  pub marks : IsLeafMarks leaf
  pub user : IsUserLeaf leaf
  pub wide : is_open leaf ≡ (right_marks leaf).writable

-- pages of zeros with the marks of this leaf were added after the first `from` of a space, up to `to`
pub record AddsPages (m k : Memory) (x : Space) (from to leaf : ℕ) : Type 0 where
  pub held : HasPages k x to
  pub pages : first_pages k.ram x to ≡ first_pages m.ram x from ++ replicate (to - from) (blank_page leaf)
  pub mapping : SameLeavesUpTo m.ram k.ram x.root.0 from
  pub opens : (first : ℕ) → IsOpenFrom m.ram x.root.0 from first → IsOpenFrom k.ram x.root.0 to first
  pub registers : registers_of k.ram x ≡ registers_of m.ram x
  pub trades : Trades m k (held_by m.ram x from) (held_by k.ram x to)
  pub room : frames_for to + free_count k ≡ frames_for from + free_count m

-- of the first `from` pages of a space those from `to` on went
pub record DropsPages (m k : Memory) (x : Space) (from to : ℕ) : Type 0 where
  pub held : HasPages k x to
  pub pages : (n : ℕ) → n ≤ to → first_pages k.ram x n ≡ first_pages m.ram x n
  pub mapping : SameLeavesUpTo m.ram k.ram x.root.0 to
  pub registers : registers_of k.ram x ≡ registers_of m.ram x
  pub trades : Trades m k (held_by m.ram x from) (held_by k.ram x to)

-- a space that has another size now
pub record Resizes (m k : Memory) (old new : Space) : Type 0 where
  pub space : IsSpace k new
  pub root : new.root ≡ old.root
  pub registers : registers_of k.ram new ≡ registers_of m.ram old
  pub opens : StaysOpen m.ram k.ram old new
  pub trades : Trades m k (holds m.ram old) (holds k.ram new)

-- a space got `bytes` bytes, and pages of zeros for them
pub record Grows (m k : Memory) (old new : Space) (bytes : ℕ) (perm : Perm) : Type 0 where
  pub resizes : Resizes m k old new
  pub size : new.size ≡ old.size + bytes
  pub pages : pages_of k.ram new ≡ pages_of m.ram old ++ new_pages old.size bytes perm
  pub mapping : take (pages_in old.size) (mapping_of k.ram new) ≡ mapping_of m.ram old
  pub entries : take (pages_in old.size) (entries_of k.ram new) ≡ entries_of m.ram old

-- a space lost its last `bytes` bytes, and the pages that no byte needs then
pub record Shrinks (m k : Memory) (old new : Space) (bytes : ℕ) : Type 0 where
  pub resizes : Resizes m k old new
  pub size : new.size + bytes ≡ old.size
  pub pages : pages_of k.ram new ≡ take (pages_in (old.size - bytes)) (pages_of m.ram old)
  pub mapping : mapping_of k.ram new ≡ take (pages_in (old.size - bytes)) (mapping_of m.ram old)
  pub entries : entries_of k.ram new ≡ take (pages_in (old.size - bytes)) (entries_of m.ram old)

-- A space has a copy, which has its pages in its frames. The pages of both are marked as those of a fork.
pub record Copies (m k : Memory) (x c : Space) : Type 0 where
  pub source : IsSpace k x
  pub marked : pages_of k.ram x ≡ shared_memory (pages_of m.ram x)
  pub kept : registers_of k.ram x ≡ registers_of m.ram x
  pub frames : HasFramesOf m.ram k.ram x x
  pub space : IsSpace k c
  pub size : c.size ≡ x.size
  pub pages : pages_of k.ram c ≡ shared_memory (pages_of m.ram x)
  pub registers : registers_of k.ram c ≡ replicate 4096 0
  pub shared : HasFramesOf m.ram k.ram x c
  pub holders : GainsHolders m k x
  pub trades : SharesWith m k x c

-- ---- a page that is written

-- a page of a space has this frame, and a leaf with these marks may map it
pub record MayHave (m : Memory) (x : Space) (p f leaf : ℕ) : Type 0 where
  pub page : p < pages_in x.size
  pub frame : page_frame m.ram x p ≡ f
  pub marks : IsLeafMarks leaf
  pub user : IsUserLeaf leaf

-- a page of a space has this frame and these marks now, and the others have theirs
pub record HasLeaf (m k : Memory) (x : Space) (page f leaf : ℕ) : Type 0 where
  pub frame : page_frame k.ram x page ≡ f
  pub marks : marks_at k.ram x.root.0 page ≡ leaf
  pub others : SameOtherMarks m.ram k.ram x page

-- the marks of a page were set; every frame has its holders
pub record SetsLeaf (m k : Memory) (x : Space) (p f leaf : ℕ) : Type 0 where
  pub has : HasLeaf m k x p f leaf
  pub holders : k.frames ≡ m.frames
  pub stands : Reframes m k x
  pub page : page_at k.ram x.root.0 p ≡ page_with (frame_of m.ram f) leaf
  pub pages : SameOtherPages m.ram k.ram x p
  pub frames : HasFramesOf m.ram k.ram x x
  pub held : (v : ℕ) → count_of v (holds k.ram x) ≡ count_of v (holds m.ram x)

-- a page of a space has a frame that no other has, and is open where its program may write it by right
pub record OpensPage (m k : Memory) (x : Space) (page f : ℕ) : Type 0 where
  pub same : IsRearranged m k x
  pub sole : further_at k f ≡ 0
  pub frame : page_frame k.ram x page ≡ f
  pub marks : marks_at k.ram x.root.0 page ≡ user_leaf (page_rights m.ram x page) true
  pub opens : StaysOpen m.ram k.ram x x
