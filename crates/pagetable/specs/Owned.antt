-- What is done to page tables beside free frames, where a memory and who holds its frames are one value.
use Rattle.std.specs.Prelude.{◌≡◌, ℕ, ◌∷◌, None, Some, replicate, slice_set}
use Rattle.std.specs.Option.{option_map}
use Rattle.frames.specs.declared.memory.Memory.{Memory}
use Rattle.frames.specs.Owned.{extra_of, free_of}
use Rattle.pagetable.specs.Shape as shape
use Rattle.pagetable.specs.Shape.{IsEmpty, IsTidy, Removes}
use Rattle.pagetable.specs.Tree as tree
use Rattle.pagetable.specs.Tree.{Maps, Node, SameMap, SameTables, SameTablesBut, lookup_of, table_at}

-- the memory has a page table at the root, beside the free frames: each table has one holder
abbrev pub IsPaged : Memory → ℕ → Type 0
IsPaged m r = tree.IsPaged m.ram r m.frames

-- what is neither a table of the tree nor free keeps its bytes, and is neither afterwards
abbrev pub Keeps : Memory → Memory → ℕ → Type 0
Keeps m k r = tree.Keeps m.ram k.ram r m.frames k.frames

-- as many frames as the page needs for tables were taken
abbrev pub TakesMissing : Memory → Memory → ℕ → ℕ → Type 0
TakesMissing m k r page = tree.TakesMissing m.ram k.ram r m.frames k.frames page

-- the tables on the way to a page are there, made of the first free frames, and all others stay
abbrev pub Adds : Memory → Memory → ℕ → ℕ → Type 0
Adds m k r page = shape.Adds m.ram k.ram r page m.frames k.frames

-- the page table changed, and nothing that others hold
pub record Changes (m k : Memory) (r : ℕ) : Type 0 where
  pub paged : IsPaged k r
  pub keeps : Keeps m k r
  pub extra : extra_of k ≡ extra_of m

-- a page table that maps nothing has its root in the frame that was free first
pub record Creates (m k : Memory) (r : ℕ) : Type 0 where
  pub paged : IsPaged k r
  pub empty : IsEmpty k.ram r
  pub tidy : IsTidy k.ram r
  pub taken : free_of m ≡ r ∷ free_of k
  pub bytes : k.ram ≡ slice_set m.ram r (replicate 4096 0)

-- a table was made at a node, of the frame that was free first
pub record Makes (m k : Memory) (r : ℕ) (x : Node) (t : ℕ) : Type 0 where
  pub there : table_at k.ram r x ≡ Some t
  pub taken : free_of m ≡ t ∷ free_of k
  pub beside : SameTablesBut m.ram k.ram r x
  pub same : SameMap m.ram k.ram r
  pub changes : Changes m k r

-- the table at a node went back to the free frames
pub record Drops (m k : Memory) (r : ℕ) (x : Node) (t : ℕ) : Type 0 where
  pub gone : table_at k.ram r x ≡ None
  pub given : free_of k ≡ t ∷ free_of m
  pub beside : SameTablesBut m.ram k.ram r x
  pub same : SameMap m.ram k.ram r
  pub changes : Changes m k r

-- an entry that maps a page was written: every table is where it was, and every frame has its holders
pub record Rewrites (m k : Memory) (r : ℕ) : Type 0 where
  pub paged : IsPaged k r
  pub keeps : Keeps m k r
  pub tables : SameTables m.ram k.ram r
  pub free : free_of k ≡ free_of m
  pub holders : k.frames ≡ m.frames

-- a page is mapped to a frame with these marks; tables that were missing were made
pub record MapsTo (m k : Memory) (r page f marks : ℕ) : Type 0 where
  pub maps : Maps m.ram k.ram r page f marks
  pub adds : Adds m k r page
  pub tidy : IsTidy m.ram r → IsTidy k.ram r
  pub changes : Changes m k r

-- a page that was mapped to a frame no longer is; tables that map nothing then went back
pub record Unmaps (m k : Memory) (r page f : ℕ) : Type 0 where
  pub was : option_map (λ x. x.0) (lookup_of m.ram r page) ≡ Some f
  pub removes : Removes (lookup_of m.ram r) (lookup_of k.ram r) page
  pub drops : Adds k m r page
  pub tidy : IsTidy k.ram r
  pub changes : Changes m k r
