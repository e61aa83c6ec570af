-- The marks of programs' pages, as leaves of the tables hold them.
use Rattle.std.specs.Prelude.{◌≡◌, ◌&&◌, ◌||◌, ◌*◌, ◌+◌, ℕ, Bool, List, false, not}
use Rattle.std.specs.Borrow.{Bor}
use Rattle.frames.specs.Holders.{one_if}
use Rattle.sv39.specs.Entry.{has}
use Rattle.sv39.specs.Mapping.{Mapped}
use Rattle.unixmodel.specs.Memory.{Page, Perm as Rights}
use Rattle.vm.specs.declared.Marks.{Marks}
use Rattle.vm.specs.declared.Perm.{Perm}

-- What a program may do at a page by right. Bit 8 of a leaf, which the walk doesn't look at, says that it may write,
-- and bit 9 that a fork had the page; W says that a store goes through without the kernel.
abbrev pub right_marks : ℕ → Rights
right_marks leaf = record
    { writable = has leaf 256; executable = has leaf 8; user = has leaf 16; shared = has leaf 512 }

-- a leaf is open where a store goes through without the kernel
abbrev pub is_open : ℕ → Bool
is_open leaf = has leaf 4

-- what the walk lets through
abbrev pub entry_marks : ℕ → Rights
entry_marks leaf = record
    { writable = is_open leaf; executable = has leaf 8; user = has leaf 16; shared = has leaf 512 }

-- the leaf of a page: valid, readable, accessed and dirty, and what a program may do there; only a page that a fork had
-- is closed
abbrev pub user_leaf : Rights → Bool → ℕ
user_leaf m wide =
    1 + 2 + 4 * one_if (m.writable && (wide || not m.shared)) + 8 * one_if m.executable + 16 * one_if m.user + 64 + 128
    + 256 * one_if m.writable + 512 * one_if m.shared

-- these are the marks of the leaf of a page: it is open only where it is writable by right, and is so where no fork had
-- it
abbrev pub IsUserLeaf : ℕ → Type 0
IsUserLeaf leaf = leaf ≡ user_leaf (right_marks leaf) (is_open leaf)

-- the marks that a caller gives
abbrev pub marks_from : Perm → Rights
marks_from p = record { writable = p.w; executable = p.x; user = p.u; shared = false }

-- the page that is returned to a caller, by its bytes and its marks
abbrev pub page_from : Bor (List ℕ) × Perm → Page
page_from told = record { bytes = told.0.now; marks = marks_from told.1 }

-- those that the kernel keeps
abbrev pub rights_from : Marks → Rights
rights_from m = record { writable = m.perm.w; executable = m.perm.x; user = m.perm.u; shared = m.shared }

-- the page, by its bytes and the marks that the kernel keeps
abbrev pub kept_from : Bor (List ℕ) × Marks → Page
kept_from told = record { bytes = told.0.now; marks = rights_from told.1 }

-- an entry of a mapping, by its parts
abbrev pub mapped_as : ℕ → Marks → Mapped
mapped_as frame marks = record { frame = frame; marks = rights_from marks }
