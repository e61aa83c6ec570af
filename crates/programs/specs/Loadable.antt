-- What of a file may be loaded into a slot, and what is left of the slot where a load fails.
use Rattle.std.specs.Prelude.{List, Some, false, length, true, ℕ, ◌*◌, ◌+◌, ◌<◌, ◌^◌, ◌≡◌, ◌≤◌}
use Rattle.elf.specs.declared.FileHeader.{FileHeader}
use Rattle.elf.specs.declared.LoadSegment.{LoadSegment}
use Rattle.elf.specs.Headers.{is_within}
use Rattle.file_transfers.specs.Moved.{with_bytes}
use Rattle.programs.specs.declared.headers.Program.{Program}
use Rattle.programs.specs.Headed.{file_of, loaded_by, part_of, program_in}
use Rattle.programs.specs.Placed.{Follows, HasRoom, IsPaged, MayLoad, next_in}
use Rattle.spaces.specs.Spaces.{SpaceView, Spaces, has_space, no_pages, view_at, with_view}
use Rattle.tree.specs.Tree.{FileTree}
use Rattle.tree.specs.Written.{IsFile}
use Rattle.unixmodel.specs.Numbers.{ceil_div}

-- the pages of a slot reach up to an address
abbrev pub ReachesTo : Spaces → ℕ → ℕ → Type 0
ReachesTo s at end = end ≤ 4096 * length (view_at s at).memory

-- a file of files in use, and a slot with a space for it
pub record IsReady (tree : FileTree) (s : Spaces) (at number : ℕ) : Type 0 where
  pub up : tree.failed ≡ false
  pub file : IsFile tree.files number
  pub space : has_space s at ≡ true

-- a file has `count` bytes from an offset on, and a slot has pages for them
pub record MayFill (tree : FileTree) (s : Spaces) (at number offset address count : ℕ) : Type 0 where
  pub within : is_within offset count (length (file_of tree number)) ≡ true
  pub long : length (file_of tree number) < 2 ^ 32
  pub inside : ReachesTo s at (address + count)

-- a segment of a file of `len` bytes may follow the pages of a slot, which has room for it
pub record MayFollow (s : Spaces) (at len : ℕ) (segment : LoadSegment) : Type 0 where
  pub paged : IsPaged (view_at s at)
  pub follows : Follows len (length (view_at s at).memory) segment
  pub few : ceil_div (segment.address + segment.size) 4096 < 2 ^ 32
  pub room : HasRoom s at (ceil_div (segment.address + segment.size) 4096)

-- a file has a program header at an offset, and what that loads may follow the pages of a slot, which reach up to `end`
pub record MayLoadNext (file : List ℕ) (s : Spaces) (at place end : ℕ) : Type 0 where
  pub within : place + 56 ≤ length file
  pub paged : IsPaged (view_at s at)
  pub whole : length (view_at s at).memory ≡ ceil_div end 4096
  pub next : MayLoad s at (next_in file place (view_at s at) end)

-- a file has its program headers, and what they load may come into a slot, which has no pages
pub record MayLoadAll (file : List ℕ) (s : Spaces) (at : ℕ) (header : FileHeader) : Type 0 where
  pub within : is_within header.program_headers (56 * header.count) (length file) ≡ true
  pub empty : view_at s at ≡ no_pages
  pub last : MayLoad s at (loaded_by file header)

-- a file of files in use is this program, for which a slot has room
pub record MayReplace (tree : FileTree) (s : Spaces) (at number : ℕ) (new : Program) : Type 0 where
  pub up : tree.failed ≡ false
  pub file : IsFile tree.files number
  pub program : program_in (file_of tree number) ≡ Some new
  pub few : new.pages < 2 ^ 32
  pub space : has_space s at ≡ true
  pub room : HasRoom s at (new.pages + 2)

-- `count` bytes of a file are in the pages of a slot, from an address on
abbrev pub with_part : Spaces → ℕ → ℕ → FileTree → ℕ → ℕ → ℕ → Spaces
with_part s at address tree number offset count = with_bytes s at address (part_of tree number offset count)

-- a slot has some pages or other, and the other slots have what they had
abbrev pub HoldsSome : Spaces → Spaces → ℕ → Type 0
HoldsSome old new at = (held : SpaceView) × (new ≡ with_view old at held)
