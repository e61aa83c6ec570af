-- What exec takes from the headers of a program file.
use Rattle.std.specs.Prelude.{Err, IfSome, List, None, Ok, Option, Result, Some, drop, length, option_and_then}
use Rattle.std.specs.Prelude.{option_map, take, ℕ, ◌+◌, ◌^◌, ◌≡◌, ◌≤◌}
use Rattle.blockdev.specs.Splice.{part}
use Rattle.elf.specs.declared.ElfFault.{ElfFault}
use Rattle.elf.specs.declared.FileHeader.{FileHeader}
use Rattle.elf.specs.declared.LoadSegment.{LoadSegment}
use Rattle.elf.specs.Headers.{header_in, header_of, segment_of}
use Rattle.programs.specs.declared.headers.Program.{Program}
use Rattle.tree.specs.Tree.{FileTree}
use Rattle.unixmodel.specs.Files.{Files, slot}
use Rattle.unixmodel.specs.Plan.{Loaded, load_segments, loaded_of, nothing_loaded}
use Rattle.unixmodel.specs.ProcessCalls.{file_bytes}
use Rattle.unixmodel.specs.Shown.{bytes_or_none}

-- a read leaves the files as they were, and this is the result
pub record IsRead {T : Type 0} (old new : FileTree) (told is : T) : Type 0 where
  pub same : new ≡ record old { failures = new.failures }
  pub value : told ≡ is

abbrev pub Tells : {T : Type 0} → FileTree → FileTree → T → T → Type 0
Tells old new is told = IsRead old new told is

-- the same for the program of a file, of at most 2^52 pages
abbrev pub TellsProgram : FileTree → FileTree → Option Program → Option Program → Type 0
TellsProgram old new is told = IsRead old new told is × IfSome told (λ program. program.pages ≤ 2 ^ 52)

-- the bytes of the node with a number
abbrev pub file_at : Files → ℕ → List ℕ
file_at files n = bytes_or_none (slot files n)

abbrev pub file_of : FileTree → ℕ → List ℕ
file_of tree n = file_at tree.files n

-- the program of a file, where its segments can be loaded
abbrev pub program_in : List ℕ → Option Program
program_in file = option_map (λ (l : Loaded). record { header = header_in file; pages = length l.pages })
    (loaded_of file)

-- the program of the node with a number, where that is a file
abbrev pub program_at : Files → ℕ → Option Program
program_at files number = option_and_then program_in (file_bytes (slot files number))

-- ---- the steps to it

-- `count` bytes of a file, from an offset on
abbrev pub part_of : FileTree → ℕ → ℕ → ℕ → List ℕ
part_of tree number offset count = part offset count (file_of tree number)

-- what the program headers of a file load, and where it ends
abbrev pub loaded_by : List ℕ → FileHeader → Option Loaded
loaded_by file header = load_segments file header.count header.program_headers nothing_loaded

abbrev pub end_of : List ℕ → FileHeader → Option ℕ
end_of file header = option_map (λ (l : Loaded). l.end) (loaded_by file header)

abbrev pub unless_refused : {T : Type 0} → Result T ElfFault → Option T
unless_refused (Ok x) = Some x
unless_refused (Err fault) = None

-- the header of a file
abbrev pub headed : List ℕ → Option FileHeader
headed file = unless_refused (header_of (take 64 file) (length file))

-- where what is loaded ends after a program header
abbrev pub end_by : ℕ → Result (Option LoadSegment) ElfFault → Option ℕ
end_by end (Err fault) = None
end_by end (Ok None) = Some end
end_by end (Ok (Some g)) = Some (g.address + g.size)

-- the segment that a program header describes
abbrev pub segment_behind : List ℕ → ℕ → ℕ → Result (Option LoadSegment) ElfFault
segment_behind file at end = segment_of (take 56 (drop at file)) end (length file)

abbrev pub end_behind : List ℕ → ℕ → ℕ → Option ℕ
end_behind file at end = end_by end (segment_behind file at end)
