-- What the headers of a program file say, or why they are refused.
use Rattle.std.specs.Prelude.{Bool, Err, List, None, Ok, Option, Result, Some, if◌then◌else◌, nat_le, nat_lt, not, ℕ}
use Rattle.std.specs.Prelude.{◌%◌, ◌&&◌, ◌*◌, ◌+◌, ◌==◌, ◌^◌, ◌||◌}
use Rattle.elf.specs.declared.ElfFault.{ElfFault}
use Rattle.elf.specs.declared.ElfFault.TheVariants.{Align, Magic, Overlap, Short, Sizes}
use Rattle.elf.specs.declared.FileHeader.{FileHeader}
use Rattle.elf.specs.declared.LoadSegment.{LoadSegment}
use Rattle.unixmodel.specs.Numbers.{has_bit, number_at, round_down}
use Rattle.unixmodel.specs.Plan as plan
use Rattle.unixmodel.specs.Plan.{segment_at}

-- a file of len bytes has `size` bytes at an offset
abbrev pub is_within : ℕ → ℕ → ℕ → Bool
is_within at size len = size == 0 || nat_le (at + size) len

-- ---- the header of the file

abbrev pub header_in : List ℕ → FileHeader
header_in bytes = record {
  entry = round_down (number_at 8 24 bytes) 4;
  program_headers = number_at 8 32 bytes;
  count = number_at 2 56 bytes;
}

abbrev pub header_of : List ℕ → ℕ → Result FileHeader ElfFault
header_of bytes len =
    if number_at 4 0 bytes == 0x464C457F
    then (if nat_le 64 len && is_within (number_at 8 32 bytes) (56 * number_at 2 56 bytes) len
    then Ok (header_in bytes) else Err Short)
    else Err Magic

-- ---- a program header

abbrev pub segment_shown : plan.Segment → LoadSegment
segment_shown g = record {
  writable = has_bit g.flags 1;
  executable = has_bit g.flags 0;
  offset = g.offset;
  address = g.address;
  file_size = g.file_size;
  size = g.size;
}

abbrev pub wrong : LoadSegment → ℕ → ℕ → Option ElfFault
wrong g end len =
    if not (nat_le g.file_size g.size && nat_lt (g.address + g.size) (2 ^ 64)) then Some Sizes
    else if not (g.address % 4096 == 0) then Some Align
    else if nat_lt g.address end then Some Overlap
    else if not (is_within g.offset g.file_size len) then Some Short
    else None

abbrev pub segment_if : LoadSegment → Option ElfFault → Result (Option LoadSegment) ElfFault
segment_if g None = Ok (Some g)
segment_if g (Some fault) = Err fault

abbrev pub segment_of : List ℕ → ℕ → ℕ → Result (Option LoadSegment) ElfFault
segment_of bytes end len =
    if (segment_at bytes 0).kind == 1
    then segment_if (segment_shown (segment_at bytes 0)) (wrong (segment_shown (segment_at bytes 0)) end len)
    else Ok None
