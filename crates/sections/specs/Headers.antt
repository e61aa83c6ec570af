-- What the section headers of a 64-bit ELF file say, whose numbers have their lowest byte first.
use Rattle.std.specs.Prelude.{Bool, List, [], ◌∷◌, None, Some, Option, if◌then◌else◌, length, take, drop, ℕ, zero, suc}
use Rattle.std.specs.Prelude.{nat_lt, nat_le, map, ◌+◌, ◌==◌, ◌&&◌}
use Rattle.std.specs.List.{slice_get}
use Rattle.std.specs.Str.{bytes_eq}
use Rattle.sections.specs.declared.section.Section.{Section}
use Rattle.byteorder.specs.Endian.{little_number}

-- whether bytes begin with 7f 45 4c 46, of class 2 (64 bits) and data 1 (lowest byte first)
abbrev pub is_elf : List ℕ → Bool
is_elf file = little_number 4 file == 0x464C457F && (little_number 2 (drop 4 file) == 0x0102)

-- a section header of 64 bytes
abbrev pub section_in : List ℕ → Section
section_in header = record {
  name = little_number 4 header;
  kind = little_number 4 (drop 4 header);
  flags = little_number 8 (drop 8 header);
  offset = little_number 8 (drop 24 header);
  size = little_number 8 (drop 32 header);
  link = little_number 4 (drop 40 header);
}

-- the first pieces of that size, whole ones, at most count
abbrev pub pieces : ℕ → ℕ → List ℕ → List (List ℕ)
pieces size zero bytes = []
pieces size (suc count) bytes =
    if nat_lt (length bytes) size then [] else take size bytes ∷ pieces size count (drop size bytes)

-- the bytes of a file at an offset, that many; none where the file ends before them
abbrev pub part : List ℕ → ℕ → ℕ → List ℕ
part file offset size = if nat_le (offset + size) (length file) then take size (drop offset file) else []

-- whether a file has the header of one of this class, and section headers of 64 bytes
abbrev pub has_sections : List ℕ → Bool
has_sections file = nat_le 64 (length file) && is_elf file && (little_number 2 (drop 58 file) == 64)

-- the sections of a file, in their order
abbrev pub sections_of : List ℕ → List Section
sections_of file =
    if has_sections file
    then map section_in (pieces 64 (little_number 2 (drop 60 file)) (drop (little_number 8 (drop 40 file)) file))
    else []

-- the bytes that a section has in its file: one of type 8 (SHT_NOBITS) has none
abbrev pub contents_of : List ℕ → Option Section → List ℕ
contents_of file None = []
contents_of file (Some section) = if section.kind == 8 then [] else part file section.offset section.size

-- the bytes before the first 0
abbrev pub before_zero : List ℕ → List ℕ
before_zero [] = []
before_zero (byte ∷ bytes) = if byte == 0 then [] else byte ∷ before_zero bytes

-- the text at an offset of a table of strings, at most 255 bytes of it
abbrev pub text_at : List ℕ → ℕ → List ℕ
text_at strings offset = before_zero (take 255 (drop offset strings))

-- the table of the sections' names
abbrev pub names_of : List ℕ → List ℕ
names_of file = contents_of file (slice_get (sections_of file) (little_number 2 (drop 62 file)))

-- the first section of a name
abbrev pub section_named : List ℕ → List ℕ → List Section → Option Section
section_named names name [] = None
section_named names name (section ∷ sections) =
    if bytes_eq (text_at names section.name) name then Some section else section_named names name sections

-- the first section of a type
abbrev pub section_of_kind : ℕ → List Section → Option Section
section_of_kind kind [] = None
section_of_kind kind (section ∷ sections) = if section.kind == kind then Some section else section_of_kind kind sections
