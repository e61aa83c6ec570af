-- A program's file with sections after it (ELF-64 Object File Format, "Sections").
use Rattle.std.specs.Prelude.{List, [], length, min, replicate, slice_range, take, ℕ, ◌%◌, ◌+◌, ◌++◌, ◌-◌, ◌/◌}
use Rattle.std.specs.Prelude.{◌^◌, ◌∷◌}
use Rattle.debug_sections.specs.Bytes.{double, half, small, word}
use Rattle.debug_sections.specs.Labels.{with_labels, with_names}
use Rattle.debug_sections.specs.Program.{with_lines}
use Rattle.debug_sections.specs.Unit.{first_name, with_unit}
use Rattle.debug_sections.specs.declared.headers.Extent.{Extent}
use Rattle.debug_sections.specs.declared.headers.Extents.{Extents}
use Rattle.debug_sections.specs.declared.tables.Tables.{Tables}

-- ---- section headers

-- a section header: name, type, flags, address 0, where it is in the file, link, info, alignment, size of an entry
unfoldable pub with_section : List ℕ → ℕ → ℕ → ℕ → Extent → ℕ → ℕ → ℕ → ℕ → List ℕ
with_section out name kind flags extent link info align entry = out ++ word name ++ word kind ++ double flags
    ++ double 0 ++ double extent.offset ++ double extent.size ++ word link ++ word info ++ double align ++ double entry

-- one of texts, or of bytes for debuggers
abbrev pub with_plain : List ℕ → ℕ → ℕ → Extent → List ℕ
with_plain out name kind extent = with_section out name kind 0 extent 0 0 1 0

-- the program's bytes, which are at 4096 in the file: written to, in memory, instructions
abbrev pub with_program : List ℕ → ℕ → List ℕ
with_program out size = with_section out 1 1 7 (record { offset = 4096; size = size }) 0 0 4 0

-- the labels, whose names are in section 3; all are local
abbrev pub with_symbols : List ℕ → Extent → List ℕ
with_symbols out extent = with_section out 7 2 0 extent 3 (small (extent.size / 24)) 8 24

unfoldable pub with_headers : List ℕ → ℕ → Extents → List ℕ
with_headers out size extents = with_plain (with_plain (with_plain (with_plain (with_plain
    (with_symbols (with_program (out ++ replicate 64 0) size) extents.labels)
    15 3 extents.strings) 23 1 extents.lines) 35 1 extents.unit) 47 1 extents.abbreviations) 61 3 extents.names

-- ---- the sections

-- zeros up to a multiple of 8, in a file that has that many bytes before these
unfoldable pub with_alignment : List ℕ → ℕ → List ℕ
with_alignment out start = out ++ take ((8 - (start % 8 + length out % 8) % 8) % 8) (replicate 8 0)

-- the abbreviations: one, `DW_TAG_compile_unit` without children
abbrev pub abbreviations : List ℕ
abbreviations = 1 ∷ 0x11 ∷ 0 ∷ 0x03 ∷ 0x08 ∷ 0x13 ∷ 0x05 ∷ 0x10 ∷ 0x17 ∷ 0x11 ∷ 0x01 ∷ 0x12 ∷ 0x07 ∷ 0 ∷ 0 ∷ 0 ∷ []

-- the sections' names: '.text', '.symtab', '.strtab', '.debug_line', '.debug_info', '.debug_abbrev', '.shstrtab', each
-- with a 0 before it and after it
abbrev pub section_names : List ℕ
section_names =
    0 ∷ 46 ∷ 116 ∷ 101 ∷ 120 ∷ 116 ∷ 0 ∷ 46 ∷ 115 ∷ 121 ∷ 109 ∷ 116 ∷ 97 ∷ 98 ∷ 0 ∷ 46 ∷ 115 ∷ 116 ∷ 114 ∷ 116 ∷
    97 ∷ 98 ∷ 0 ∷ 46 ∷ 100 ∷ 101 ∷ 98 ∷ 117 ∷ 103 ∷ 95 ∷ 108 ∷ 105 ∷ 110 ∷ 101 ∷ 0 ∷ 46 ∷ 100 ∷ 101 ∷ 98 ∷ 117 ∷
    103 ∷ 95 ∷ 105 ∷ 110 ∷ 102 ∷ 111 ∷ 0 ∷ 46 ∷ 100 ∷ 101 ∷ 98 ∷ 117 ∷ 103 ∷ 95 ∷ 97 ∷ 98 ∷ 98 ∷ 114 ∷ 101 ∷ 118 ∷
    0 ∷ 46 ∷ 115 ∷ 104 ∷ 115 ∷ 116 ∷ 114 ∷ 116 ∷ 97 ∷ 98 ∷ 0 ∷ []

-- where what was added last is, in a file that has that many bytes before
abbrev pub extent_between : ℕ → ℕ → ℕ → Extent
extent_between start old new = record { offset = min (start + old) (2 ^ 64 - 1); size = new - old }

abbrev pub extents_of : ℕ → List ℕ → List ℕ → List ℕ → List ℕ → List ℕ → List ℕ → List ℕ → Extents
extents_of start labels strings lines unit abbreviations names end = record {
  labels = extent_between start (length labels) (length strings);
  strings = extent_between start (length strings) (length lines);
  lines = extent_between start (length lines) (length unit);
  unit = extent_between start (length unit) (length abbreviations);
  abbreviations = extent_between start (length abbreviations) (length names);
  names = extent_between start (length names) (length end);
}

-- what there is before the section of labels, and before and after each next one
abbrev pub before_labels : ℕ → List ℕ
before_labels start = with_alignment [] start

abbrev pub before_strings : ℕ → Tables → List ℕ
before_strings start t = with_labels (before_labels start) t.labels.now

abbrev pub before_lines : ℕ → Tables → List ℕ
before_lines start t = with_names (before_strings start t) t.labels.now

abbrev pub before_unit : ℕ → Tables → List ℕ
before_unit start t = with_lines (before_lines start t) t.files.now t.rows.now t.size

abbrev pub before_abbreviations : ℕ → Tables → List ℕ
before_abbreviations start t = with_unit (before_unit start t) (first_name t.files.now) t.size

abbrev pub before_names : ℕ → Tables → List ℕ
before_names start t = before_abbreviations start t ++ abbreviations

abbrev pub contents : ℕ → Tables → List ℕ
contents start t = before_names start t ++ section_names

abbrev pub extents_after : ℕ → Tables → Extents
extents_after start t = extents_of start (before_labels start) (before_strings start t) (before_lines start t)
    (before_unit start t) (before_abbreviations start t) (before_names start t) (contents start t)

-- where the section headers are, and all that comes after a file of that many bytes
abbrev pub headers_at : ℕ → Tables → ℕ
headers_at start t = min (start + length (with_alignment (contents start t) start)) (2 ^ 64 - 1)

abbrev pub sections : ℕ → Tables → List ℕ
sections start t = with_headers (with_alignment (contents start t) start) t.size (extents_after start t)

-- ---- the file

-- the front of a file, with where the section headers are (`e_shoff`)
unfoldable pub with_front : List ℕ → List ℕ → ℕ → List ℕ
with_front out file at = out ++ take 40 file ++ double at

-- the rest of its header, with the other words on sections (`e_shentsize`, `e_shnum`, `e_shstrndx`)
unfoldable pub with_header : List ℕ → List ℕ → List ℕ
with_header out file = out ++ slice_range file 48 58 ++ half 64 ++ half 8 ++ half 7

-- what comes after its header, and other bytes
unfoldable pub with_rest : List ℕ → List ℕ → List ℕ → List ℕ
with_rest out file after = out ++ slice_range file 64 (length file) ++ after

-- a file with such words in its header, and with bytes after it
unfoldable pub with_words : List ℕ → ℕ → List ℕ → List ℕ
with_words file at after = with_rest (with_header (with_front [] file at) file) file after

abbrev pub with_sections : List ℕ → Tables → List ℕ
with_sections file t = with_words file (headers_at (length file) t) (sections (length file) t)
