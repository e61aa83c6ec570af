-- The symbols of a 64-bit ELF file that name addresses of its code.
use Rattle.std.specs.Prelude.{Bool, List, [], ◌∷◌, None, Some, Option, if◌then◌else◌, length, take, drop, ℕ, map, not}
use Rattle.std.specs.Prelude.{◌+◌, ◌/◌, ◌%◌, ◌==◌, ◌&&◌, ◌||◌, nat_lt, nat_le, true, false, slice_index}
use Rattle.byteorder.specs.Endian.{little_number}
use Rattle.std.specs.List.{slice_get}
use Rattle.sections.specs.Headers.{contents_of, names_of, pieces, sections_of, text_at}
use Rattle.sections.specs.declared.section.Section.{Section}
use Rattle.symbols.specs.declared.entry.Symbol.{Symbol}

-- an entry of a symbol table, 24 bytes
abbrev pub symbol_in : List ℕ → Symbol
symbol_in entry = record {
  name = little_number 4 entry;
  section = little_number 2 (drop 6 entry);
  address = little_number 8 (drop 8 entry);
  size = little_number 8 (drop 16 entry);
}

-- its type, the low four bits of the byte at 4
abbrev pub type_in : List ℕ → ℕ
type_in entry = slice_index entry 4 % 16

-- whether a symbol has an address: one of a size has as many from its own on
abbrev pub has_address : Symbol → ℕ → Bool
has_address symbol address =
    nat_le symbol.address address && (symbol.size == 0 || nat_lt address (symbol.address + symbol.size))

-- whether a name is one of an assembler's or a compiler's own: `.L12`, `$x`
abbrev pub is_own : List ℕ → Bool
is_own [] = true
is_own (a ∷ []) = a == 36
is_own (a ∷ b ∷ name) = a == 36 || (a == 46 && (b == 76))

-- whether an entry is of a section, and has a name that a program's author gave
abbrev pub is_named : List ℕ → List ℕ → Bool
is_named names entry = not ((symbol_in entry).section == 0) && not (is_own (text_at names (symbol_in entry).name))

-- whether a section's bytes are instructions (bit 2 of its flags, SHF_EXECINSTR)
abbrev pub is_code : Option Section → Bool
is_code None = false
is_code (Some section) = section.flags / 4 % 2 == 1

-- the function that an entry declares (type 2, STT_FUNC), and the label (type 0, STT_NOTYPE, in a section of code)
abbrev pub function_in : List ℕ → List ℕ → List Symbol
function_in names entry = if type_in entry == 2 && is_named names entry then symbol_in entry ∷ [] else []

abbrev pub label_in : List Section → List ℕ → List ℕ → List Symbol
label_in sections names entry =
    if type_in entry == 0 && is_named names entry && is_code (slice_get sections (symbol_in entry).section)
    then symbol_in entry ∷ [] else []

-- the entries of a table
abbrev pub entries_of : List ℕ → List (List ℕ)
entries_of table = pieces 24 (length table / 24) table
