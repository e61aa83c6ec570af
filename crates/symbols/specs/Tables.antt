-- The functions and labels of a file.
use Rattle.std.specs.Prelude.{◌≡◌, List, [], None, Option, Some, ℕ, flat_map, slice_get}
use Rattle.std.specs.List.Sorted.{IsPermutation}
use Rattle.sections.specs.Headers.{contents_of, section_of_kind}
use Rattle.sections.specs.declared.section.Section.{Section}
use Rattle.sections.specs.declared.table.Sections.{Sections}
use Rattle.symbols.specs.declared.table.Symbols.{Symbols}
use Rattle.symbols.specs.Entries.{entries_of, function_in, label_in}

-- the table of symbols (type 2, SHT_SYMTAB)
abbrev pub table_of : Sections → Option Section
table_of sections = section_of_kind 2 sections.list.items

-- the table of their names, by the section that it links to
abbrev pub strings_of : Sections → Option Section → List ℕ
strings_of sections None = []
strings_of sections (Some table) = contents_of sections.file.now (slice_get sections.list.items table.link)

-- the functions and the labels are those of the table, in another order
pub record AreOf (sections : Sections) (symbols : Symbols) : Type 0 where
  pub names : symbols.names.now ≡ strings_of sections (table_of sections)
  pub functions : IsPermutation
      (flat_map (function_in (strings_of sections (table_of sections)))
      (entries_of (contents_of sections.file.now (table_of sections))))
      symbols.functions.symbols.items
  pub labels : IsPermutation
      (flat_map (label_in sections.list.items (strings_of sections (table_of sections)))
      (entries_of (contents_of sections.file.now (table_of sections))))
      symbols.labels.symbols.items
