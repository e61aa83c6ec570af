-- A file that has sections for debuggers.
use Rattle.std.proofs.Common.{◌≡◌, List, ℕ, subst}
use Rattle.assembly_texts.specs.Debugged.{HasSections}
use Rattle.debug_sections.specs.File.{with_sections}
use Rattle.debug_sections.specs.declared.tables.Tables.{Tables}

pub sections : (plain now file : List ℕ) (tables : Tables) → now ≡ plain → file ≡ with_sections now tables
    → HasSections plain file
sections plain now file tables e is = record {
  tables = tables;
  is = subst (λ (it : List ℕ). file ≡ with_sections it tables) e is;
}
