-- A program's file with what a debugger is given after it.
use Rattle.std.specs.Prelude.{List, Ok, ℕ, ◌≡◌}
use Rattle.debug_sections.specs.File.{with_sections}
use Rattle.debug_sections.specs.declared.tables.Tables.{Tables}
use Rattle.unixmodel.specs.Assembly as the

-- a file, except for the words on sections in its header, and sections after it
pub record HasSections (plain file : List ℕ) : Type 0 where
  pub tables : Tables
  pub is : file ≡ with_sections plain tables

-- the text's file, with such sections
pub record IsDebugged (text file : List ℕ) : Type 0 where
  pub plain : List ℕ
  pub assembled : the.assembled text ≡ Ok plain
  pub sections : HasSections plain file
