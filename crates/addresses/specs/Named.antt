-- What is known of an address.
use Rattle.std.specs.Prelude.{IfSome, IsSome, List, ℕ, ◌⊎◌}
use Rattle.addresses.specs.declared.name.Name.{Name}
use Rattle.addresses.specs.declared.names.Names.{Names}
use Rattle.lines.specs.Found.{IsLineAt}
use Rattle.sections.specs.Made.{IsOf}
use Rattle.sections.specs.declared.table.Sections.{Sections}
use Rattle.symbols.specs.Places.{IsPlace}
use Rattle.symbols.specs.Tables.{AreOf}

-- the symbols are those of a file's table
pub record AreNamesOf (file : List ℕ) (names : Names) : Type 0 where
  pub sections : Sections
  pub parts : IsOf file sections
  pub symbols : AreOf sections names.symbols

-- the function or label that has an address, the line that it is of, or both
pub record IsNameOf (names : Names) (address : ℕ) (name : Name) : Type 0 where
  pub place : IfSome name.place (IsPlace names.symbols address)
  pub line : IsLineAt names.lines address name.line
  pub some : IsSome name.place ⊎ IsSome name.line
