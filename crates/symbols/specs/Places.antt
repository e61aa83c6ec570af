-- The name of an address.
use Rattle.std.specs.Prelude.{◌≡◌, ◌+◌, ◌⊎◌, ℕ}
use Rattle.sections.specs.Headers.{text_at}
use Rattle.symbols.specs.declared.entry.Symbol.{Symbol}
use Rattle.symbols.specs.declared.table.Place.{Place}
use Rattle.symbols.specs.declared.table.Symbols.{Symbols}
use Rattle.symbols.specs.Nearest.{IsOf}

-- it is the nearest function and has the address, or the nearest label and has it
abbrev pub IsAt : Symbols → ℕ → Symbol → Type 0
IsAt symbols address symbol =
    IsOf symbols.functions.symbols.items address symbol ⊎ IsOf symbols.labels.symbols.items address symbol

-- its name, and how far after it the address is
pub record IsPlace (symbols : Symbols) (address : ℕ) (place : Place) : Type 0 where
  pub symbol : Symbol
  pub at : IsAt symbols address symbol
  pub name : place.name.now ≡ text_at symbols.names.now symbol.name
  pub offset : place.offset + symbol.address ≡ address
