-- The symbol that is nearest to an address.
use Rattle.std.specs.Prelude.{◌≡◌, ◌≤◌, ℕ, List, true}
use Rattle.std.specs.List.{All, Contains}
use Rattle.symbols.specs.declared.entry.Symbol.{Symbol}
use Rattle.symbols.specs.Entries.{has_address}

-- of these symbols none lies nearer to an address, at or below it
pub record IsNearest (symbols : List Symbol) (address : ℕ) (symbol : Symbol) : Type 0 where
  pub is : Contains symbols symbol
  pub below : symbol.address ≤ address
  pub nearest : All (λ other. other.address ≤ address → other.address ≤ symbol.address) symbols

-- the nearest one, which has the address
pub record IsOf (symbols : List Symbol) (address : ℕ) (symbol : Symbol) : Type 0 where
  pub nearest : IsNearest symbols address symbol
  pub has : has_address symbol address ≡ true
