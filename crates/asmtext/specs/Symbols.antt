-- Symbols, and their reader, as the definitions see them.
use Rattle.std.specs.Prelude.{◌≡◌, ◌++◌, ◌==◌, Bool, [], ◌∷◌, List, ℕ, ℤ, map}
use Rattle.std.specs.Borrow.{Bor}
use Rattle.unixmodel.specs.Tokens as the
use Rattle.asmtext.specs.Numbers.{number_of}
use Rattle.asmtext.specs.declared.number.Number.{Number}
use Rattle.asmtext.specs.declared.tokens.Mode.{Mode}
use Rattle.asmtext.specs.declared.tokens.Mode.TheVariants as mode
use Rattle.asmtext.specs.declared.tokens.Reader.{Reader}
use Rattle.asmtext.specs.declared.tokens.Symbol.{Symbol}
use Rattle.asmtext.specs.declared.tokens.Symbol.TheVariants as symbol

abbrev pub symbol_of : Symbol → the.Symbol
symbol_of (symbol.Plain c) = the.Symbol.Plain c
symbol_of (symbol.Quoted bytes) = the.Symbol.Quoted bytes.items

abbrev pub mode_of : Mode → List ℕ → the.Mode
mode_of mode.Outside string = the.Mode.Outside
mode_of mode.Inside string = the.Mode.Inside string
mode_of mode.Escaped string = the.Mode.Escaped string
mode_of mode.Comment string = the.Mode.Comment
mode_of mode.Lost string = the.Mode.Lost

abbrev pub reader_of : Reader → the.Reader
reader_of r = record { mode = mode_of r.mode r.string.items; symbols = map symbol_of r.symbols.items }

-- the character after a backslash stands for the byte
abbrev pub Escapes : ℕ → ℕ → Type 0
Escapes c byte = (bytes : List ℕ) → the.after_escape bytes c ≡ the.Mode.Inside (bytes ++ byte ∷ [])

abbrev pub is_comma : Symbol → Bool
is_comma s = the.is_plain (λ c. c == 0x2c) (symbol_of s)

abbrev pub is_blank_symbol : Symbol → Bool
is_blank_symbol s = the.is_plain the.is_blank (symbol_of s)

-- a part, and parts, as lists of symbols
abbrev pub part_seen : Bor (List Symbol) → List the.Symbol
part_seen part = map symbol_of part.now

abbrev pub parts_seen : List (Bor (List Symbol)) → List (List the.Symbol)
parts_seen parts = map part_seen parts

-- a number, and the register from which it counts
abbrev pub place_seen : Number × ℕ → ℤ × ℕ
place_seen place = (number_of place.0, place.1)
