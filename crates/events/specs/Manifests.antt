-- What a manifest's text says.
use Rattle.std.specs.Prelude.{◌≡◌, ℕ, ◌+◌, ◌≤◌, ◌==◌, ◌++◌, List, None, Option, Some, codes, drop, option_map, position}
use Rattle.std.specs.Prelude.{take, MatchOption}
use Rattle.std.specs.Borrow.{Bor}
use Rattle.std.specs.Str.Parse.{IsNumeral, digits_value}
use Rattle.events.specs.declared.manifest.Line.{Line}
use Rattle.events.specs.declared.manifest.Line.TheVariants as line

-- the bytes before the first blank, and those after it
abbrev pub split_field : List ℕ → Option (List ℕ × List ℕ)
split_field bytes = option_map (λ at. (take at bytes, drop (at + 1) bytes)) (position (λ b. b == 0x20) bytes)

-- n, in decimal digits, is a major or a minor
pub record IsMajor (digits : List ℕ) (n : ℕ) : Type 0 where
  pub numeral : IsNumeral 10 digits
  pub value : digits_value 10 digits ≡ n
  pub bound : n ≤ 32767

-- what follows the first word of a line, field by field
abbrev pub IsDirectory : List ℕ → List ℕ → Type 0
IsDirectory rest path = (path ≡ rest) × (split_field rest ≡ None)

abbrev pub IsFile : List ℕ → List ℕ → List ℕ → Type 0
IsFile rest path host = (split_field rest ≡ Some (path, host)) × (split_field host ≡ None)

abbrev pub IsDevice : List ℕ → List ℕ → ℕ → ℕ → Type 0
IsDevice rest path major minor =
    (numbers : List ℕ) × (first : List ℕ) × (second : List ℕ)
    × (split_field rest ≡ Some (path, numbers)) × (split_field numbers ≡ Some (first, second)) × IsMajor first major
    × IsMajor second minor

-- the path and the numbers of a device are found, or there are none
abbrev pub FindsDevice : List ℕ → Option (Bor (List ℕ) × ℕ × ℕ) → Type 0
FindsDevice rest found =
    MatchOption found ((path : List ℕ) (first second : ℕ) → ¬ IsDevice rest path first second)
    (λ three. IsDevice rest three.0.now three.1 three.2)

-- what a line says
abbrev pub IsLine : List ℕ → Line → Type 0
IsLine text (line.Directory path) = (rest : List ℕ) × (text ≡ codes "dir " ++ rest) × IsDirectory rest path.now
IsLine text (line.File path host) = (rest : List ℕ) × (text ≡ codes "file " ++ rest) × IsFile rest path.now host.now
IsLine text (line.Device path major minor) = (rest : List ℕ) × (text ≡ codes "dev " ++ rest)
    × IsDevice rest path.now major minor
