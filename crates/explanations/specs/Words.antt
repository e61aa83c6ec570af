-- The lines and words of a text.
use Rattle.std.specs.Prelude.{List, None, Option, Some, ◌++◌, ◌==◌, ◌≡◌, ◌⊎◌, ◌∷◌, if◌then◌else◌, length, nat_lt, ℕ}
use Rattle.std.specs.Prelude.{zero, suc}
use Rattle.std.specs.List.{after_first, before_first, position_or_len}
use Rattle.std.specs.Str.{NoCharPasses}
use Rattle.std.specs.Str.Parse.{digits_value, without_leading_plus}

-- what comes after the first line feed, if there is one
abbrev pub after_line : List ℕ → Option (List ℕ)
after_line text = if nat_lt (position_or_len (λ c. c == 10) text) (length text)
    then Some (after_first (λ c. c == 10) text) else None

-- the line after that many others of what is left of a text
unfoldable pub line_after : ℕ → Option (List ℕ) → Option (List ℕ)
line_after n None = None
line_after zero (Some text) = Some (before_first (λ c. c == 10) text)
line_after (suc n) (Some text) = line_after n (after_line text)

-- the line of a number, counted from 1; lines end at line feeds
abbrev pub line_of : ℕ → List ℕ → Option (List ℕ)
line_of zero text = None
line_of (suc n) text = line_after n (Some text)

-- digits up to a colon follow the beginning, and are the number
pub record IsNumberBehind (line beginning : List ℕ) (number : ℕ) : Type 0 where
  pub rest : List ℕ
  pub behind : line ≡ beginning ++ rest
  pub value : digits_value 10 (without_leading_plus (before_first (λ c. c == 58) rest)) ≡ number

-- what comes after the last blank, or all where there is none
pub record IsLastWord (line word : List ℕ) : Type 0 where
  pub plain : NoCharPasses (λ c. c == 32) word
  pub last : (line ≡ word) ⊎ ((front : List ℕ) × (line ≡ front ++ (32 ∷ word)))
