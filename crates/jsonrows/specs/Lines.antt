-- A line of JSON.
use Rattle.std.specs.Prelude.{List, [], ◌++◌, ◌∷◌, ◌≡◌, ℕ}
use Rattle.json.specs.Lex.{tokens}
use Rattle.json.specs.Print.{print}

-- a JSON text with no space between its tokens, and a line end
abbrev pub IsLine : List ℕ → Type 0
IsLine bytes = (text : List ℕ) × (text ≡ print (tokens text)) × (bytes ≡ text ++ 10 ∷ [])
