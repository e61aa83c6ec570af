-- The name that was meant.
use Rattle.std.specs.Prelude.{Bool, List, None, Option, Some, ◌∷◌, [], false, if◌then◌else◌, length, map, min, nat_eq}
use Rattle.std.specs.Prelude.{nat_lt, true, ℕ}
use Rattle.std.specs.Borrow.{Bor}
use Rattle.std.specs.Char.{to_ascii_lowercase}
use Rattle.std.specs.Str.{bytes_eq, chars}
use Rattle.strsim.specs.Edits.{levenshtein_row}

-- how many edits lead from a word to a name, of texts in small letters
abbrev pub small_edits : List ℕ → List ℕ → ℕ
small_edits word name = levenshtein_row nat_eq (chars word) (chars name) (length (chars name))

-- where large and small letters are the same
abbrev pub edits : List ℕ → List ℕ → ℕ
edits word name = small_edits (map to_ascii_lowercase word) (map to_ascii_lowercase name)

-- the first of the names that takes the fewest edits, if they are fewer than that; else the one that was found
abbrev pub nearer : (word : List ℕ) (fewest : ℕ) (found : Option (Bor (List ℕ))) → List (Bor (List ℕ))
    → Option (Bor (List ℕ))
nearer word fewest found [] = found
nearer word fewest found (name ∷ names) = if nat_lt (edits word name.now) fewest
    then nearer word (edits word name.now) (Some name) names else nearer word fewest found names

-- whether a word is one of the names
abbrev pub is_among : List ℕ → List (Bor (List ℕ)) → Bool
is_among word [] = false
is_among word (name ∷ names) = if bytes_eq name.now word then true else is_among word names

-- a name has no other that was meant; else it takes at most two edits, and fewer than the word has letters
abbrev pub nearest_of : List ℕ → List (Bor (List ℕ)) → Option (Bor (List ℕ))
nearest_of word names = if is_among word names then None
    else nearer word (min 3 (length word)) None names
