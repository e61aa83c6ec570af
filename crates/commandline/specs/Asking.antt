-- Whether the words ask for more on what is wrong.
use Rattle.std.specs.Prelude.{Bool, List, [], codes, false, if◌then◌else◌, true, ℕ, ◌∷◌}
use Rattle.std.specs.Borrow.{Bor}
use Rattle.std.specs.Str.{bytes_eq}

-- the option is among these words, before any "--"
abbrev pub asks : List (Bor (List ℕ)) → Bool
asks [] = false
asks (word ∷ words) =
    if bytes_eq word.now (codes "--") then false else if bytes_eq word.now (codes "--explain") then true else asks words

-- the first word is the program's name
abbrev pub asks_more : List (Bor (List ℕ)) → Bool
asks_more [] = false
asks_more (program ∷ words) = asks words
