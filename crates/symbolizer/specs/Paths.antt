-- Paths of programs.
use Rattle.std.specs.Prelude.{List, [], ◌∷◌, ◌==◌, ◌&&◌, if◌then◌else◌, ℕ}

-- a path from the root without what it begins with, `/` (47) or `./` (46, 47)
abbrev pub from_root : List ℕ → List ℕ
from_root [] = []
from_root (a ∷ []) = if a == 47 then [] else a ∷ []
from_root (a ∷ b ∷ rest) = if a == 47 then b ∷ rest else (if a == 46 && b == 47 then rest else a ∷ b ∷ rest)
