-- A part of a list, and a list with a part written over.
use Rattle.std.specs.Prelude.{ℕ, ◌+◌, List, ◌++◌, length, take, drop}

-- m items from index p on
abbrev pub part : {X : Type 0} → ℕ → ℕ → List X → List X
part p m xs = take m (drop p xs)

-- old with new written from index at on
abbrev pub splice : {X : Type 0} → ℕ → List X → List X → List X
splice at new old = take at old ++ (new ++ drop (at + length new) old)
