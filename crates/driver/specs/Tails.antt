-- The bytes that an output puts out, and the last of them.
use Rattle.std.specs.Prelude.{Bool, List, None, Option, Some, [], drop, false, length, nat_eq, nat_le, true, ℕ, ◌-◌}
use Rattle.std.specs.Prelude.{◌∷◌}
use Rattle.std.specs.Cmp.Lexicographic.{pointwise}
use Rattle.driver.specs.Goals.{last_bytes}

-- what an output took is told as how many bytes its writer had before, and then all bytes of the writer: these
abbrev pub written_of : Option (List ℕ) → Option (List ℕ)
written_of None = None
written_of (Some []) = None
written_of (Some (before ∷ bytes)) = Some bytes

abbrev pub known_if : Bool → List ℕ → Option (List ℕ)
known_if true bytes = Some bytes
known_if false bytes = None

-- those that the output put out
abbrev pub shown_of : Option (List ℕ) → Option (List ℕ)
shown_of None = None
shown_of (Some []) = None
shown_of (Some (before ∷ bytes)) = known_if (nat_le before (length bytes)) (drop before bytes)

-- what an output took that put out `count` bytes, of which `last` are the last 64, where it is known what its writer
-- has
abbrev pub remembered : Option (List ℕ) → ℕ → List ℕ → Option (List ℕ)
remembered None count last = None
remembered (Some bytes) count last =
    known_if (pointwise nat_eq last (last_bytes 64 (last_bytes count bytes))) ((length bytes - count) ∷ bytes)
