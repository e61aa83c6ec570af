-- Bytes that are copied into a buffer.
use Rattle.std.specs.Prelude.{List, drop, length, min, take, ℕ, ◌++◌}

-- a buffer at whose front there are as many of these bytes as it has room for
abbrev pub copied : List ℕ → List ℕ → List ℕ
copied bytes old = take (min (length bytes) (length old)) bytes ++ drop (min (length bytes) (length old)) old
