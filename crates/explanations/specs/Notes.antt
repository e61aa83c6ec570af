-- The line that is kept.
use Rattle.std.specs.Prelude.{List, min, take, ℕ}

-- the bytes of the last line: that many, up to 256
abbrev pub kept : ℕ → List ℕ → List ℕ
kept count line = take (min count 256) line
