-- What gdb and its other end know.
use Rattle.std.specs.Prelude.{Bool, List, ℕ, ◌==◌}
use Rattle.std.specs.List.{list_any, slice_split}
use Rattle.std.specs.Str.{bytes_eq}

-- a feature is among those of a text, with `;` between them
abbrev pub has_feature : List ℕ → List ℕ → Bool
has_feature text feature = list_any (λ one. bytes_eq one feature) (slice_split (λ byte. byte == 59) text)
