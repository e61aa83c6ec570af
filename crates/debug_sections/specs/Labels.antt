-- The symbol table, and the names that it has (ELF-64 Object File Format, "Symbol Table").
use Rattle.std.specs.Prelude.{List, [], length, min, replicate, ℕ, ◌+◌, ◌++◌, ◌-◌, ◌^◌, ◌∷◌}
use Rattle.debug_sections.specs.Bytes.{double, half, small, word}
use Rattle.debug_sections.specs.declared.tables.Label.{Label}

-- an entry: the offset of its name, type 0 (a local label) in section 1, its address, no size
unfoldable pub with_label : List ℕ → Label → ℕ → List ℕ
with_label out label name = out ++ word (small name) ++ half 0 ++ half 1 ++ double label.address ++ double 0

-- where the next name is
abbrev pub name_after : ℕ → ℕ → ℕ
name_after name size = min (min (name + size) (2 ^ 64 - 1) + 1) (2 ^ 64 - 1)

unfoldable pub labels_from : List ℕ → ℕ → List Label → List ℕ
labels_from out name [] = out
labels_from out name (label ∷ labels) =
    labels_from (with_label out label name) (name_after name (length label.name.now)) labels

-- an entry of zeros, and the labels
unfoldable pub with_labels : List ℕ → List Label → List ℕ
with_labels out labels = labels_from (out ++ replicate 24 0) 1 labels

unfoldable pub names_from : List ℕ → List Label → List ℕ
names_from out [] = out
names_from out (label ∷ labels) = names_from (out ++ label.name.now ++ (0 ∷ [])) labels

-- an empty name, and those of the labels
unfoldable pub with_names : List ℕ → List Label → List ℕ
with_names out labels = names_from (out ++ (0 ∷ [])) labels
