-- The labels of a text, as a map from them to the lines that they name.
use Rattle.std.specs.Prelude.{◌≡◌, Bool, List, None, Option, Some, bytes_eq, if◌then◌else◌, ℕ}
use Rattle.std.specs.Borrow.{Bor}
use Rattle.std.specs.HashMap.{HashMap, get_by}
use Rattle.std.specs.List.{position_from}
use Rattle.std.specs.Option.{option_or}
use Rattle.unixmodel.specs.Assembly.{Placed as ThePlaced, is_labelled}

abbrev pub named : List ℕ → ThePlaced → Bool
named name p = is_labelled name p.line.label

-- the index that a map has of a label
abbrev pub index_of : {S : Type 0} → HashMap (Bor (List ℕ)) ℕ S → List ℕ → Option ℕ
index_of labels name = get_by (λ k. bytes_eq name k.now) labels

-- it has the index of a line for the line's label too, unless it had one
abbrev pub Notes : {S : Type 0} → HashMap (Bor (List ℕ)) ℕ S → HashMap (Bor (List ℕ)) ℕ S → Option (List ℕ) → ℕ → Type 0
Notes old new label index = (name : List ℕ)
    → index_of new name ≡ option_or (index_of old name) (if is_labelled name label then Some index else None)

-- of each label it has the index of the first line with it
abbrev pub Finds : {S : Type 0} → HashMap (Bor (List ℕ)) ℕ S → List ThePlaced → Type 0
Finds labels all = (name : List ℕ) → index_of labels name ≡ position_from (named name) 0 all
