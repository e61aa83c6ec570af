-- Names of files, of which no two are the same.
use Rattle.std.specs.Prelude.{IfSome, List, ℕ, drop, get_or, length, ◌+◌, ◌<◌, ◌≢◌}
use Rattle.std.specs.List.{All}
use Rattle.commandline.specs.Names.{Name}

-- there is no other name, or it is not this one
abbrev pub IsOther : List ℕ → Name → Type 0
IsOther name other = IfSome other (λ word. name ≢ word.now)

-- none of these is this name
abbrev pub IsApart : List ℕ → List Name → Type 0
IsApart name others = All (IsOther name) others

-- the output at this index has not the name of a later one, or of one of the others
abbrev pub IsApartAt : List Name → List Name → ℕ → Name → Type 0
IsApartAt outputs others i default =
    IfSome (get_or outputs i default) (λ word. IsApart word.now (drop (i + 1) outputs) × IsApart word.now others)

-- so is each output
abbrev pub AreApart : List Name → List Name → Type 0
AreApart outputs others = (i : ℕ) (default : Name) → i < length outputs → IsApartAt outputs others i default
