-- What a line means: the first row of the topic's tables whose text stands in it.
use Rattle.std.specs.Prelude.{Bool, List, None, Option, Some, ◌||◌, ◌∷◌, [], if◌then◌else◌, map, nat_eq, ℕ}
use Rattle.std.specs.Borrow.{Bor}
use Rattle.std.specs.List.{ends_with, starts_with}
use Rattle.std.specs.Option.{option_or}
use Rattle.std.specs.Cmp.Lexicographic.{pointwise}
use Rattle.explanations.specs.declared.meanings.TheConstants.{ASSEMBLY, BEGINNINGS, COMMON, ENDS, FILES, IMAGE}
use Rattle.explanations.specs.declared.meanings.TheConstants.{IN_VAIN, MACHINE, MAKING, MIGRATION, PROGRAM}
use Rattle.explanations.specs.declared.meanings.Place.{Place}
use Rattle.explanations.specs.declared.meanings.Place.TheVariants.{Begin, End, Whole, Within}
use Rattle.explanations.specs.declared.meanings.Topic.{Topic}
use Rattle.explanations.specs.declared.meanings.Topic.TheVariants.{Assembly, Files, Image, Machine, Making, Migration}
use Rattle.explanations.specs.declared.meanings.Topic.TheVariants.{Program}

-- a text, and what a line means that has it
abbrev pub Row : Type 0
Row = List ℕ × List ℕ

abbrev pub Text : Type 0
Text = record { now : List ℕ }

abbrev pub written : Text × Text → Row
written row = (row.0.now, row.1.now)

abbrev pub row_of : Bor (List ℕ) × Bor (List ℕ) → Row
row_of row = (row.0.now, row.1.now)

-- whether a text is somewhere in a line
unfoldable pub occurs : List ℕ → List ℕ → Bool
occurs text [] = starts_with nat_eq [] text
occurs text (c ∷ line) = starts_with nat_eq (c ∷ line) text || occurs text line

-- whether a text is in a line, there
abbrev pub stands : Place → List ℕ → List ℕ → Bool
stands Whole text line = pointwise nat_eq line text
stands Begin text line = starts_with nat_eq line text
stands End text line = ends_with nat_eq line text
stands Within text line = occurs text line

-- what the first row says whose text is there
abbrev pub among : Place → List ℕ → List Row → Option (List ℕ)
among place line [] = None
among place line (row ∷ rows) = if stands place row.0 line then Some row.1 else among place line rows

-- the lines of a topic alone, and those that come of an image which is read first
abbrev pub own : Topic → List Row
own Machine = map written MACHINE
own Making = map written MAKING
own Image = []
own Files = map written FILES
own Migration = map written MIGRATION
own Assembly = map written ASSEMBLY
own Program = map written PROGRAM

abbrev pub of_image : Topic → List Row
of_image Machine = map written IMAGE
of_image Making = []
of_image Image = map written IMAGE
of_image Files = map written IMAGE
of_image Migration = map written IMAGE
of_image Assembly = []
of_image Program = []

-- a line that is a whole row of the topic has its meaning; else its beginning has one, its end, or what is within
abbrev pub meaning_of : Topic → List ℕ → Option (List ℕ)
meaning_of topic line = option_or (option_or (option_or (option_or (option_or (among Whole line (own topic))
    (among Whole line (of_image topic))) (among Whole line (map written COMMON)))
    (among Begin line (map written BEGINNINGS))) (among End line (map written ENDS)))
    (among Within line (written IN_VAIN ∷ []))
