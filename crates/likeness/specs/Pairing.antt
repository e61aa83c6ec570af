-- Numbers of two kernels that a comparison puts in pairs, one pair after the other.
use Rattle.std.specs.Prelude.{List, Option, option_and_then, ℕ, ◌≡◌}
use Rattle.likeness.specs.declared.pairs.Pairs as code
use Rattle.renumbering.specs.Pairs.{ArePairs, BothFit, EachFits, FilesFit, IsPair, Pairs, ProcessesFit, TablesFit}
use Rattle.schedules.specs.Alike.{timeless}
use Rattle.unixmodel.specs.Files.{slot}
use Rattle.unixmodel.specs.State.{State}

abbrev pub pairs_of : code.Pairs → Pairs
pairs_of p = record { there = p.there; back = p.back }

-- old pairs stay, and none that came has a number of another
pub record Grows (old new : code.Pairs) : Type 0 where
  pub stay : (k l : ℕ) → IsPair (pairs_of old) k l → IsPair (pairs_of new) k l
  pub paired : ArePairs (pairs_of old) 100 → ArePairs (pairs_of new) 100

-- what number k has in one table fits what its other number has in the other; both are free where it has none
abbrev pub FitsAt : {X : Type 0} → Pairs → (X → X → Type 0) → List (Option X) → List (Option X) → ℕ → Type 0
FitsAt pairs Fits xs ys k = BothFit Fits (slot xs k) (option_and_then (slot ys) (slot pairs.there k))

-- pipes in a pair hold the same bytes
abbrev pub IsSame : List ℕ → List ℕ → Type 0
IsSame bytes more = more ≡ bytes

-- with some pairs of open files and of pipes, all of two states fits that names them
pub record HavePairs (s t : State) : Type 0 where
  pub files : Pairs
  pub pipes : Pairs
  pub places : EachFits (ProcessesFit files) (timeless s).places (timeless t).places
  pub open_files : TablesFit files (FilesFit pipes) s.opens t.opens
  pub held : TablesFit pipes IsSame s.pipes t.pipes
