-- Numbers in pairs: what a comparison of two states must find for one to be the other with other numbers.
-- It need not look at numbers that are free.
use Rattle.std.specs.Prelude.{List, None, Option, Some, length, ℕ, ◌<◌, ◌≡◌}
use Rattle.renumbering.specs.Renumbered.{IsRenumbered}
use Rattle.unixmodel.specs.Files.{slot}
use Rattle.unixmodel.specs.OpenFiles.{OpenFile, Target}
use Rattle.unixmodel.specs.OpenFiles.Target.{OnNode, OnPipe}
use Rattle.unixmodel.specs.Process.{Process}
use Rattle.unixmodel.specs.State.{State}

-- the other number of each number that is in a pair, and the way back
pub record Pairs : Type 0 where
  pub there : List (Option ℕ)
  pub back : List (Option ℕ)

-- both are below a limit, and none is in two pairs
pub record ArePairs (pairs : Pairs) (limit : ℕ) : Type 0 where
  pub first : (k l : ℕ) → slot pairs.there k ≡ Some l → k < limit
  pub second : (k l : ℕ) → slot pairs.there k ≡ Some l → l < limit
  pub forth : (k l : ℕ) → slot pairs.there k ≡ Some l → slot pairs.back l ≡ Some k
  pub back : (k l : ℕ) → slot pairs.back l ≡ Some k → slot pairs.there k ≡ Some l

-- two slots are both free, or hold what fits
abbrev pub BothFit : {X : Type 0} → (X → X → Type 0) → Option X → Option X → Type 0
BothFit Fits None None = Unit {0}
BothFit Fits (Some x) (Some y) = Fits x y
BothFit Fits _ _ = ⊥

-- two lists of slots are as long, and their slots fit one by one
pub record EachFits {X : Type 0} (Fits : X → X → Type 0) (xs ys : List (Option X)) : Type 0 where
  pub size : length ys ≡ length xs
  pub fits : (i : ℕ) → BothFit Fits (slot xs i) (slot ys i)

-- two tables have as many slots, those in a pair fit, and all others are free
pub record TablesFit {X : Type 0} (pairs : Pairs) (Fits : X → X → Type 0) (xs ys : List (Option X)) : Type 0 where
  pub size : length ys ≡ length xs
  pub paired : ArePairs pairs (length xs)
  pub fits : (k l : ℕ) → slot pairs.there k ≡ Some l → BothFit Fits (slot xs k) (slot ys l)
  pub here : (k : ℕ) → slot pairs.there k ≡ None → slot xs k ≡ None
  pub there : (l : ℕ) → slot pairs.back l ≡ None → slot ys l ≡ None

abbrev pub IsPair : Pairs → ℕ → ℕ → Type 0
IsPair pairs k l = slot pairs.there k ≡ Some l

-- two open files are on the same node at the same offset, or on the same end of pipes in a pair
abbrev pub TargetsFit : Pairs → Target → Target → Type 0
TargetsFit pipes (OnNode n offset) other = other ≡ OnNode n offset
TargetsFit pipes (OnPipe q end) other = (r : ℕ) × IsPair pipes q r × (other ≡ OnPipe r end)

-- all else of them is equal
pub record FilesFit (pipes : Pairs) (f g : OpenFile) : Type 0 where
  pub target : TargetsFit pipes f.target g.target
  pub rest : g ≡ record f { target = g.target }

-- the descriptors of two processes name open files in a pair, one by one; all else is equal
pub record ProcessesFit (files : Pairs) (p q : Process) : Type 0 where
  pub descriptors : EachFits (IsPair files) p.descriptors q.descriptors
  pub rest : q ≡ record p { descriptors = q.descriptors }

-- with some pairs of open files and of pipes, two states fit
pub record StatesFit (s t : State) : Type 0 where
  pub files : Pairs
  pub pipes : Pairs
  pub places : EachFits (ProcessesFit files) s.places t.places
  pub open_files : TablesFit files (FilesFit pipes) s.opens t.opens
  pub held : TablesFit pipes (λ bytes more. more ≡ bytes) s.pipes t.pipes
  pub rest : t ≡ record s { places = t.places; opens = t.opens; pipes = t.pipes }

-- then one is the other with other numbers
abbrev pub FittingStatesAreRenumbered : Type 0
FittingStatesAreRenumbered = (s t : State) → StatesFit s t → IsRenumbered s t
