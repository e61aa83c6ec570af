-- What the lines of a text say, one after the other.
use Rattle.std.specs.Prelude.{◌≡◌, ℕ, ◌+◌, ◌<◌, ◌==◌, List, [], ◌∷◌, take, length, ⊤}
use Rattle.std.specs.List.{slice_index_or, slice_split}
use Rattle.events.specs.declared.lines.TextFault.{TextFault}
use Rattle.events.specs.declared.lines.TextFault.TheVariants as fault

-- the lines of a text, each ended by LF except the last
abbrev pub lines_of : List ℕ → List (List ℕ)
lines_of text = slice_split (λ byte. byte == 10) text

-- the items are those that the lines say, in order, where empty lines are passed over
abbrev pub AreSaid : {X : Type 0} → (List ℕ → X → Type 0) → List (List ℕ) → List X → Type 0
AreSaid Says [] items = items ≡ []
AreSaid Says ([] ∷ lines) items = AreSaid Says lines items
AreSaid Says ((x ∷ xs) ∷ lines) items = (item : _) × (rest : List _) × (items ≡ item ∷ rest) × Says (x ∷ xs) item
    × AreSaid Says lines rest

-- the first line that can't be read, counted from 1
pub record IsFirstFault {X : Type 0} (Says : List ℕ → X → Type 0) (lines : List (List ℕ)) (number : ℕ) : Type 0 where
  pub index : ℕ
  pub counted : number ≡ index + 1
  pub within : index < length lines
  pub spoken : 0 < length (slice_index_or lines index [])
  pub none : (item : X) → ¬ (Says (slice_index_or lines index []) item)
  pub before : List X
  pub sound : AreSaid Says (take index lines) before

-- why a text of these lines can't be read: one of its lines can't, or memory ran out
abbrev pub IsFaultOf : {X : Type 0} → (List ℕ → X → Type 0) → List (List ℕ) → TextFault → Type 0
IsFaultOf Says lines (fault.Line number) = IsFirstFault Says lines number
IsFaultOf Says lines fault.NoMemory = ⊤
