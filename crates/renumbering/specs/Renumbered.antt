-- States that differ in the numbers of open files and pipes alone, and go on alike.
-- No call returns such a number: a program has those of its own descriptors, and the tables of open files and pipes,
-- which all processes share, give the first number that is free.
use Rattle.std.specs.Prelude.{List, Option, Some, is_some, length, map, nat_lt, option_map, true, ℕ, ◌≡◌}
use Rattle.schedules.specs.Schedules.{computes}
use Rattle.unixmodel.specs.declared.event.Event.{Event}
use Rattle.unixmodel.specs.Calls.{After}
use Rattle.unixmodel.specs.Files.{Files, slot}
use Rattle.unixmodel.specs.Next.{next}
use Rattle.unixmodel.specs.OpenFiles.{OpenFile, Target}
use Rattle.unixmodel.specs.OpenFiles.Target.{OnNode, OnPipe}
use Rattle.unixmodel.specs.Process.{Process}
use Rattle.unixmodel.specs.Run.{run}
use Rattle.unixmodel.specs.Start.{start, start_flat}
use Rattle.unixmodel.specs.State.{State, running}
use Rattle.unixmodel.specs.Turn.{ready, turn}

-- ---- other numbers

-- for each number another one, one to one and onto, and the way back
pub record Renumbering : Type 0 where
  pub there : ℕ → ℕ
  pub back : ℕ → ℕ
  pub back_there : (k : ℕ) → back (there k) ≡ k
  pub there_back : (k : ℕ) → there (back k) ≡ k

-- Table ys is table xs with each slot at its other number: it is free there, too, or holds what is made of what it
-- holds here. A number is one of a slot exactly if the other number is.
pub record IsMoved {X : Type 0} (r : Renumbering) (made : X → X) (xs ys : List (Option X)) : Type 0 where
  pub holds : (k : ℕ) → slot ys (r.there k) ≡ option_map made (slot xs k)
  pub slots : (k : ℕ) → nat_lt (r.there k) (length ys) ≡ nat_lt k (length xs)

-- an open file that names its pipe by the other number
abbrev pub target_moved : Renumbering → Target → Target
target_moved r (OnNode n offset) = OnNode n offset
target_moved r (OnPipe q end) = OnPipe (r.there q) end

abbrev pub file_moved : Renumbering → OpenFile → OpenFile
file_moved r f = record f { target = target_moved r f.target }

-- a process whose descriptors name open files by the other numbers
abbrev pub process_moved : Renumbering → Process → Process
process_moved r p = record p { descriptors = map (option_map r.there) p.descriptors }

abbrev pub places_moved : Renumbering → List (Option Process) → List (Option Process)
places_moved r places = map (option_map (process_moved r)) places

-- t is s with other numbers of open files and of pipes, wherever these are; all else is equal
pub record IsRenumbered (s t : State) : Type 0 where
  pub files : Renumbering
  pub pipes : Renumbering
  pub opens_moved : IsMoved files (file_moved pipes) s.opens t.opens
  pub pipes_moved : IsMoved pipes (λ bytes. bytes) s.pipes t.pipes
  pub rest : t ≡ record s { places = places_moved files s.places; opens = t.opens; pipes = t.pipes }

-- ---- what is named is there

-- a slot is taken
abbrev pub IsThere : {X : Type 0} → List (Option X) → ℕ → Type 0
IsThere xs k = is_some (slot xs k) ≡ true

-- what each taken slot holds is so
pub record EachTaken {X : Type 0} (P : X → Type 0) (xs : List (Option X)) : Type 0 where
  pub at : (i : ℕ) (x : X) → slot xs i ≡ Some x → P x

-- the pipe that an open file is on is there, if it is on one
abbrev pub IsOnPipeThere : List (Option (List ℕ)) → Target → Type 0
IsOnPipeThere pipes (OnNode n offset) = Unit {0}
IsOnPipeThere pipes (OnPipe q end) = IsThere pipes q

-- the open files that a process's descriptors name are there
abbrev pub AreOpen : List (Option OpenFile) → Process → Type 0
AreOpen opens p = EachTaken (IsThere opens) p.descriptors

-- each descriptor names an open file that is there, and each open file on a pipe one that is there
pub record NamesAreThere (s : State) : Type 0 where
  pub descriptors : EachTaken (AreOpen s.opens) s.places
  pub pipes : EachTaken (λ (f : OpenFile). IsOnPipeThere s.pipes f.target) s.opens

-- ---- the laws

-- so it is at each start, and after each run
pub record NamesStayThere : Type 0 where
  pub starts : (files : Files) (blocks frames : ℕ) (s : State) → start files blocks frames ≡ Some s → NamesAreThere s
  pub starts_flat : (bytes : List ℕ) (frames : ℕ) (s : State) → start_flat bytes frames ≡ Some s → NamesAreThere s
  pub stays : (s : State) (events : List Event) → NamesAreThere s → NamesAreThere (run s events).state

-- it is an equivalence, and what is named is there in both of two such states
pub record RenumberedIsEquivalence : Type 0 where
  pub reflexive : (s : State) → IsRenumbered s s
  pub symmetric : (s t : State) → IsRenumbered s t → IsRenumbered t s
  pub transitive : (s t u : State) → IsRenumbered s t → IsRenumbered t u → IsRenumbered s u
  pub there : (s t : State) → IsRenumbered s t → NamesAreThere s → NamesAreThere t

-- the same process runs, the same ones are ready, it is the turn of the same one, and the next step computes in both
pub record TurnsAreSame (s t : State) : Type 0 where
  pub who_runs : running s ≡ running t
  pub who_is_ready : (i : ℕ) → ready s i ≡ ready t i
  pub whose_turn : turn s ≡ turn t
  pub who_computes : computes s ≡ computes t

abbrev pub RenumberedTakeTurnsAlike : Type 0
RenumberedTakeTurnsAlike = (s t : State) → NamesAreThere s → IsRenumbered s t → TurnsAreSame s t

-- the same shows of two states, and one is the other with other numbers
pub record AreRenumbered (a b : After) : Type 0 where
  pub bytes : a.bytes ≡ b.bytes
  pub state : IsRenumbered a.state b.state
  pub there : NamesAreThere a.state

-- after an event
abbrev pub EventKeepsRenumbered : Type 0
EventKeepsRenumbered = (s t : State) (e : Event) → NamesAreThere s → IsRenumbered s t
    → AreRenumbered (next s e) (next t e)

-- after a run
abbrev pub RunKeepsRenumbered : Type 0
RunKeepsRenumbered = (s t : State) (events : List Event) → NamesAreThere s → IsRenumbered s t
    → AreRenumbered (run s events) (run t events)
