-- What stays of a process while it isn't picked.
use Rattle.std.specs.Prelude.{IsTrue, List, None, Option, Some, [], false, is_some, true, ℕ, ⊤, ◌∷◌, ◌≡◌, ◌≢◌}
use Rattle.unixmodel.specs.declared.event.Event.{Event}
use Rattle.unixmodel.specs.Next.{next}
use Rattle.unixmodel.specs.Process.{Process, is_running, is_zombie}
use Rattle.unixmodel.specs.Run.{UnlessHalted, picked_by, run}
use Rattle.unixmodel.specs.State.{State, process_at}

-- all of a process stays, with its registers, pc, size and pages, except its parent, which may end, and the mark of a
-- kill
abbrev pub Rests : Process → Process → Type 0
Rests p q = q ≡ record p { parent = q.parent; killed = q.killed }

-- what an event leaves in a process's slot: the process, or nothing where it was waited for as a zombie
abbrev pub IsLeft : Process → Option Process → Type 0
IsLeft p None = is_zombie p ≡ true
IsLeft p (Some q) = Rests p q

-- for each process that doesn't run, and each event that doesn't pick it
abbrev pub LeavesResting : Type 0
LeavesResting = (s : State) (i : ℕ) (p : Process) (e : Event) → process_at s i ≡ Some p → is_running p ≡ false
    → picked_by s e ≢ Some i
    → IsLeft p (process_at (next s e).state i)

-- no event of the run, which ends where it halts, picks the process in slot i or takes it away
unfoldable pub IsLetBe : ℕ → State → List Event → Type 0
IsLetBe i s [] = ⊤
IsLetBe i s (e ∷ es) =
    (picked_by s e ≢ Some i) × IsTrue (is_some (process_at (next s e).state i))
    × UnlessHalted (next s e).state (λ t. IsLetBe i t es) (next s e).state.halted

abbrev pub KeepsResting : Type 0
KeepsResting = (s : State) (i : ℕ) (p : Process) (events : List Event) → process_at s i ≡ Some p → is_running p ≡ false
    → IsLetBe i s events
    → (q : Process) × (process_at (run s events).state i ≡ Some q) × Rests p q
