-- A step that computes, and an interrupt after it.
use Rattle.std.proofs.Common.{[], ap, Bool, cond, Err, length, List, nat_lt, None, Ok, Option, refl, Some, suc, sym}
use Rattle.std.proofs.Common.{true, zero, ℕ, ◌%◌, ◌+◌, ◌^◌, ◌∙◌, ◌≡◌, ◌∷◌}
use Rattle.std.proofs.Math.ListN.{get_or, set}
use Rattle.std.proofs.lemmas.List.{length-set}
use Rattle.std.proofs.lemmas.List.Folds.{position_or_len-set}
use Rattle.std.specs.List.{position_or_len}
use Rattle.std.specs.Prelude.{option_map, position, slice_set}
use Rattle.schedules.specs.Schedules.{StepIsPrivate, TickPasses, TickPassesAll, after_steps, computed, computed_for}
use Rattle.schedules.specs.Schedules.{computes, computes_as, computes_in, done_by, is_done}
use Rattle.unixmodel.specs.Calls.{After, quiet}
use Rattle.unixmodel.specs.Meaning.{Effect}
use Rattle.unixmodel.specs.Next.{acted, effect_of, execute, execute_at, next, step, stopped, tick}
use Rattle.unixmodel.specs.Process.{Process, is_running, is_running_mode, with_mode}
use Rattle.unixmodel.specs.State.{State, change_process, holds, process_at, running}
use Rattle.unixmodel.specs.declared.process.Mode.{Mode}
use Rattle.unixmodel.specs.declared.process.Mode.TheVariants.{Ready}
use Rattle.unixmodel.specs.Files.{slot}
use Rattle.unixmodel.specs.declared.event.Event.TheVariants.{Step, Tick}
use native.Mathlib.Omega.{arith}

done-private : (s : State) (i : ℕ) (p : Process) (d : Effect) → effect_of p ≡ d → process_at s i ≡ Some p
    → is_done d ≡ true
    → execute s i p ≡ quiet (change_process s i computed)
unfolding execute computed
done-private s i p (Ok c) is at done =
    ap (acted s i p) is
    ∙ ap (λ (o : Option Process). quiet (record s { places = slice_set s.places i o }))
    (sym (ap (option_map computed) at ∙ ap (λ (d : Effect). Some (done_by p d)) is))
done-private s i p (Err t) is at done = absurd cc

at-private : (s : State) (i : ℕ) (o : Option Process) → process_at s i ≡ o → computes_as o ≡ true
    → execute_at s i o ≡ quiet (change_process s i computed)
at-private s i None is done = absurd cc
at-private s i (Some p) is done = done-private s i p (effect_of p) refl is done

pub step-private : StepIsPrivate
unfolding next computes
step-private s i runs done = ap (step s) runs
    ∙ at-private s i (process_at s i) refl (sym (ap (computes_in s) runs) ∙ done)

-- what a process computes does not look at its mode, and leaves it
done-mode : (m : Mode) (p : Process) (d : Effect) → done_by (with_mode m p) d ≡ with_mode m (done_by p d)
done-mode m p (Ok c) = refl
done-mode m p (Err t) = refl

pub local-mode : (m : Mode) (p : Process) → computed (with_mode m p) ≡ with_mode m (computed p)
unfolding computed effect_of
local-mode m p = done-mode m p (effect_of p)

kept-mode : (p : Process) (d : Effect) → (done_by p d).mode ≡ p.mode
kept-mode p (Ok c) = refl
kept-mode p (Err t) = refl

pub local-keeps : (p : Process) → (computed p).mode ≡ p.mode
unfolding computed
local-keeps p = kept-mode p (effect_of p)

-- ---- an interrupt

option-both : (f g : Process → Process) → ((p : Process) → f (g p) ≡ g (f p)) → (o : Option Process)
    → option_map g (option_map f o) ≡ option_map f (option_map g o)
option-both f g commute None = refl
option-both f g commute (Some p) = ap Some (sym (commute p))

-- a list with one of its processes changed
abbrev pub changed : (Process → Process) → ℕ → List (Option Process) → List (Option Process)
changed f i ps = slice_set ps i (option_map f (slot ps i))

changed-both : (f g : Process → Process) → ((p : Process) → f (g p) ≡ g (f p)) → (i : ℕ) (ps : List (Option Process))
    → changed g i (changed f i ps) ≡ changed f i (changed g i ps)
changed-both f g commute i [] = refl
changed-both f g commute zero (o ∷ ps) = ap (λ x. x ∷ ps) (option-both f g commute o)
changed-both f g commute (suc i) (o ∷ ps) = ap (λ xs. o ∷ xs) (changed-both f g commute i ps)

runs-still : (o : Option Process) → holds is_running (option_map computed o) ≡ holds is_running o
runs-still None = refl
runs-still (Some p) = ap is_running_mode (local-keeps p)

position-set : {X : Type 0} (p : X → Bool) (xs : List X) (i : ℕ) (y d : X) → p y ≡ p (get_or xs i d)
    → position p (set xs i y) ≡ position p xs
position-set p xs i y d same =
    ap (λ n. cond (nat_lt n (length (set xs i y))) (Some n) None) (position_or_len-set p xs i y d same)
    ∙ ap (λ n. cond (nat_lt (position_or_len p xs) n) (Some (position_or_len p xs)) None) (length-set xs i y)

pub running-stays : (s : State) (i : ℕ) → running (change_process s i computed) ≡ running s
running-stays s i = position-set (holds is_running) s.places i (option_map computed (slot s.places i)) None
    (runs-still (slot s.places i))

tick-at : (s : State) (i : ℕ) → running s ≡ Some i
    → tick s ≡ record (change_process s i (with_mode Ready)) { ticks = (s.ticks + 1) % 2 ^ 32 }
tick-at s i runs = ap (λ (o : Option ℕ). record (stopped s o) { ticks = (s.ticks + 1) % 2 ^ 32 }) runs

pub tick-passes : TickPasses
unfolding next
tick-passes s i runs done =
    ap (λ (a : After). quiet (tick a.state)) (step-private s i runs done)
    ∙ ap quiet (tick-at (change_process s i computed) i (running-stays s i ∙ runs))
    ∙ ap (λ (ps : List (Option Process)). quiet (record s { places = ps; ticks = (s.ticks + 1) % 2 ^ 32 }))
    (changed-both computed (with_mode Ready) (local-mode Ready) i s.places)
    ∙ ap (λ (t : State). quiet (change_process t i computed)) (sym (tick-at s i runs))

-- ---- an interrupt after many steps

-- a process that nothing is done to
left-alone : (ps : List (Option Process)) (i : ℕ) → changed (computed_for zero) i ps ≡ ps
unfolding computed_for
left-alone [] i = refl
left-alone (None ∷ ps) zero = refl
left-alone (Some p ∷ ps) zero = refl
left-alone (o ∷ ps) (suc i) = ap (λ xs. o ∷ xs) (left-alone ps i)

-- one instruction, and n more
changed-again : (n : ℕ) (ps : List (Option Process)) (i : ℕ)
    → changed (computed_for n) i (changed computed i ps) ≡ changed (computed_for (suc n)) i ps
unfolding computed_for
changed-again n [] i = refl
changed-again n (None ∷ ps) zero = refl
changed-again n (Some p ∷ ps) zero = refl
changed-again n (o ∷ ps) (suc i) = ap (λ xs. o ∷ xs) (changed-again n ps i)

-- an interrupt prints nothing
first-tick : (s : State) (i : ℕ) → next s Tick ≡ quiet (next s Tick).state
unfolding next
first-tick s i = refl

pub tick-passes-all : TickPassesAll
unfolding after_steps
tick-passes-all zero s i runs all = first-tick s i
    ∙ ap (λ (ps : List (Option Process)). quiet (record (next s Tick).state { places = ps }))
    (sym (left-alone (next s Tick).state.places i))
tick-passes-all (suc n) s i runs all =
    let one = ap (λ (a : After). a.state) (step-private s i runs (all zero (omega arith))) in
    let still : running (next s Step).state ≡ Some i = ap (λ (t : State). running t) one ∙ running-stays s i ∙ runs in
    tick-passes-all n (next s Step).state i still (λ k lt. all (suc k) (omega (arith, lt)))
    ∙ ap (λ (a : After). quiet (change_process a.state i (computed_for n)))
    (tick-passes s i runs (all zero (omega arith)))
    ∙ ap (λ (ps : List (Option Process)). quiet (record (next s Tick).state { places = ps }))
    (changed-again n (next s Tick).state.places i)
