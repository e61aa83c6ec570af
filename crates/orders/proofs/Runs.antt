-- How runs of the abstract Unix go on.
use Rattle.std.proofs.Common.{[], ap, append_assoc, append-nil, List, None, Option, refl, Some, subst, sym, true}
use Rattle.std.proofs.Common.{ℕ, ℤ, ◌++◌, ◌∙◌, ◌∷◌, ◌≡◌}
use Rattle.std.specs.Prelude.{is_some}
use Rattle.unixmodel.specs.declared.event.Event.{Event}
use Rattle.unixmodel.specs.Calls.{After, quiet}
use Rattle.unixmodel.specs.Next.{next}
use Rattle.unixmodel.specs.Run.{after_bytes, followed_by, run}
use Rattle.unixmodel.specs.State.{State}

abbrev then_runs : List Event → After → Option ℤ → After
then_runs es a (Some status) = a
then_runs es a None = after_bytes a.bytes (run a.state es)

then-after : (b : List ℕ) (ys : List Event) (a : After) (r : Option ℤ)
    → after_bytes b (then_runs ys a r) ≡ then_runs ys (after_bytes b a) r
then-after b ys a (Some status) = refl
then-after b ys a None =
    ap (λ bs. let q : After = record { state = (run a.state ys).state; bytes = bs } in q)
    (sym (append_assoc b a.bytes (run a.state ys).bytes))

first-step : (xs ys : List Event) (a : After) (r : Option ℤ) → a.state.halted ≡ r
    → (a.state.halted ≡ None → run a.state (xs ++ ys) ≡ then_runs ys (run a.state xs) (run a.state xs).state.halted)
    → followed_by a (λ t. run t (xs ++ ys)) r
    ≡ then_runs ys (followed_by a (λ t. run t xs) r) (followed_by a (λ t. run t xs) r).state.halted
first-step xs ys a (Some status) is rest = rw is refl
first-step xs ys a None is rest = ap (after_bytes a.bytes) (rest is)
    ∙ then-after a.bytes ys (run a.state xs) (run a.state xs).state.halted

run-append : (xs ys : List Event) (s : State) → s.halted ≡ None
    → run s (xs ++ ys) ≡ then_runs ys (run s xs) (run s xs).state.halted
unfolding run
run-append [] ys s up =
    let here : run s ys ≡ then_runs ys (quiet s) None = refl in
    subst (λ (r : Option ℤ). run s ys ≡ then_runs ys (quiet s) r) (sym up) here
run-append (e ∷ xs) ys s up =
    first-step xs ys (next s e) (next s e).state.halted refl (λ h. run-append xs ys (next s e).state h)

-- a run whose first part goes on
pub run-then : (xs ys : List Event) (s : State) → s.halted ≡ None → (run s xs).state.halted ≡ None
    → run s (xs ++ ys) ≡ after_bytes (run s xs).bytes (run (run s xs).state ys)
unfolding run
run-then xs ys s up goes = run-append xs ys s up ∙ rw goes refl

-- one whose first part halts
pub run-over : (xs ys : List Event) (s : State) (status : ℤ) → s.halted ≡ None
    → (run s xs).state.halted ≡ Some status → run s (xs ++ ys) ≡ run s xs
run-over xs ys s status up ended = run-append xs ys s up ∙ ap (then_runs ys (run s xs)) ended

pub run-one : (e : Event) (s : State) (r : Option ℤ) → (next s e).state.halted ≡ r → run s (e ∷ []) ≡ next s e
unfolding run next
run-one e s (Some status) is = rw is refl
run-one e s None is = rw is
    (ap (λ bs. let q : After = record { state = (next s e).state; bytes = bs } in q) (append-nil (next s e).bytes))

-- one more event after a run that goes on
pub run-more : (xs : List Event) (e : Event) (s : State) → s.halted ≡ None → (run s xs).state.halted ≡ None
    → run s (xs ++ e ∷ []) ≡ after_bytes (run s xs).bytes (next (run s xs).state e)
unfolding run
run-more xs e s up goes = run-then xs (e ∷ []) s up goes
    ∙ ap (after_bytes (run s xs).bytes) (run-one e (run s xs).state _ refl)

pub run-none : (s : State) → run s [] ≡ quiet s
unfolding run
run-none s = refl

-- a run whose first event doesn't halt
pub run-goes : (s : State) (e : Event) (es : List Event) → (next s e).state.halted ≡ None
    → run s (e ∷ es) ≡ after_bytes (next s e).bytes (run (next s e).state es)
unfolding run next
run-goes s e es goes = rw goes refl

run-stops-at : (s : State) (e : Event) (es : List Event) (r : Option ℤ) → is_some r ≡ true
    → followed_by (next s e) (λ t. run t es) r ≡ next s e
run-stops-at s e es None ended = absurd cc
run-stops-at s e es (Some status) ended = refl

-- a run whose first event halts
pub run-stops : (s : State) (e : Event) (es : List Event) → is_some (next s e).state.halted ≡ true
    → run s (e ∷ es) ≡ next s e
unfolding run
run-stops s e es ended = run-stops-at s e es (next s e).state.halted ended
