-- A run in which a slot is passed over picks slots that come ever nearer to it.
use Rattle.run_laws.proofs.Common.{All, Event, Key, Step, Tick, State, place_limit, running, cond_some, Files, Process}
use Rattle.run_laws.proofs.Common.{is_running, process_at, IsLeft, Rests}
use Rattle.run_laws.specs.Resting.{IsLetBe}
use Rattle.std.proofs.Common.{◌++◌, ◌<◌, [], ap, arith, false, get_or, length, List, None, Option, refl, Some, subst}
use Rattle.std.proofs.Common.{sym, true, ℕ, ℤ, ◌∙◌, ◌∷◌, ◌≡◌, ◌≢◌}
use Rattle.std.specs.Prelude.{is_some, nat_le, option_and_then, option_to_list, unwrap_or}
use Rattle.unixmodel.specs.Calls.{After}
use Rattle.unixmodel.specs.Counts.{frames_of}
use Rattle.unixmodel.specs.Next.{next}
use Rattle.unixmodel.specs.Run.{followed_by, NoneTwice, PassesOver, picked_by, picked_unless, unless_halted}
use Rattle.unixmodel.specs.Run.{UnlessHalted, IsPassedOver, run, turns}
use Rattle.unixmodel.specs.Turn.{turn}
use Rattle.std.proofs.lemmas.List.Elements.{All-cons, All-nil}
use Rattle.std.proofs.lemmas.List.Kept.{AllPairs-cons}
use Rattle.run_laws.proofs.Events.{next-takes, distance, picked-nearer, turn-place}
use Rattle.run_laws.specs.Waiting.{IsBounded}
use Rattle.unixmodel.specs.Plan.{Plan, plan_flat}
use Rattle.unixmodel.specs.Start.{if_fits, init_plan, start, start_flat}
use Rattle.run_laws.proofs.Others.{rests-then}

-- each of the slots is nearer to slot i than the one before it, and the first nearer than n
unfoldable pub Nears : ℕ → ℕ → List ℕ → Type 0
Nears i n [] = Unit {0}
Nears i n (j ∷ js) = (distance i j < n) × Nears i (distance i j) js

-- a slot that an event picks is found by a turn
pub picked-turn : (s : State) (e : Event) (j : ℕ) → picked_by s e ≡ Some j → turn s ≡ Some j
picked-turn s Step j is = unless (running s) is
  where
    unless : (o : Option ℕ) → picked_unless s o ≡ Some j → turn s ≡ Some j
    unless None is = is
    unless (Some r) is = absurd cc
picked-turn s Tick j is = absurd cc
picked-turn s (Key k) j is = absurd cc

event-nears : (i : ℕ) (s t : State) (o : Option ℕ) (halted : Option ℤ) (rest : State → List ℕ) (Over : State → Type 0)
    → t.last ≡ unwrap_or o s.last
    → s.last < place_limit → i < place_limit → ((j : ℕ) → o ≡ Some j → turn s ≡ Some j) → PassesOver i s o
    → UnlessHalted t Over halted
    → (t.last < place_limit → Over t → Nears i (distance i t.last) (rest t))
    → Nears i (distance i s.last) (option_to_list o ++ unless_halted t rest halted)
unfolding Nears
event-nears i s t None (Some status) rest Over is last place picked over later more = tt
event-nears i s t None None rest Over is last place picked over later more =
    let P : ℕ → Type 0 = λ l. Nears i (distance i l) (rest t) in subst P is (more (omega (arith, is)) later)
event-nears i s t (Some j) (Some status) rest Over is last place picked over later more =
    let near = picked-nearer s i j last place (picked j refl) over.0 over.1 in
    (near.0, tt)
event-nears i s t (Some j) None rest Over is last place picked over later more =
    let near = picked-nearer s i j last place (picked j refl) over.0 over.1 in
    let P : ℕ → Type 0 = λ l. Nears i (distance i l) (rest t) in
    (near.0, subst P is (more (omega (arith, is, near.1)) later))

nears-run : (i : ℕ) (s : State) (events : List Event) → s.last < place_limit → i < place_limit
    → IsPassedOver i s events → Nears i (distance i s.last) (turns s events)
unfolding IsPassedOver Nears turns
nears-run i s [] last place over = tt
nears-run i s (e ∷ events) last place over =
    let t = (next s e).state in
    event-nears i s t (picked_by s e) t.halted (λ u. turns u events) (λ u. IsPassedOver i u events)
    (next-takes s e).last last place (picked-turn s e) over.0 over.1
    (λ inside later. nears-run i t events inside place later)

-- ---- slots that come nearer are different, and few

nearer-all : (i n : ℕ) (js : List ℕ) → Nears i n js → All (λ j. distance i j < n) js
unfolding Nears
nearer-all i n [] nears = All-nil _
nearer-all i n (j ∷ js) nears =
    let near : distance i j < n = nears.0 in
    let rest = nearer-all i (distance i j) js nears.1 in
    All-cons (λ y. distance i y < n) j js near
    (λ k d h. let closer : distance i (get_or js k d) < distance i j = rest k d h in omega (arith, near, closer))

nears-distinct : (i n : ℕ) (js : List ℕ) → Nears i n js → NoneTwice js
unfolding Nears
nears-distinct i n [] nears = λ a b d low high. absurd (omega arith)
nears-distinct i n (j ∷ js) nears =
    let rest = nearer-all i (distance i j) js nears.1 in
    AllPairs-cons (λ x y. x ≢ y) j js (λ k d h e.
    let closer : distance i (get_or js k d) < distance i j = rest k d h in
    let same : distance i j ≡ distance i (get_or js k d) = ap (distance i) e in
    absurd (omega (arith, closer, same)))
    (nears-distinct i (distance i j) js nears.1)

nears-few : (i n : ℕ) (js : List ℕ) → Nears i n js → 0 < n → length js < n
unfolding Nears
nears-few i n [] nears some = some
nears-few i n (j ∷ js) nears some =
    let fewer : length js < distance i j = nears-few i (distance i j) js nears.1 (omega arith) in
    let near : distance i j < n = nears.0 in omega (arith, near, fewer)

pub waits-bounded : (s : State) (i : ℕ) (events : List Event) → s.last < place_limit → i < place_limit
    → IsPassedOver i s events → IsBounded s events
waits-bounded s i events last place over =
    let nears = nears-run i s events last place over in
    let few : length (turns s events) < distance i s.last =
    nears-few i (distance i s.last) (turns s events) nears (omega arith) in
    record { none_twice = nears-distinct i (distance i s.last) (turns s events) nears; few = omega (arith, few) }

-- ---- the slot that was picked last is one of the 64, and a process that is let be stays

-- ---- the slot that was picked last

started : (make : Plan → State) (o : Option Plan) (s : State) → ((new : Plan) → (make new).last ≡ 63)
    → option_and_then (λ new. if_fits (make new)) o ≡ Some s → s.last < place_limit
started make None s last is = absurd cc
started make (Some new) s last is =
    let e : s.last ≡ 63 = ap (λ (u : State). u.last)
    (sym (cond_some (nat_le (frames_of (make new)) (make new).frame_limit) (make new) s is).1)
    ∙ last new in omega arith

pub start-last : (files : Files) (blocks frames : ℕ) (s : State) → start files blocks frames ≡ Some s
    → s.last < place_limit
unfolding start
start-last files blocks frames s is = started _ (init_plan files) s (λ new. refl) is

pub start_flat-last : (bytes : List ℕ) (frames : ℕ) (s : State) → start_flat bytes frames ≡ Some s
    → s.last < place_limit
unfolding start_flat
start_flat-last bytes frames s is = started _ (plan_flat bytes) s (λ new. refl) is

picked-last : (last : ℕ) (o : Option ℕ) → last < place_limit → ((j : ℕ) → o ≡ Some j → j < place_limit)
    → unwrap_or o last < place_limit
picked-last last None old new = old
picked-last last (Some j) old new = new j refl

next-last : (s : State) (e : Event) → s.last < place_limit → (next s e).state.last < place_limit
next-last s e last = subst (λ l. l < place_limit) (sym (next-takes s e).last)
    (picked-last s.last (picked_by s e) last (λ j is. turn-place s j (picked-turn s e j is)))

followed-last : (first : After) (rest : State → After) (halted : Option ℤ) → first.state.last < place_limit
    → (rest first.state).state.last < place_limit
    → (followed_by first rest halted).state.last < place_limit
followed-last first rest (Some status) here later = here
followed-last first rest None here later = later

pub run-last : (s : State) (events : List Event) → s.last < place_limit → (run s events).state.last < place_limit
unfolding run
run-last s [] last = last
run-last s (e ∷ events) last =
    followed-last (next s e) (λ t. run t events) (next s e).state.halted (next-last s e last)
    (run-last (next s e).state events (next-last s e last))

-- ---- a process that is let be

-- what stays of a process is still in its slot
abbrev Stays : Process → State → ℕ → Type 0
Stays p t i = (q : Process) × (process_at t i ≡ Some q) × Rests p q

left-stays : (p : Process) (t : State) (i : ℕ) (o : Option Process) → process_at t i ≡ o → IsLeft p o
    → is_some o ≡ true → Stays p t i
left-stays p t i None at left some = absurd cc
left-stays p t i (Some q) at left some = (q, at, left)

followed-stays : (p q : Process) (i : ℕ) (first : After) (rest : State → After) (Be : State → Type 0)
    (halted : Option ℤ) → process_at first.state i ≡ Some q → Rests p q
    → UnlessHalted first.state Be halted → (Be first.state → Stays q (rest first.state).state i)
    → Stays p (followed_by first rest halted).state i
followed-stays p q i first rest Be (Some status) at rests later more = (q, at, rests)
followed-stays p q i first rest Be None at rests later more =
    let found = more later in (found.0, found.1, rests-then p q found.0 rests found.2)

pub run-stays : (s : State) (i : ℕ) (p : Process) (events : List Event) → process_at s i ≡ Some p
    → is_running p ≡ false → IsLetBe i s events → Stays p (run s events).state i
unfolding run IsLetBe
run-stays s i p [] here still be = (p, here, refl)
run-stays s i p (e ∷ events) here still be =
    let t = (next s e).state in
    let found = left-stays p t i (process_at t i) refl ((next-takes s e).left i p here still be.0) be.1 in
    let q = found.0 in
    followed-stays p q i (next s e) (λ u. run u events) (λ u. IsLetBe i u events) t.halted found.1 found.2 be.2
    (λ later. run-stays t i q events found.1 (ap is_running found.2 ∙ still) later)
