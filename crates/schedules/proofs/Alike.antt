-- States that are equal except for their clocks go on alike.
use Rattle.std.proofs.Common.{◌++◌, [], ap, arith, Err, false, List, None, Ok, Option, refl, Some, subst}
use Rattle.std.proofs.Common.{sym, true, ℕ, ℤ, ◌%◌, ◌+◌, ◌-◌, ◌<◌, ◌^◌, ◌∙◌, ◌∷◌, ◌≡◌}
use Rattle.std.proofs.Math.ListN.{get_or-map}
use Rattle.std.specs.Prelude.{if◌then◌else◌, nat_le, option_map}
use Rattle.schedules.proofs.Going.{SeenAfter}
use Rattle.schedules.proofs.Turns.{key-in, runs-in, step-in, stopped-in}
use Rattle.schedules.proofs.Views.{IsFair, IsPlain, View, is_over, mode_in, places_in, state_in}
use Rattle.schedules.specs.Alike.{is_sleep, Alike, AreAlike, EventKeepsAlike, HasClock, NeverAsksTime, RunKeepsAlike}
use Rattle.schedules.specs.Alike.{asks, asks_as, asks_at, asks_in, asks_time, mode_set_back, places_set_back}
use Rattle.schedules.specs.Alike.{process_set_back, set_back, state_set_back, timeless}
use Rattle.unixmodel.specs.Calls.{After}
use Rattle.unixmodel.specs.Console.{key}
use Rattle.unixmodel.specs.Meaning.{Effect}
use Rattle.unixmodel.specs.Next.{effect_of, next, step, stopped, tick}
use Rattle.unixmodel.specs.Process.{Process}
use Rattle.unixmodel.specs.ProcessCalls.{sleep_time}
use Rattle.unixmodel.specs.Run.{UnlessHalted, after_bytes, followed_by, run}
use Rattle.unixmodel.specs.State.{State, process_at, running}
use Rattle.unixmodel.specs.declared.call.Call.{Call}
use Rattle.unixmodel.specs.declared.call.Call.TheVariants.{Sleep}
use Rattle.unixmodel.specs.declared.event.Event.{Event}
use Rattle.unixmodel.specs.declared.event.Event.TheVariants.{Key, Step, Tick}
use Rattle.unixmodel.specs.declared.process.Mode.{Mode}
use Rattle.unixmodel.specs.declared.process.Mode.TheVariants.{Ready, Running, Waiting, Zombie}
use Rattle.unixmodel.specs.declared.process.Pending.{Pending}

-- ---- the view of a state whose clock is set back

abbrev back : ℕ → View
back k = record {
  now = k;
  clock = 0;
  since = λ number args since. if is_sleep number then (2 ^ 32 - (k + (2 ^ 32 - since)) % 2 ^ 32) % 2 ^ 32 else 0;
  held = λ i h. h;
}

-- a call that begins now began at 0
began : (number : Call) (k : ℕ) → k < 2 ^ 32
    → (if is_sleep number then (2 ^ 32 - (k + (2 ^ 32 - k)) % 2 ^ 32) % 2 ^ 32 else 0) ≡ 0
began Sleep k clock = omega (arith, clock)
began _ k clock = refl

-- a sleep has lasted as long
pub slept-back : (k : ℕ) (w : Pending) → w.number ≡ Sleep
    → is_over 0 (record w
    { since = if is_sleep w.number then (2 ^ 32 - (k + (2 ^ 32 - w.since)) % 2 ^ 32) % 2 ^ 32 else 0 })
    ≡ is_over k w
slept-back k w sleeps =
    ap (λ number. is_over 0 (record w
    { since = if is_sleep number then (2 ^ 32 - (k + (2 ^ 32 - w.since)) % 2 ^ 32) % 2 ^ 32 else 0 })) sleeps
    ∙ ap (nat_le (sleep_time w)) (omega arith)

back-fair : (k : ℕ) → k < 2 ^ 32 → IsFair (back k)
back-fair k clock = record {
  pages = λ i h. refl;
  begins = λ number args. began number k clock;
  slept = slept-back k;
}

back-plain : (k i : ℕ) → IsPlain (back k) i
back-plain k i = record { is = λ h. refl }

mode-back : (k : ℕ) (m : Mode) → mode_in (back k) m ≡ mode_set_back k m
unfolding set_back
mode-back k Running = refl
mode-back k Ready = refl
mode-back k (Waiting w) = refl
mode-back k (Zombie status) = refl

places-back : (k : ℕ) (ps : List (Option Process)) → places_in (back k) ps ≡ places_set_back k ps
places-back k [] = refl
places-back k (None ∷ ps) = ap (λ qs. None ∷ qs) (places-back k ps)
places-back k (Some p ∷ ps) =
    ap (λ m. Some (record p { mode = m }) ∷ places_in (back k) ps) (mode-back k p.mode)
    ∙ ap (λ qs. Some (process_set_back k p) ∷ qs) (places-back k ps)

state-back : (k : ℕ) (s : State) → state_in (back k) s ≡ state_set_back k s
unfolding state_in state_set_back
state-back k s = ap (λ (ps : List (Option Process)). record s { places = ps; ticks = 0 }) (places-back k s.places)

runs-back : (k : ℕ) (s : State) → running (state_set_back k s) ≡ running s
runs-back k s = ap (λ t. running t) (sym (state-back k s)) ∙ runs-in (back k) s

at-back : (k : ℕ) (s : State) (i : ℕ)
    → process_at (state_set_back k s) i ≡ option_map (process_set_back k) (process_at s i)
unfolding state_set_back
at-back k s i = get_or-map (option_map (process_set_back k)) s.places i None

-- ---- the clock goes on

again-since : (number : Call) (j k since : ℕ)
    → (if is_sleep number
    then (2 ^ 32 - (j + (2 ^ 32 - (if is_sleep number then (2 ^ 32 - (k + (2 ^ 32 - since)) % 2 ^ 32) % 2 ^ 32 else 0)))
    % 2 ^ 32) % 2 ^ 32 else 0)
    ≡ (if is_sleep number then (2 ^ 32 - ((k + j) % 2 ^ 32 + (2 ^ 32 - since)) % 2 ^ 32) % 2 ^ 32 else 0)
again-since Sleep j k since = omega arith
again-since _ j k since = refl

again : (j k : ℕ) (w : Pending) → set_back j (set_back k w) ≡ set_back ((k + j) % 2 ^ 32) w
unfolding set_back
again j k w = ap (λ n. record w { since = n }) (again-since w.number j k w.since)

mode-again : (j k : ℕ) (m : Mode) → mode_set_back j (mode_set_back k m) ≡ mode_set_back ((k + j) % 2 ^ 32) m
mode-again j k Running = refl
mode-again j k Ready = refl
mode-again j k (Waiting w) = ap Waiting (again j k w)
mode-again j k (Zombie status) = refl

places-again : (j k : ℕ) (ps : List (Option Process))
    → places_set_back j (places_set_back k ps) ≡ places_set_back ((k + j) % 2 ^ 32) ps
places-again j k [] = refl
places-again j k (None ∷ ps) = ap (λ qs. None ∷ qs) (places-again j k ps)
places-again j k (Some p ∷ ps) =
    ap (λ m. Some (record p { mode = m }) ∷ places_set_back j (places_set_back k ps)) (mode-again j k p.mode)
    ∙ ap (λ qs. Some (process_set_back ((k + j) % 2 ^ 32) p) ∷ qs) (places-again j k ps)

stopped-back : (k : ℕ) (s : State) (o : Option ℕ) → s.ticks ≡ k
    → stopped (state_set_back k s) o ≡ state_set_back k (stopped s o)
stopped-back k s o time =
    ap (λ t. stopped t o) (sym (state-back k s)) ∙ stopped-in (back k) s o time ∙ state-back k (stopped s o)

ticked : (k : ℕ) (s : State) → s.ticks ≡ k → timeless (tick s) ≡ timeless (tick (state_set_back k s))
unfolding state_set_back
ticked k s time =
    let x = stopped s (running s) in
    ap (λ n. record x { places = places_set_back ((n + 1) % 2 ^ 32) x.places; ticks = 0 }) time
    ∙ sym (ap (λ (ps : List (Option Process)). record x { places = ps; ticks = 0 }) (places-again 1 k x.places))
    ∙ sym (ap (λ (t : State). timeless (record t { ticks = 1 }))
    (ap (stopped (state_set_back k s)) (runs-back k s) ∙ stopped-back k s (running s) time))

-- ---- events

-- the clock of a state after an event is set back once more where the event is a tick
abbrev set_anew : Event → State → State
set_anew Step s = s
set_anew Tick s = timeless s
set_anew (Key k) s = s

-- an event shows the same of a state whose clock is set back, and leads to a state whose clock is
record Lands (e : Event) (a b : After) : Type 0 where
  bytes : b.bytes ≡ a.bytes
  state : timeless a.state ≡ set_anew e b.state
  clock : HasClock a.state

lands-back : (e : Event) (k : ℕ) (a b : After) → k < 2 ^ 32 → ((s : State) → set_anew e s ≡ s) → SeenAfter (back k) a b
    → Lands e a b
lands-back e k a b clock stays seen = record {
  bytes = seen.bytes;
  state = ap (λ n. state_set_back n a.state) seen.state.time ∙ sym (state-back k a.state) ∙ sym seen.state.is
      ∙ sym (stays b.state);
  clock = subst (λ n. n < 2 ^ 32) (sym seen.state.time) clock;
}

-- the step of a process that doesn't ask for the time
step-back : (k : ℕ) (s : State) → s.ticks ≡ k → k < 2 ^ 32 → asks_at s (running s) ≡ false
    → SeenAfter (back k) (step s (running s)) (step (state_in (back k) s) (running (state_in (back k) s)))
step-back k s time clock other =
    subst (λ o. SeenAfter (back k) (step s (running s)) (step (state_in (back k) s) o)) (sym (runs-in (back k) s))
    (step-in (back k) s (running s) (back-fair k clock) time (λ i acts. back-plain k i)
    (record { free = λ i free. back-plain k i })
    (λ asked. absurd (let both : false ≡ true = sym other ∙ asked in cc)))

lands-seen : (s : State) (e : Event) → HasClock s → asks_time s e ≡ false
    → Lands e (next s e) (next (state_in (back s.ticks) s) e)
unfolding next asks_time state_in
lands-seen s Step clock other = lands-back Step s.ticks _ _ clock (λ s. refl) (step-back s.ticks s refl clock other)
lands-seen s Tick clock other = record {
  bytes = refl;
  state = ticked s.ticks s refl ∙ sym (ap (λ t. timeless (tick t)) (state-back s.ticks s));
  clock = omega arith;
}
lands-seen s (Key k) clock other =
    lands-back (Key k) s.ticks _ _ clock (λ s. refl) (key-in (back s.ticks) s (key s.console k) refl)

lands : (s : State) (e : Event) → HasClock s → asks_time s e ≡ false → Lands e (next s e) (next (timeless s) e)
lands s e clock other =
    subst (λ t. Lands e (next s e) (next t e)) (state-back s.ticks s) (lands-seen s e clock other)

-- ---- who asks for the time

asks-in-back : (k : ℕ) (o : Option Process) → asks_in (option_map (process_set_back k) o) ≡ asks_in o
unfolding asks effect_of
asks-in-back k None = refl
asks-in-back k (Some p) = same (effect_of p)
  where
    same : (d : Effect) → asks_as (process_set_back k p) d ≡ asks_as p d
    same (Ok d) = refl
    same (Err t) = refl

asks-at-back : (k : ℕ) (s : State) (o : Option ℕ) → asks_at (state_set_back k s) o ≡ asks_at s o
asks-at-back k s None = refl
asks-at-back k s (Some i) = ap asks_in (at-back k s i) ∙ asks-in-back k (process_at s i)

asks-back : (k : ℕ) (s : State) (e : Event) → asks_time (state_set_back k s) e ≡ asks_time s e
unfolding asks_time
asks-back k s Step = ap (asks_at (state_set_back k s)) (runs-back k s) ∙ asks-at-back k s (running s)
asks-back k s Tick = refl
asks-back k s (Key b) = refl

-- ---- the law

pub event-alike : EventKeepsAlike
event-alike s t e first second alike other =
    let here = lands s e first other in
    let asked : asks_time t e ≡ false = sym (asks-back t.ticks t e) ∙ sym (ap (λ u. asks_time u e) alike)
    ∙ asks-back s.ticks s e ∙ other in
    let there = lands t e second asked in
    record {
      bytes = sym here.bytes ∙ ap (λ u. (next u e).bytes) alike ∙ there.bytes;
      alike = here.state ∙ ap (λ u. set_anew e (next u e).state) alike ∙ sym there.state;
      first = here.clock;
      second = there.clock;
    }

followed-alike : (a b : After) (rest : State → After) (Never : State → Type 0) (h u : Option ℤ) → u ≡ h → AreAlike a b
    → UnlessHalted a.state Never h
    → (Never a.state → AreAlike (rest a.state) (rest b.state))
    → AreAlike (followed_by a rest h) (followed_by b rest u)
followed-alike a b rest Never (Some status) u same alike never more =
    subst (λ o. AreAlike a (followed_by b rest o)) (sym same) alike
followed-alike a b rest Never None u same alike never more =
    let later = more never in
    subst (λ o. AreAlike (after_bytes a.bytes (rest a.state)) (followed_by b rest o)) (sym same) (record {
      bytes = ap (λ x. x ++ (rest a.state).bytes) alike.bytes ∙ ap (λ x. b.bytes ++ x) later.bytes;
      alike = later.alike;
      first = later.first;
      second = later.second;
    })

halted-alike : (s t : State) → Alike s t → t.halted ≡ s.halted
unfolding state_set_back
halted-alike s t alike = sym (ap (λ (u : State). u.halted) alike)

pub run-alike : RunKeepsAlike
unfolding run NeverAsksTime
run-alike s t [] first second alike never = record { bytes = refl; alike = alike; first = first; second = second }
run-alike s t (e ∷ events) first second alike never =
    let one = event-alike s t e first second alike never.0 in
    followed-alike (next s e) (next t e) (λ u. run u events) (λ u. NeverAsksTime u events) (next s e).state.halted
    (next t e).state.halted (halted-alike (next s e).state (next t e).state one.alike) one never.1
    (λ later. run-alike (next s e).state (next t e).state events one.first one.second one.alike later)
