-- An event at a state in which each sleep that is over has just come to its end leads to such a state.
use Rattle.std.proofs.Common.{[], ap, arith, Err, List, None, Ok, Option, refl, Some, subst, suc, sym}
use Rattle.std.proofs.Common.{ℕ, ◌%◌, ◌+◌, ◌<◌, ◌^◌, ◌∙◌, ◌∷◌, ◌≡◌}
use Rattle.std.proofs.Math.ListN.{get_or-map}
use Rattle.std.specs.Prelude.{nat_le, option_map}
use Rattle.lateness.proofs.Lasting.{AllWithin, within-stopped}
use Rattle.lateness.proofs.Numbers.{asked, lasted, settled-again, settled-back, settled-late, settled-now}
use Rattle.lateness.proofs.Numbers.{settled-over, settled_since}
use Rattle.lateness.specs.Late.{IsLate, IsOverIn, LastsWithin, SleepsWithin, mode_settled, places_settled}
use Rattle.lateness.specs.Late.{process_settled, settled, state_settled}
use Rattle.schedules.proofs.Going.{SeenAfter}
use Rattle.schedules.proofs.Ticks.{idle-tick}
use Rattle.schedules.proofs.Turns.{key-in, runs-in, step-in, stopped-in, turn-in}
use Rattle.schedules.proofs.Views.{IsFair, IsPlain, View, is_over, mode_in, pending_in, places_in, state_in}
use Rattle.schedules.specs.Alike.{HasClock, asks, asks_as, asks_at, asks_in, asks_time, mode_set_back}
use Rattle.schedules.specs.Alike.{places_set_back, process_set_back, set_back, state_set_back, timeless}
use Rattle.schedules.specs.Schedules.{computes, computes_as, computes_in}
use Rattle.unixmodel.specs.Calls.{After}
use Rattle.unixmodel.specs.Console.{key}
use Rattle.unixmodel.specs.Files.{slot}
use Rattle.unixmodel.specs.Meaning.{Effect}
use Rattle.unixmodel.specs.Next.{effect_of, next, step, stopped, tick, typed}
use Rattle.unixmodel.specs.Process.{Process}
use Rattle.unixmodel.specs.ProcessCalls.{sleep_time}
use Rattle.unixmodel.specs.State.{State, process_at, running}
use Rattle.unixmodel.specs.Turn.{turn}
use Rattle.unixmodel.specs.declared.call.Call.TheVariants.{Sleep}
use Rattle.unixmodel.specs.declared.event.Event.{Event}
use Rattle.unixmodel.specs.declared.event.Event.TheVariants.{Key, Step, Tick}
use Rattle.unixmodel.specs.declared.process.Mode.{Mode}
use Rattle.unixmodel.specs.declared.process.Mode.TheVariants.{Ready, Running, Waiting, Zombie}
use Rattle.unixmodel.specs.declared.process.Pending.{Pending}

-- ---- its view

abbrev settling : ℕ → View
settling k = record {
  now = k;
  clock = k;
  since = λ number args since. settled_since number k (asked args) since;
  held = λ i h. h;
}

over-settling : (k : ℕ) (w : Pending) → w.number ≡ Sleep → is_over k (pending_in (settling k) w) ≡ is_over k w
over-settling k w sleeps =
    ap (λ number. nat_le (sleep_time w) (lasted k (settled_since number k (asked w.args) w.since))) sleeps
    ∙ settled-over k (asked w.args) w.since

settling-fair : (k : ℕ) → k < 2 ^ 32 → IsFair (settling k)
settling-fair k clock = record {
  pages = λ i h. refl;
  begins = λ number args. settled-now number k (asked args) clock;
  slept = over-settling k;
}

settling-plain : (k i : ℕ) → IsPlain (settling k) i
settling-plain k i = record { is = λ h. refl }

mode-settling : (k : ℕ) (m : Mode) → mode_in (settling k) m ≡ mode_settled k m
unfolding settled
mode-settling k Running = refl
mode-settling k Ready = refl
mode-settling k (Waiting w) = refl
mode-settling k (Zombie status) = refl

places-settling : (k : ℕ) (ps : List (Option Process)) → places_in (settling k) ps ≡ places_settled k ps
places-settling k [] = refl
places-settling k (None ∷ ps) = ap (λ qs. None ∷ qs) (places-settling k ps)
places-settling k (Some p ∷ ps) =
    ap (λ m. Some (record p { mode = m }) ∷ places_in (settling k) ps) (mode-settling k p.mode)
    ∙ ap (λ qs. Some (process_settled k p) ∷ qs) (places-settling k ps)

state-settling : (s : State) → state_in (settling s.ticks) s ≡ state_settled s
unfolding state_in state_settled
state-settling s = ap (λ (ps : List (Option Process)). record s { places = ps }) (places-settling s.ticks s.places)

-- ---- who runs, whose turn it is, and who asks for the time

pub settled-runs : (s : State) → running (state_settled s) ≡ running s
settled-runs s = ap (λ t. running t) (sym (state-settling s)) ∙ runs-in (settling s.ticks) s

pub settled-turn : (s : State) → HasClock s → turn (state_settled s) ≡ turn s
settled-turn s clock =
    ap (λ t. turn t) (sym (state-settling s)) ∙ turn-in (settling s.ticks) s (settling-fair s.ticks clock) refl

settled-computes-as : (k : ℕ) (o : Option Process) → computes_as (option_map (process_settled k) o) ≡ computes_as o
unfolding effect_of
settled-computes-as k None = refl
settled-computes-as k (Some p) = refl

settled-computes-in : (s : State) (o : Option ℕ) → computes_in (state_settled s) o ≡ computes_in s o
unfolding state_settled
settled-computes-in s None = refl
settled-computes-in s (Some i) =
    ap computes_as (get_or-map (option_map (process_settled s.ticks)) s.places i None)
    ∙ settled-computes-as s.ticks (process_at s i)

pub settled-computes : (s : State) → computes (state_settled s) ≡ computes s
unfolding computes
settled-computes s = ap (computes_in (state_settled s)) (settled-runs s) ∙ settled-computes-in s (running s)

settled-asks-in : (k : ℕ) (o : Option Process) → asks_in (option_map (process_settled k) o) ≡ asks_in o
unfolding asks effect_of
settled-asks-in k None = refl
settled-asks-in k (Some p) = same (effect_of p)
  where
    same : (d : Effect) → asks_as (process_settled k p) d ≡ asks_as p d
    same (Ok d) = refl
    same (Err t) = refl

settled-asks-at : (s : State) (o : Option ℕ) → asks_at (state_settled s) o ≡ asks_at s o
unfolding state_settled
settled-asks-at s None = refl
settled-asks-at s (Some i) =
    ap asks_in (get_or-map (option_map (process_settled s.ticks)) s.places i None)
    ∙ settled-asks-in s.ticks (process_at s i)

pub settled-asks : (s : State) (e : Event) → asks_time (state_settled s) e ≡ asks_time s e
unfolding asks_time
settled-asks s Step = ap (asks_at (state_settled s)) (settled-runs s) ∙ settled-asks-at s (running s)
settled-asks s Tick = refl
settled-asks s (Key b) = refl

pub settled-clock : (s : State) → HasClock s → HasClock (state_settled s)
unfolding state_settled
settled-clock s clock = clock

pub settled-halted : (s : State) → (state_settled s).halted ≡ s.halted
unfolding state_settled
settled-halted s = refl

pub settled-files : (s : State) → (state_settled s).files ≡ s.files
unfolding state_settled
settled-files s = refl

-- ---- steps and keys

-- the same is printed, and each sleep that is over after it has just come to its end
pub record Settles (a b : After) : Type 0 where
  pub bytes : a.bytes ≡ b.bytes
  pub state : state_settled a.state ≡ b.state

settles-seen : (k : ℕ) (a b : After) → SeenAfter (settling k) a b → Settles a b
settles-seen k a b seen = record {
  bytes = sym seen.bytes;
  state = sym (state-settling a.state) ∙ ap (λ j. state_in (settling j) a.state) seen.state.time ∙ sym seen.state.is;
}

pub step-settles : (s : State) → HasClock s → Settles (next s Step) (next (state_settled s) Step)
unfolding next
step-settles s clock =
    let v = settling s.ticks in
    subst (λ (t : State). Settles (step s (running s)) (step t (running t))) (state-settling s)
    (subst (λ o. Settles (step s (running s)) (step (state_in v s) o)) (sym (runs-in v s))
    (settles-seen s.ticks (step s (running s)) (step (state_in v s) (running s))
    (step-in v s (running s) (settling-fair s.ticks clock) refl (λ i acts. settling-plain s.ticks i)
    (record { free = λ i free. settling-plain s.ticks i }) (λ asked. refl))))

pub key-settles : (s : State) (b : ℕ) → Settles (next s (Key b)) (next (state_settled s) (Key b))
unfolding next state_in
key-settles s b =
    let v = settling s.ticks in
    subst (λ (t : State). Settles (typed s (key s.console b)) (typed t (key t.console b))) (state-settling s)
    (settles-seen s.ticks (typed s (key s.console b)) (typed (state_in v s) (key s.console b))
    (key-in v s (key s.console b) refl))

-- ---- ticks

mode-again : (n k : ℕ) (m : Mode) → n + 1 < 2 ^ 32 → LastsWithin n k m
    → mode_settled ((k + 1) % 2 ^ 32) (mode_in (settling k) m) ≡ mode_settled ((k + 1) % 2 ^ 32) m
unfolding settled
mode-again n k Running short within = refl
mode-again n k Ready short within = refl
mode-again n k (Waiting w) short within =
    ap (λ since. Waiting (record w { since = since })) (settled-again w.number k (asked w.args) w.since
    (λ sleeps. let less = within sleeps in omega (arith, less, short)))
mode-again n k (Zombie status) short within = refl

places-again : (n k : ℕ) (ps : List (Option Process)) → n + 1 < 2 ^ 32 → AllWithin n k ps
    → places_settled ((k + 1) % 2 ^ 32) (places_in (settling k) ps) ≡ places_settled ((k + 1) % 2 ^ 32) ps
places-again n k [] short within = refl
places-again n k (None ∷ ps) short within =
    ap (λ qs. None ∷ qs) (places-again n k ps short (λ i p at. within (suc i) p at))
places-again n k (Some p ∷ ps) short within =
    ap (λ m. Some (record p { mode = m }) ∷ places_settled ((k + 1) % 2 ^ 32) (places_in (settling k) ps))
    (mode-again n k p.mode short (within 0 p refl))
    ∙ ap (λ qs. Some (process_settled ((k + 1) % 2 ^ 32) p) ∷ qs)
    (places-again n k ps short (λ i p at. within (suc i) p at))

pub tick-settles : (n : ℕ) (s : State) → n + 1 < 2 ^ 32 → SleepsWithin n s
    → state_settled (tick (state_settled s)) ≡ state_settled (tick s)
unfolding state_in state_settled
tick-settles n s short within =
    let v = settling s.ticks in
    let x = stopped s (running s) in
    let stop : stopped (state_settled s) (running (state_settled s)) ≡ state_in v x =
    ap (stopped (state_settled s)) (settled-runs s) ∙ ap (λ t. stopped t (running s)) (sym (state-settling s))
    ∙ stopped-in v s (running s) refl in
    ap (λ (t : State). state_settled (record t { ticks = (s.ticks + 1) % 2 ^ 32 })) stop
    ∙ ap (λ (ps : List (Option Process)). record x { places = ps; ticks = (s.ticks + 1) % 2 ^ 32 })
    (places-again n s.ticks x.places short (within-stopped n s (running s) within))

-- ---- clocks that are set back

mode-back : (k : ℕ) (m : Mode)
    → mode_set_back k (mode_settled k m) ≡ mode_set_back 0 (mode_settled 0 (mode_set_back k m))
unfolding settled set_back
mode-back k Running = refl
mode-back k Ready = refl
mode-back k (Waiting w) =
    ap (λ since. Waiting (record w { since = since })) (settled-back w.number k (asked w.args) w.since)
mode-back k (Zombie status) = refl

places-back : (k : ℕ) (ps : List (Option Process))
    → places_set_back k (places_settled k ps) ≡ places_set_back 0 (places_settled 0 (places_set_back k ps))
places-back k [] = refl
places-back k (None ∷ ps) = ap (λ qs. None ∷ qs) (places-back k ps)
places-back k (Some p ∷ ps) =
    ap (λ m. Some (record p { mode = m }) ∷ places_set_back k (places_settled k ps)) (mode-back k p.mode)
    ∙ ap (λ qs. Some (process_set_back 0 (process_settled 0 (process_set_back k p))) ∷ qs) (places-back k ps)

settled-timeless : (s : State) → timeless (state_settled s) ≡ timeless (state_settled (timeless s))
unfolding state_settled state_set_back
settled-timeless s =
    ap (λ (ps : List (Option Process)). record s { places = ps; ticks = 0 }) (places-back s.ticks s.places)

-- states that are alike are so with sleeps settled
pub settled-alike : (s t : State) → timeless s ≡ timeless t
    → timeless (state_settled s) ≡ timeless (state_settled t)
settled-alike s t alike =
    settled-timeless s ∙ ap (λ u. timeless (state_settled u)) alike ∙ sym (settled-timeless t)

-- ---- a late tick

mode-late : (n k : ℕ) (m : Mode) → n + 1 < 2 ^ 32 → LastsWithin n k m → IsOverIn k m
    → mode_set_back k (mode_settled k m)
    ≡ mode_set_back ((k + 1) % 2 ^ 32) (mode_settled ((k + 1) % 2 ^ 32) m)
unfolding settled set_back
mode-late n k Running short within over = refl
mode-late n k Ready short within over = refl
mode-late n k (Waiting w) short within over =
    ap (λ since. Waiting (record w { since = since })) (settled-late w.number k (asked w.args) w.since
    (λ sleeps. let less = within sleeps in omega (arith, less, short)) over)
mode-late n k (Zombie status) short within over = refl

-- all sleeps of these are over
abbrev AllOver : ℕ → List (Option Process) → Type 0
AllOver k ps = (i : ℕ) (p : Process) → slot ps i ≡ Some p → IsOverIn k p.mode

places-late : (n k : ℕ) (ps : List (Option Process)) → n + 1 < 2 ^ 32 → AllWithin n k ps → AllOver k ps
    → places_set_back k (places_settled k ps)
    ≡ places_set_back ((k + 1) % 2 ^ 32) (places_settled ((k + 1) % 2 ^ 32) ps)
places-late n k [] short within over = refl
places-late n k (None ∷ ps) short within over = ap (λ qs. None ∷ qs)
    (places-late n k ps short (λ i p at. within (suc i) p at) (λ i p at. over (suc i) p at))
places-late n k (Some p ∷ ps) short within over =
    let j = (k + 1) % 2 ^ 32 in
    ap (λ m. Some (record p { mode = m }) ∷ places_set_back k (places_settled k ps))
    (mode-late n k p.mode short (within 0 p refl) (over 0 p refl))
    ∙ ap (λ qs. Some (process_set_back j (process_settled j p)) ∷ qs)
    (places-late n k ps short (λ i p at. within (suc i) p at) (λ i p at. over (suc i) p at))

pub late-settles : (n : ℕ) (s : State) → n + 1 < 2 ^ 32 → SleepsWithin n s → IsLate s
    → timeless (state_settled s) ≡ timeless (state_settled (tick s))
unfolding state_settled state_set_back
late-settles n s short within late =
    ap (λ (ps : List (Option Process)). record s { places = ps; ticks = 0 })
    (places-late n s.ticks s.places short within late.over)
    ∙ sym (ap (λ t. timeless (state_settled t)) (idle-tick s late.none))
