-- A sleep lasts no longer than ticks come.
-- A state in which no sleep has lasted more than n ticks is its own view, by which each one that has is another; and an
-- event at a view leads to the view.
use Rattle.std.proofs.Common.{[], ap, arith, List, None, Option, refl, Some, subst, suc, sym, ℕ, ℤ}
use Rattle.std.proofs.Common.{◌%◌, ◌+◌, ◌<◌, ◌^◌, ◌∙◌, ◌∷◌, ◌≡◌, ◌≤◌}
use Rattle.std.proofs.lemmas.Option.{same_Some}
use Rattle.std.specs.Prelude.{nat_le, option_map}
use Rattle.lateness.proofs.Numbers.{asked, asked-small, lasted, limited-now, limited-over, limited-within}
use Rattle.lateness.proofs.Numbers.{limited_since, within-limited}
use Rattle.lateness.specs.Late.{EventKeepsSleeps, LastsWithin, RunKeepsSleeps, SleepsWithin, ticks_in, ticks_of}
use Rattle.schedules.proofs.Going.{SeenAfter}
use Rattle.schedules.proofs.Turns.{key-in, step-in, stopped-in}
use Rattle.schedules.proofs.Views.{IsFair, IsPlain, View, is_over, mode_in, pending_in, places_in, process_in, slot-at}
use Rattle.schedules.proofs.Views.{state_in}
use Rattle.schedules.specs.Alike.{HasClock}
use Rattle.unixmodel.specs.Calls.{After}
use Rattle.unixmodel.specs.Console.{key}
use Rattle.unixmodel.specs.Files.{slot}
use Rattle.unixmodel.specs.Next.{next, step, stopped, typed}
use Rattle.unixmodel.specs.Process.{Process}
use Rattle.unixmodel.specs.ProcessCalls.{sleep_time}
use Rattle.unixmodel.specs.Run.{followed_by, run}
use Rattle.unixmodel.specs.State.{State, running}
use Rattle.unixmodel.specs.declared.call.Call.TheVariants.{Sleep}
use Rattle.unixmodel.specs.declared.event.Event.{Event}
use Rattle.unixmodel.specs.declared.event.Event.TheVariants.{Key, Step, Tick}
use Rattle.unixmodel.specs.declared.process.Mode.{Mode}
use Rattle.unixmodel.specs.declared.process.Mode.TheVariants.{Ready, Running, Waiting, Zombie}
use Rattle.unixmodel.specs.declared.process.Pending.{Pending}

-- ---- the view

abbrev limiting : ℕ → ℕ → View
limiting n k = record {
  now = k;
  clock = k;
  since = λ number args since. limited_since n number k (asked args) since;
  held = λ i h. h;
}

over-limiting : (n k : ℕ) (w : Pending) → w.number ≡ Sleep → is_over k (pending_in (limiting n k) w) ≡ is_over k w
over-limiting n k w sleeps =
    ap (λ number. nat_le (sleep_time w) (lasted k (limited_since n number k (asked w.args) w.since))) sleeps
    ∙ limited-over n k (asked w.args) w.since (asked-small w.args)

limiting-fair : (n k : ℕ) → k < 2 ^ 32 → IsFair (limiting n k)
limiting-fair n k clock = record {
  pages = λ i h. refl;
  begins = λ number args. limited-now n number k (asked args) clock;
  slept = over-limiting n k;
}

limiting-plain : (n k i : ℕ) → IsPlain (limiting n k) i
limiting-plain n k i = record { is = λ h. refl }

-- ---- its own view

-- no sleep of these has lasted more than n ticks
abbrev pub AllWithin : ℕ → ℕ → List (Option Process) → Type 0
AllWithin n k ps = (i : ℕ) (p : Process) → slot ps i ≡ Some p → LastsWithin n k p.mode

mode-limited : (n k : ℕ) (m : Mode) → LastsWithin n k m → mode_in (limiting n k) m ≡ m
mode-limited n k Running within = refl
mode-limited n k Ready within = refl
mode-limited n k (Waiting w) within =
    ap (λ since. Waiting (record w { since = since })) (within-limited n w.number k (asked w.args) w.since within)
mode-limited n k (Zombie status) within = refl

places-limited : (n k : ℕ) (ps : List (Option Process)) → AllWithin n k ps → places_in (limiting n k) ps ≡ ps
places-limited n k [] within = refl
places-limited n k (None ∷ ps) within =
    ap (λ qs. None ∷ qs) (places-limited n k ps (λ i p at. within (suc i) p at))
places-limited n k (Some p ∷ ps) within =
    ap (λ m. Some (record p { mode = m }) ∷ places_in (limiting n k) ps)
    (mode-limited n k p.mode (within 0 p refl))
    ∙ ap (λ qs. Some p ∷ qs) (places-limited n k ps (λ i p at. within (suc i) p at))

state-limited : (n : ℕ) (s : State) → SleepsWithin n s → state_in (limiting n s.ticks) s ≡ s
unfolding state_in
state-limited n s within =
    ap (λ (ps : List (Option Process)). record s { places = ps }) (places-limited n s.ticks s.places within)

abbrev since-of : Mode → ℕ → ℕ
since-of (Waiting w) n = w.since
since-of Running n = n
since-of Ready n = n
since-of (Zombie status) n = n

limited-mode : (n k : ℕ) (m : Mode) → mode_in (limiting n k) m ≡ m → LastsWithin n k m
limited-mode n k Running same = tt
limited-mode n k Ready same = tt
limited-mode n k (Waiting w) same = limited-within n w.number k (asked w.args) w.since (asked-small w.args)
    (ap (λ m. since-of m 0) same)
limited-mode n k (Zombie status) same = tt

limited-places : (n k : ℕ) (ps : List (Option Process)) → places_in (limiting n k) ps ≡ ps → AllWithin n k ps
limited-places n k ps same i p at =
    let v = limiting n k in
    let seen : Some (process_in v i p) ≡ Some p =
    ap (option_map (process_in v i)) (sym at) ∙ sym (slot-at (process_in v) ps i) ∙ ap (λ qs. slot qs i) same ∙ at in
    limited-mode n k p.mode (ap (λ (q : Process). q.mode) (same_Some (process_in v i p) p seen))

-- ---- events

-- what is its own view after an event
within-seen : (n k : ℕ) (a b : After) → SeenAfter (limiting n k) a b → b ≡ a → SleepsWithin n a.state
unfolding state_in
within-seen n k a b seen same =
    let own : state_in (limiting n k) a.state ≡ a.state =
    sym seen.state.is ∙ ap (λ (c : After). c.state) same in
    subst (λ j. AllWithin n j a.state.places) (sym seen.state.time)
    (limited-places n k a.state.places (ap (λ (s : State). s.places) own))

within-step : (n : ℕ) (s : State) → HasClock s → SleepsWithin n s → SleepsWithin n (next s Step).state
unfolding next
within-step n s clock within =
    let v = limiting n s.ticks in
    within-seen n s.ticks (step s (running s)) (step (state_in v s) (running s))
    (step-in v s (running s) (limiting-fair n s.ticks clock) refl (λ i acts. limiting-plain n s.ticks i)
    (record { free = λ i free. limiting-plain n s.ticks i }) (λ asked. refl))
    (ap (λ t. step t (running s)) (state-limited n s within))

within-key : (n b : ℕ) (s : State) → SleepsWithin n s → SleepsWithin n (next s (Key b)).state
unfolding next
within-key n b s within =
    let v = limiting n s.ticks in
    within-seen n s.ticks (typed s (key s.console b)) (typed (state_in v s) (key s.console b))
    (key-in v s (key s.console b) refl)
    (ap (λ t. typed t (key s.console b)) (state-limited n s within))

-- the process that runs is stopped
pub within-stopped : (n : ℕ) (s : State) (o : Option ℕ) → SleepsWithin n s
    → AllWithin n s.ticks (stopped s o).places
unfolding state_in
within-stopped n s o within =
    let v = limiting n s.ticks in
    limited-places n s.ticks (stopped s o).places
    (ap (λ (t : State). t.places) (sym (stopped-in v s o refl) ∙ ap (λ t. stopped t o) (state-limited n s within)))

-- a tick later
lasts-tick : (n k : ℕ) (m : Mode) → n + 1 < 2 ^ 32 → LastsWithin n k m → LastsWithin (n + 1) ((k + 1) % 2 ^ 32) m
lasts-tick n k Running short within = tt
lasts-tick n k Ready short within = tt
lasts-tick n k (Waiting w) short within = λ sleeps. let less = within sleeps in omega (arith, less, short)
lasts-tick n k (Zombie status) short within = tt

within-tick : (n : ℕ) (s : State) → n + 1 < 2 ^ 32 → SleepsWithin n s → SleepsWithin (n + 1) (next s Tick).state
unfolding next
within-tick n s short within = λ i p at.
    lasts-tick n s.ticks p.mode short (within-stopped n s (running s) within i p at)

lasts-more : (n m k : ℕ) (mode : Mode) → n ≤ m → LastsWithin n k mode → LastsWithin m k mode
lasts-more n m k Running more within = tt
lasts-more n m k Ready more within = tt
lasts-more n m k (Waiting w) more within = λ sleeps. let less = within sleeps in omega (arith, less, more)
lasts-more n m k (Zombie status) more within = tt

pub within-more : (n m : ℕ) (s : State) → n ≤ m → SleepsWithin n s → SleepsWithin m s
within-more n m s more within = λ i p at. lasts-more n m s.ticks p.mode more (within i p at)

pub event-sleeps : EventKeepsSleeps
event-sleeps n s Step clock within short =
    within-more n (n + 0) (next s Step).state (omega arith) (within-step n s clock within)
event-sleeps n s Tick clock within short = within-tick n s short within
event-sleeps n s (Key b) clock within short =
    within-more n (n + 0) (next s (Key b)).state (omega arith) (within-key n b s within)

-- the clock stays a number of 32 bits
pub event-clock : (s : State) (e : Event) → HasClock s → HasClock (next s e).state
unfolding next
event-clock s Step clock =
    let v = limiting 0 s.ticks in
    let seen = step-in v s (running s) (limiting-fair 0 s.ticks clock) refl (λ i acts. limiting-plain 0 s.ticks i)
    (record { free = λ i free. limiting-plain 0 s.ticks i }) (λ asked. refl) in
    subst (λ k. k < 2 ^ 32) (sym seen.state.time) clock
event-clock s Tick clock = omega arith
event-clock s (Key b) clock = clock

followed-sleeps : (n m : ℕ) (first : After) (rest : State → After) (h : Option ℤ) → n ≤ m
    → SleepsWithin n first.state → SleepsWithin m (rest first.state).state
    → SleepsWithin m (followed_by first rest h).state
followed-sleeps n m first rest (Some status) more here later = within-more n m first.state more here
followed-sleeps n m first rest None more here later = later

pub run-sleeps : RunKeepsSleeps
unfolding run
run-sleeps n s [] clock within short = within-more n (n + 0) s (omega arith) within
run-sleeps n s (e ∷ es) clock within short =
    let here = event-sleeps n s e clock within (omega (arith, short)) in
    let m = n + (ticks_of e + ticks_in es) in
    let later = run-sleeps (n + ticks_of e) (next s e).state es (event-clock s e clock) here (omega (arith, short)) in
    followed-sleeps (n + ticks_of e) m (next s e) (λ t. run t es) (next s e).state.halted (omega arith) here
    (within-more (n + ticks_of e + ticks_in es) m (run (next s e).state es).state (omega arith) later)
