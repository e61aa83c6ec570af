-- Ticks that change nothing but their count.
use Rattle.std.proofs.Common.{[], ap, arith, false, List, None, Option, refl, set, Some, subst, suc, sym, true, zero}
use Rattle.std.proofs.Common.{ℕ, ℤ, ◌%◌, ◌+◌, ◌-◌, ◌^◌, ◌∙◌, ◌∷◌, ◌≡◌}
use Rattle.std.proofs.lemmas.List.Quantifiers.{position-Some}
use Rattle.std.specs.Prelude.{if◌then◌else◌, negsuc, option_map, slice_set}
use Rattle.schedules.specs.Alike.{AreAlike, HasClock, IdleTickChangesNothing, NoneSleeps, TickBackChangesNothing}
use Rattle.schedules.specs.Alike.{is_asleep_in, mode_set_back, places_set_back, process_set_back, set_back}
use Rattle.schedules.specs.Alike.{state_set_back}
use Rattle.unixmodel.specs.Calls.{After, quiet}
use Rattle.unixmodel.specs.Files.{slot}
use Rattle.unixmodel.specs.Next.{next, pick, picked, step, stopped, take_turn, tick}
use Rattle.unixmodel.specs.Outcome.{end_process}
use Rattle.unixmodel.specs.Process.{Process, is_running, is_running_mode, with_mode}
use Rattle.unixmodel.specs.Run.{followed_by, picked_by, picked_unless, run}
use Rattle.unixmodel.specs.State.{State, holds, process_at, put_process, running}
use Rattle.unixmodel.specs.declared.event.Event.TheVariants.{Step, Tick}
use Rattle.unixmodel.specs.declared.process.Mode.{Mode}
use Rattle.unixmodel.specs.declared.process.Mode.TheVariants.{Ready, Running, Waiting, Zombie}

-- ---- who doesn't sleep is set back alike by any clock

mode-awake : (k j : ℕ) (m : Mode) → is_asleep_in m ≡ false → mode_set_back k m ≡ mode_set_back j m
unfolding set_back
mode-awake k j Running awake = refl
mode-awake k j Ready awake = refl
mode-awake k j (Waiting w) awake =
    ap (λ b. Waiting (record w { since = if b then (2 ^ 32 - (k + (2 ^ 32 - w.since)) % 2 ^ 32) % 2 ^ 32 else 0 }))
    awake
    ∙ sym (ap (λ b. Waiting (record w
    { since = if b then (2 ^ 32 - (j + (2 ^ 32 - w.since)) % 2 ^ 32) % 2 ^ 32 else 0 }))
    awake)
mode-awake k j (Zombie status) awake = refl

-- none of the places sleeps
abbrev AllAwake : List (Option Process) → Type 0
AllAwake ps = (i : ℕ) (p : Process) → slot ps i ≡ Some p → is_asleep_in p.mode ≡ false

places-awake : (k j : ℕ) (ps : List (Option Process)) → AllAwake ps → places_set_back k ps ≡ places_set_back j ps
places-awake k j [] awake = refl
places-awake k j (None ∷ ps) awake =
    ap (λ qs. None ∷ qs) (places-awake k j ps (λ i p at. awake (suc i) p at))
places-awake k j (Some p ∷ ps) awake =
    ap (λ m. Some (record p { mode = m }) ∷ places_set_back k ps) (mode-awake k j p.mode (awake zero p refl))
    ∙ ap (λ qs. Some (process_set_back j p) ∷ qs) (places-awake k j ps (λ i p at. awake (suc i) p at))

-- ---- nobody runs

pub idle-tick : (s : State) → running s ≡ None → tick s ≡ record s { ticks = (s.ticks + 1) % 2 ^ 32 }
idle-tick s none = ap (λ o. record (stopped s o) { ticks = (s.ticks + 1) % 2 ^ 32 }) none

-- a state whose clock goes on by one tick, while none sleeps
ticked-alike : (s : State) → HasClock s → NoneSleeps s
    → AreAlike (quiet s) (quiet (record s { ticks = (s.ticks + 1) % 2 ^ 32 }))
unfolding state_set_back
ticked-alike s clock awake = record {
  bytes = refl;
  alike = ap (λ (ps : List (Option Process)). record s { places = ps; ticks = 0 })
      (places-awake s.ticks ((s.ticks + 1) % 2 ^ 32) s.places awake);
  first = clock;
  second = omega arith;
}

pub idle-tick-alike : IdleTickChangesNothing
unfolding next
idle-tick-alike s clock none awake =
    subst (λ (t : State). AreAlike (quiet s) (quiet t)) (sym (idle-tick s none)) (ticked-alike s clock awake)

-- ---- the process that ran is picked again

-- a slot that is written and written back
pub written-at : (ps : List (Option Process)) (i : ℕ) (p q : Process) → slot ps i ≡ Some p
    → slot (set ps i (Some q)) i ≡ Some q
written-at [] i p q at = absurd cc
written-at (o ∷ ps) zero p q at = refl
written-at (o ∷ ps) (suc i) p q at = written-at ps i p q at

written-back : (ps : List (Option Process)) (i : ℕ) (p q : Process) → slot ps i ≡ Some p
    → set (set ps i (Some q)) i (Some p) ≡ ps
written-back [] i p q at = refl
written-back (o ∷ ps) zero p q at = ap (λ u. u ∷ ps) (sym at)
written-back (o ∷ ps) (suc i) p q at = ap (λ qs. o ∷ qs) (written-back ps i p q at)

runs-here : (s : State) (i : ℕ) (p : Process) → running s ≡ Some i → process_at s i ≡ Some p
    → is_running_mode p.mode ≡ true
runs-here s i p runs at =
    sym (ap (holds is_running) at) ∙ (position-Some (holds is_running) s.places i None runs).1

running-mode : (m : Mode) → is_running_mode m ≡ true → m ≡ Running
running-mode Running runs = refl
running-mode Ready runs = absurd cc
running-mode (Waiting w) runs = absurd cc
running-mode (Zombie status) runs = absurd cc

-- who is picked is picked by a turn
step-picks : (t : State) (i : ℕ) (o : Option ℕ) → running t ≡ o → picked_unless t o ≡ Some i
    → step t (running t) ≡ pick t i (process_at t i)
step-picks t i None none picks = ap (step t) none ∙ ap (take_turn t) picks
step-picks t i (Some j) some picks = absurd cc

-- a picked process that is ready and not killed runs
runs-on : (t : State) (i : ℕ) (p : Process) → p.killed ≡ false
    → picked t i (with_mode Ready p) ≡ quiet (put_process t i (with_mode Running p))
runs-on t i p alive =
    ap (λ b. if b then quiet (end_process t i (with_mode Ready p) (negsuc 0))
    else quiet (put_process t i (with_mode Running p))) alive

quiet-end : (t : State) (h : Option ℤ) → followed_by (quiet t) (λ u. run u []) h ≡ quiet t
unfolding run
quiet-end t None = refl
quiet-end t (Some status) = refl

-- the state after a tick that ends the turn of process p in slot i
abbrev pub interrupted : State → ℕ → Process → State
interrupted s i p = record s {
  places = set s.places i (Some (with_mode Ready p));
  ticks = (s.ticks + 1) % 2 ^ 32;
}

pub tick-interrupts : (s : State) (i : ℕ) (p : Process) → running s ≡ Some i → process_at s i ≡ Some p
    → tick s ≡ interrupted s i p
tick-interrupts s i p runs at =
    ap (λ o. record (stopped s o) { ticks = (s.ticks + 1) % 2 ^ 32 }) runs
    ∙ ap (λ o. record s {
      places = slice_set s.places i (option_map (with_mode Ready) o);
      ticks = (s.ticks + 1) % 2 ^ 32;
    }) at

-- the turn after it, at which that process is picked
turn-restores : (s : State) (i : ℕ) (p : Process) → process_at s i ≡ Some p → p.mode ≡ Running → p.killed ≡ false
    → s.last ≡ i → picked_by (interrupted s i p) Step ≡ Some i
    → next (interrupted s i p) Step ≡ quiet (record s { ticks = (s.ticks + 1) % 2 ^ 32 })
unfolding next
turn-restores s i p at mode alive last picks =
    let t = interrupted s i p in
    step-picks t i (running t) refl picks
    ∙ ap (pick t i) (written-at s.places i p (with_mode Ready p) at)
    ∙ runs-on (record t { last = i }) i p alive
    ∙ ap (λ m. quiet (put_process (record t { last = i }) i (record p { mode = m }))) (sym mode)
    ∙ ap (λ (ps : List (Option Process)). quiet (record t { places = ps; last = i }))
    (written-back s.places i p (with_mode Ready p) at)
    ∙ ap (λ n. quiet (record s { ticks = (s.ticks + 1) % 2 ^ 32; last = n })) (sym last)

both-events : (s t u : State) → tick s ≡ t → t.halted ≡ None → next t Step ≡ quiet u
    → run s (Tick ∷ Step ∷ []) ≡ quiet u
unfolding run next
both-events s t u ticks goes steps =
    ap (λ (v : State). followed_by (quiet v) (λ w. run w (Step ∷ [])) v.halted) ticks
    ∙ ap (λ h. followed_by (quiet t) (λ w. run w (Step ∷ [])) h) goes
    ∙ ap (λ (a : After). followed_by a (λ w. run w []) a.state.halted) steps
    ∙ quiet-end u u.halted

pub tick-back-alike : TickBackChangesNothing
unfolding next
tick-back-alike s i p clock goes runs at alive last awake picks =
    let ticks = tick-interrupts s i p runs at in
    let mode = running-mode p.mode (runs-here s i p runs at) in
    let again : picked_by (interrupted s i p) Step ≡ Some i = sym (ap (λ t. picked_by t Step) ticks) ∙ picks in
    subst (AreAlike (quiet s))
    (sym (both-events s (interrupted s i p) (record s { ticks = (s.ticks + 1) % 2 ^ 32 }) ticks goes
    (turn-restores s i p at mode alive last again)))
    (ticked-alike s clock awake)
