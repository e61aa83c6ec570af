-- States whose clocks differ, too: set back, one is the other with other numbers of open files and pipes.
use Rattle.std.proofs.Common.{[], ap, arith, Err, false, List, map, None, Ok, Option, refl, Some, subst, sym, ℕ, ℤ}
use Rattle.std.proofs.Common.{◌%◌, ◌++◌, ◌+◌, ◌-◌, ◌^◌, ◌∙◌, ◌∷◌, ◌≡◌}
use Rattle.std.specs.Prelude.{if◌then◌else◌, option_map, position}
use Rattle.renumbering.proofs.Slots.{each-map, map-swap, map-then, position-map, slot-map}
use Rattle.renumbering.proofs.Laws.{event-renumbered, renumbered-equivalence}
use Rattle.renumbering.specs.Alike.{AlikeUpToNumbers, AreAlikeUpToNumbers, EventKeepsNumbersAlike}
use Rattle.renumbering.specs.Alike.{RunKeepsNumbersAlike}
use Rattle.renumbering.specs.Renumbered.{IsRenumbered, NamesAreThere}
use Rattle.renumbering.specs.Renumbered.{process_moved}
use Rattle.schedules.proofs.Alike.{event-alike}
use Rattle.schedules.specs.Alike.{AreAlike, HasClock, NeverAsksTime, asks, asks_as, asks_at, asks_in, asks_time}
use Rattle.schedules.specs.Alike.{is_sleep, mode_set_back, process_set_back, set_back, state_set_back}
use Rattle.schedules.specs.Alike.{timeless}
use Rattle.unixmodel.specs.Calls.{After}
use Rattle.unixmodel.specs.Files.{slot}
use Rattle.unixmodel.specs.Meaning.{Effect}
use Rattle.unixmodel.specs.Next.{effect_of, next}
use Rattle.unixmodel.specs.Process.{Process, is_running, is_running_mode}
use Rattle.unixmodel.specs.Run.{UnlessHalted, after_bytes, followed_by, run}
use Rattle.unixmodel.specs.State.{State, holds, running}
use Rattle.unixmodel.specs.declared.call.Call.{Call}
use Rattle.unixmodel.specs.declared.call.Call.TheVariants.{Sleep}
use Rattle.unixmodel.specs.declared.event.Event.{Event}
use Rattle.unixmodel.specs.declared.event.Event.TheVariants.{Key, Step, Tick}
use Rattle.unixmodel.specs.declared.process.Mode.{Mode}
use Rattle.unixmodel.specs.declared.process.Mode.TheVariants.{Ready, Running, Waiting, Zombie}
use Rattle.unixmodel.specs.declared.process.Pending.{Pending}

-- ---- a clock that is set back is so once and for all

again-since : (number : Call) (k since : ℕ)
    → (if is_sleep number
    then (2 ^ 32 - (0 + (2 ^ 32 - (if is_sleep number then (2 ^ 32 - (k + (2 ^ 32 - since)) % 2 ^ 32) % 2 ^ 32 else 0)))
    % 2 ^ 32) % 2 ^ 32 else 0)
    ≡ (if is_sleep number then (2 ^ 32 - (k + (2 ^ 32 - since)) % 2 ^ 32) % 2 ^ 32 else 0)
again-since Sleep k since = omega arith
again-since _ k since = refl

again : (k : ℕ) (w : Pending) → set_back 0 (set_back k w) ≡ set_back k w
unfolding set_back
again k w = ap (λ n. record w { since = n }) (again-since w.number k w.since)

mode-again : (k : ℕ) (m : Mode) → mode_set_back 0 (mode_set_back k m) ≡ mode_set_back k m
mode-again k Running = refl
mode-again k Ready = refl
mode-again k (Waiting w) = ap Waiting (again k w)
mode-again k (Zombie status) = refl

set-back-again : (s : State) → timeless (timeless s) ≡ timeless s
unfolding state_set_back
set-back-again s = ap (λ (ps : List (Option Process)). record s { places = ps; ticks = 0 })
    (map-then (process_set_back s.ticks) (process_set_back 0) (process_set_back s.ticks)
    (λ p. ap (λ (m : Mode). record p { mode = m }) (mode-again s.ticks p.mode)) s.places)

timeless-clock : (s : State) → HasClock (timeless s)
unfolding state_set_back
timeless-clock s = omega arith

-- ---- names

there-back : (s : State) → NamesAreThere s → NamesAreThere (timeless s)
unfolding state_set_back
there-back s there = record {
  descriptors = each-map (process_set_back s.ticks) (λ p named. named) there.descriptors;
  pipes = there.pipes;
}

-- ---- numbers are changed in states whose clocks are set back

timeless-renumbered : (s t : State) → IsRenumbered s t → IsRenumbered (timeless s) (timeless t)
unfolding state_set_back
timeless-renumbered s t alike = record {
  files = alike.files;
  pipes = alike.pipes;
  opens_moved = alike.opens_moved;
  pipes_moved = alike.pipes_moved;
  rest = ap timeless alike.rest
      ∙ ap (λ (ps : List (Option Process)). record s { places = ps; opens = t.opens; pipes = t.pipes; ticks = 0 })
      (map-swap (process_moved alike.files) (process_set_back s.ticks) (λ p. refl) s.places);
}

-- ---- who asks for the time

mode-runs : (k : ℕ) (m : Mode) → is_running_mode (mode_set_back k m) ≡ is_running_mode m
mode-runs k Running = refl
mode-runs k Ready = refl
mode-runs k (Waiting w) = refl
mode-runs k (Zombie status) = refl

-- states whose processes are made of those of another, run the same, and do as much
module _ (f : Process → Process) (runs : (p : Process) → is_running (f p) ≡ is_running p)
    (does : (p : Process) (d : Effect) → asks_as (f p) d ≡ asks_as p d)
    (effect : (p : Process) → effect_of (f p) ≡ effect_of p) (s t : State)
    (made : t.places ≡ map (option_map f) s.places) where
  asks-in-made : (o : Option Process) → asks_in (option_map f o) ≡ asks_in o
  unfolding asks
  asks-in-made None = refl
  asks-in-made (Some p) = ap (asks_as (f p)) (effect p) ∙ does p (effect_of p)

  asks-at-made : (o : Option ℕ) → asks_at t o ≡ asks_at s o
  asks-at-made None = refl
  asks-at-made (Some i) =
      ap (λ ps. asks_in (slot ps i)) made ∙ ap asks_in (slot-map f s.places i) ∙ asks-in-made (slot s.places i)

  holds-made : (o : Option Process) → holds is_running (option_map f o) ≡ holds is_running o
  holds-made None = refl
  holds-made (Some p) = runs p

  asks-made : (e : Event) → asks_time t e ≡ asks_time s e
  unfolding asks_time
  asks-made Step =
      ap (asks_at t) (ap (position (holds is_running)) made
      ∙ position-map f (holds is_running) (holds is_running) holds-made s.places)
      ∙ asks-at-made (running s)
  asks-made Tick = refl
  asks-made (Key k) = refl

does-same : (f : Process → Process) → ((p : Process) → (f p).registers ≡ p.registers) → (p : Process) (d : Effect)
    → asks_as (f p) d ≡ asks_as p d
does-same f same p (Ok d) = refl
does-same f same p (Err t) = ap (λ (rs : List ℕ). asks_as (record p { registers = rs }) (Err t)) (same p)

asks-back : (s : State) (e : Event) → asks_time (timeless s) e ≡ asks_time s e
unfolding state_set_back effect_of
asks-back s e = asks-made (process_set_back s.ticks) (λ p. mode-runs s.ticks p.mode)
    (does-same (process_set_back s.ticks) (λ p. refl)) (λ p. refl) s (timeless s) refl e

asks-renumbered : (s t : State) (e : Event) → IsRenumbered s t → asks_time t e ≡ asks_time s e
unfolding effect_of
asks-renumbered s t e alike = asks-made (process_moved alike.files) (λ p. refl)
    (does-same (process_moved alike.files) (λ p. refl)) (λ p. refl) s t
    (ap (λ (u : State). u.places) alike.rest) e

pub asks-alike : (s t : State) (e : Event) → AlikeUpToNumbers s t → asks_time s e ≡ false → asks_time t e ≡ false
asks-alike s t e alike quiet =
    sym (asks-back t e) ∙ asks-renumbered (timeless s) (timeless t) e alike ∙ asks-back s e ∙ quiet

-- ---- the law

-- an event at a state, and at one whose clock is set back
lands : (s : State) (e : Event) → HasClock s → asks_time s e ≡ false → AreAlike (next s e) (next (timeless s) e)
lands s e clock quiet = event-alike s (timeless s) e clock (timeless-clock s) (sym (set-back-again s)) quiet

pub event-numbers-alike : EventKeepsNumbersAlike
event-numbers-alike s t e first second there alike quiet =
    let one = lands s e first quiet in
    let two = lands t e second (asks-alike s t e alike quiet) in
    let next_two = event-renumbered (timeless s) (timeless t) e (there-back s there) alike in
    record {
      bytes = one.bytes ∙ next_two.bytes ∙ sym two.bytes;
      alike = subst (λ u. IsRenumbered u (timeless (next t e).state)) (sym one.alike)
          (subst (λ u. IsRenumbered (timeless (next (timeless s) e).state) u) (sym two.alike)
          (timeless-renumbered (next (timeless s) e).state (next (timeless t) e).state next_two.state));
      there = (event-renumbered s s e there (renumbered-equivalence.reflexive s)).there;
      first = one.first;
      second = two.first;
    }

halted-alike : (s t : State) → AlikeUpToNumbers s t → t.halted ≡ s.halted
unfolding state_set_back
halted-alike s t alike = ap (λ (u : State). u.halted) alike.rest

followed-alike : (a b : After) (rest : State → After) (Never : State → Type 0) (h u : Option ℤ) → u ≡ h
    → AreAlikeUpToNumbers a b → UnlessHalted a.state Never h
    → (Never a.state → AreAlikeUpToNumbers (rest a.state) (rest b.state))
    → AreAlikeUpToNumbers (followed_by a rest h) (followed_by b rest u)
followed-alike a b rest Never (Some status) u same alike never more =
    subst (λ o. AreAlikeUpToNumbers a (followed_by b rest o)) (sym same) alike
followed-alike a b rest Never None u same alike never more =
    let later = more never in
    subst (λ o. AreAlikeUpToNumbers (after_bytes a.bytes (rest a.state)) (followed_by b rest o)) (sym same) (record {
      bytes = ap (λ x. x ++ (rest a.state).bytes) alike.bytes ∙ ap (λ x. b.bytes ++ x) later.bytes;
      alike = later.alike;
      there = later.there;
      first = later.first;
      second = later.second;
    })

pub run-numbers-alike : RunKeepsNumbersAlike
unfolding run NeverAsksTime
run-numbers-alike s t [] first second there alike never =
    record { bytes = refl; alike = alike; there = there; first = first; second = second }
run-numbers-alike s t (e ∷ events) first second there alike never =
    let one = event-numbers-alike s t e first second there alike never.0 in
    followed-alike (next s e) (next t e) (λ u. run u events) (λ u. NeverAsksTime u events) (next s e).state.halted
    (next t e).state.halted (halted-alike (next s e).state (next t e).state one.alike) one never.1
    (λ later. run-numbers-alike (next s e).state (next t e).state events one.first one.second one.there one.alike
    later)
