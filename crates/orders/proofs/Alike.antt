-- What states that are alike up to numbers have in common: who runs and who is ready, who sleeps, the files, and how
-- process 1 ended.
use Rattle.std.specs.Prelude.{not, option_map}
use Rattle.unixmodel.specs.Files.{slot}
use Rattle.std.proofs.Common.{[], ap, arith, Bool, false, List, None, Option, refl, Some, subst, sym, ℕ, ◌%◌, ◌+◌}
use Rattle.std.proofs.Common.{suc, zero, ◌-◌, ◌<◌, ◌^◌, ◌∙◌, ◌∷◌, ◌≡◌}
use Rattle.std.specs.List.{list_any}
use Rattle.std.specs.Prelude.{if◌then◌else◌, is_none, ◌&&◌, ◌||◌}
use Rattle.orders.specs.Ends.{is_anyone_asleep, is_asleep}
use Rattle.orders.specs.Free.{is_idle}
use Rattle.orders.specs.Tried.{is_late, is_time_awaited, sleeps_on, sleeps_on_in}
use Rattle.schedules.proofs.Alike.{slept-back}
use Rattle.schedules.proofs.Rows.{slept-in}
use Rattle.schedules.specs.Schedules.{computes, computes_as, computes_in}
use Rattle.unixmodel.specs.Next.{effect_of}
use Rattle.unixmodel.specs.ProcessCalls.{has_slept}
use Rattle.schedules.proofs.Turns.{runs-in, turn-in}
use Rattle.schedules.proofs.Views.{IsFair, View, mode_in, places_in, state_in, timely}
use Rattle.renumbering.proofs.Laws.{renumbered-equivalence, turns-alike}
use Rattle.renumbering.proofs.Slots.{each-map}
use Rattle.renumbering.specs.Alike.{AlikeUpToNumbers, AreAlikeUpToNumbers}
use Rattle.renumbering.specs.Renumbered.{IsRenumbered, NamesAreThere, Renumbering, TurnsAreSame, places_moved}
use Rattle.renumbering.specs.Renumbered.{process_moved}
use Rattle.schedules.specs.Alike.{Alike, HasClock, is_asleep_in, is_sleep, mode_set_back, places_set_back}
use Rattle.schedules.specs.Alike.{process_set_back, set_back, state_set_back, timeless}
use Rattle.unixmodel.specs.declared.call.Call.{Call}
use Rattle.unixmodel.specs.declared.call.Call.TheVariants.{Sleep}
use Rattle.unixmodel.specs.declared.process.Mode.{Mode}
use Rattle.unixmodel.specs.declared.process.Mode.TheVariants.{Ready, Running, Waiting, Zombie}
use Rattle.unixmodel.specs.Calls.{After}
use Rattle.unixmodel.specs.Process.{Process}
use Rattle.unixmodel.specs.State.{State, holds, running}
use Rattle.unixmodel.specs.Turn.{turn}

-- ---- states that are alike up to the numbers of open files and pipes

-- and what is named is there
pub record BothAlike (s t : State) : Type 0 where
  pub alike : AlikeUpToNumbers s t
  pub names : NamesAreThere t
  pub first : HasClock s
  pub second : HasClock t

pub alike-itself : (s : State) → AlikeUpToNumbers s s
alike-itself s = renumbered-equivalence.reflexive (timeless s)

pub alike-back : (s t : State) → AlikeUpToNumbers s t → AlikeUpToNumbers t s
alike-back s t alike = renumbered-equivalence.symmetric (timeless s) (timeless t) alike

pub alike-then : (s t u : State) → AlikeUpToNumbers s t → AlikeUpToNumbers t u → AlikeUpToNumbers s u
alike-then s t u one two = renumbered-equivalence.transitive (timeless s) (timeless t) (timeless u) one two

-- so are states of which the clocks alone differ
pub clock-alike : (s t : State) → Alike s t → AlikeUpToNumbers s t
clock-alike s t alike = subst (IsRenumbered (timeless s)) alike (alike-itself s)

-- as the law has it, the other way about
pub both-after : (a b : After) → AreAlikeUpToNumbers b a → BothAlike a.state b.state
both-after a b h = record {
  alike = alike-back b.state a.state h.alike;
  names = h.there;
  first = h.second;
  second = h.first;
}

names-back : (s : State) → NamesAreThere s → NamesAreThere (timeless s)
unfolding state_set_back
names-back s names = record {
  descriptors = each-map (process_set_back s.ticks) (λ p named. named) names.descriptors;
  pipes = names.pipes;
}

-- they take turns alike
turns : (s t : State) → BothAlike s t → TurnsAreSame (timeless t) (timeless s)
turns s t h = turns-alike (timeless t) (timeless s) (names-back t h.names) (alike-back s t h.alike)

-- ---- the view of a state whose clock is set back

abbrev back : ℕ → View
back k = record {
  now = k;
  clock = 0;
  since = λ number args since. if is_sleep number then (2 ^ 32 - (k + (2 ^ 32 - since)) % 2 ^ 32) % 2 ^ 32 else 0;
  held = λ i h. h;
}

began : (number : Call) (k : ℕ) → k < 2 ^ 32
    → (if is_sleep number then (2 ^ 32 - (k + (2 ^ 32 - k)) % 2 ^ 32) % 2 ^ 32 else 0) ≡ 0
began Sleep k clock = omega (arith, clock)
began _ k clock = refl

back-fair : (k : ℕ) → k < 2 ^ 32 → IsFair (back k)
back-fair k clock = record {
  pages = λ i h. refl;
  begins = λ number args. began number k clock;
  slept = slept-back k;
}

mode-back : (k : ℕ) (m : Mode) → mode_in (back k) m ≡ mode_set_back k m
unfolding set_back
mode-back k Running = refl
mode-back k Ready = refl
mode-back k (Waiting w) = refl
mode-back k (Zombie status) = refl

places-back : (k : ℕ) (ps : List (Option Process)) → places_in (back k) ps ≡ places_set_back k ps
places-back k [] = refl
places-back k (None ∷ ps) = ap (λ qs. None ∷ qs) (places-back k ps)
places-back k (Some p ∷ ps) =
    ap (λ m. Some (record p { mode = m }) ∷ places_in (back k) ps) (mode-back k p.mode)
    ∙ ap (λ qs. Some (process_set_back k p) ∷ qs) (places-back k ps)

state-back : (k : ℕ) (s : State) → state_in (back k) s ≡ state_set_back k s
unfolding state_in state_set_back
state-back k s = ap (λ (ps : List (Option Process)). record s { places = ps; ticks = 0 }) (places-back k s.places)

-- ---- who runs, and who is ready

pub runs-back : (s : State) → running (timeless s) ≡ running s
runs-back s = ap (λ t. running t) (sym (state-back s.ticks s)) ∙ runs-in (back s.ticks) s

turn-back : (s : State) → HasClock s → turn (timeless s) ≡ turn s
turn-back s clock =
    ap (λ t. turn t) (sym (state-back s.ticks s)) ∙ turn-in (back s.ticks) s (back-fair s.ticks clock) refl

pub idle-back : (s : State) → HasClock s → is_idle (timeless s) ≡ is_idle s
idle-back s clock =
    ap (λ (o : Option ℕ). is_none o && is_none (turn (timeless s))) (runs-back s)
    ∙ ap (λ (o : Option ℕ). is_none (running s) && is_none o) (turn-back s clock)

idle-turns : (s t : State) → TurnsAreSame t s → is_idle s ≡ is_idle t
idle-turns s t same =
    ap (λ (o : Option ℕ). is_none o && is_none (turn s)) (sym same.who_runs)
    ∙ ap (λ (o : Option ℕ). is_none (running t) && is_none o) (sym same.whose_turn)

pub idle-alike : (s t : State) → BothAlike s t → is_idle s ≡ is_idle t
idle-alike s t h =
    sym (idle-back s h.first) ∙ idle-turns (timeless s) (timeless t) (turns s t h) ∙ idle-back t h.second

-- ---- who sleeps

mode-asleep : (k : ℕ) (m : Mode) → is_asleep_in (mode_set_back k m) ≡ is_asleep_in m
unfolding set_back
mode-asleep k Running = refl
mode-asleep k Ready = refl
mode-asleep k (Waiting w) = refl
mode-asleep k (Zombie status) = refl

places-asleep : (k : ℕ) (ps : List (Option Process))
    → list_any (holds is_asleep) (places_set_back k ps) ≡ list_any (holds is_asleep) ps
places-asleep k [] = refl
places-asleep k (None ∷ ps) = ap (λ b. false || b) (places-asleep k ps)
places-asleep k (Some p ∷ ps) =
    ap (λ b. b || list_any (holds is_asleep) (places_set_back k ps)) (mode-asleep k p.mode)
    ∙ ap (λ b. is_asleep_in p.mode || b) (places-asleep k ps)

pub asleep-back : (s : State) → is_anyone_asleep (timeless s) ≡ is_anyone_asleep s
unfolding state_set_back
asleep-back s = places-asleep s.ticks s.places

any-moved : (r : Renumbering) (test other : Process → Bool) → ((p : Process) → other (process_moved r p) ≡ test p)
    → (ps : List (Option Process)) → list_any (holds other) (places_moved r ps) ≡ list_any (holds test) ps
any-moved r test other same [] = refl
any-moved r test other same (None ∷ ps) = ap (λ b. false || b) (any-moved r test other same ps)
any-moved r test other same (Some p ∷ ps) =
    ap (λ b. b || list_any (holds other) (places_moved r ps)) (same p)
    ∙ ap (λ b. test p || b) (any-moved r test other same ps)

asleep-moved : (s t : State) → IsRenumbered s t → is_anyone_asleep t ≡ is_anyone_asleep s
asleep-moved s t h = ap is_anyone_asleep h.rest ∙ any-moved h.files is_asleep is_asleep (λ p. refl) s.places

pub asleep-alike : (s t : State) → AlikeUpToNumbers s t → is_anyone_asleep s ≡ is_anyone_asleep t
asleep-alike s t alike =
    sym (asleep-back s) ∙ sym (asleep-moved (timeless s) (timeless t) alike) ∙ asleep-back t

-- ---- the rest

pub halted-alike : (s t : State) → AlikeUpToNumbers s t → s.halted ≡ t.halted
unfolding state_set_back
halted-alike s t alike = sym (ap (λ (u : State). u.halted) alike.rest)

pub files-alike : (s t : State) → AlikeUpToNumbers s t → s.files ≡ t.files
unfolding state_set_back
files-alike s t alike = sym (ap (λ (u : State). u.files) alike.rest)

-- ---- who computes

done-back : (k : ℕ) (o : Option Process) → computes_as (option_map (process_set_back k) o) ≡ computes_as o
unfolding effect_of
done-back k None = refl
done-back k (Some p) = refl

at-back : (k : ℕ) (ps : List (Option Process)) (i : ℕ)
    → slot (places_set_back k ps) i ≡ option_map (process_set_back k) (slot ps i)
at-back k [] i = refl
at-back k (o ∷ ps) zero = refl
at-back k (o ∷ ps) (suc i) = at-back k ps i

computes-at : (s : State) (o : Option ℕ) → computes_in (timeless s) o ≡ computes_in s o
unfolding state_set_back
computes-at s None = refl
computes-at s (Some i) = ap computes_as (at-back s.ticks s.places i) ∙ done-back s.ticks (slot s.places i)

pub computes-back : (s : State) → computes (timeless s) ≡ computes s
unfolding computes
computes-back s = ap (computes_in (timeless s)) (runs-back s) ∙ computes-at s (running s)

pub computes-alike : (s t : State) → BothAlike s t → computes s ≡ computes t
computes-alike s t h = sym (computes-back s) ∙ sym (turns s t h).who_computes ∙ computes-back t

pub runs-alike : (s t : State) → BothAlike s t → running s ≡ running t
runs-alike s t h = sym (runs-back s) ∙ sym (turns s t h).who_runs ∙ runs-back t

-- ---- whose sleep isn't over

sleeps-on-mode : (s : State) (m : Mode) → HasClock s
    → sleeps_on_in (timeless s) (mode_set_back s.ticks m) ≡ sleeps_on_in s m
unfolding set_back
sleeps-on-mode s Running clock = refl
sleeps-on-mode s Ready clock = refl
sleeps-on-mode s (Waiting w) clock = go w.number refl
  where
    go : (number : Call) → w.number ≡ number
        → (is_sleep number && not (has_slept (timeless s) (set_back s.ticks w)))
        ≡ (is_sleep number && not (has_slept s w))
    go Sleep same = ap not (ap (λ (t : State). has_slept t (set_back s.ticks w)) (sym (state-back s.ticks s))
        ∙ slept-in (back s.ticks) s w (timely (back s.ticks) (back-fair s.ticks clock)) refl same)
    go _ same = refl
sleeps-on-mode s (Zombie status) clock = refl

places-sleep : (s : State) (ps : List (Option Process)) → HasClock s
    → list_any (holds (sleeps_on (timeless s))) (places_set_back s.ticks ps) ≡ list_any (holds (sleeps_on s)) ps
places-sleep s [] clock = refl
places-sleep s (None ∷ ps) clock = ap (λ b. false || b) (places-sleep s ps clock)
places-sleep s (Some p ∷ ps) clock =
    ap (λ b. b || list_any (holds (sleeps_on (timeless s))) (places_set_back s.ticks ps))
    (sleeps-on-mode s p.mode clock)
    ∙ ap (λ b. sleeps_on_in s p.mode || b) (places-sleep s ps clock)

pub awaited-back : (s : State) → HasClock s → is_time_awaited (timeless s) ≡ is_time_awaited s
unfolding state_set_back
awaited-back s clock = places-sleep s s.places clock

pub late-back : (s : State) → HasClock s → is_late (timeless s) ≡ is_late s
late-back s clock =
    ap (λ (o : Option ℕ). is_none o && (is_anyone_asleep (timeless s) && not (is_time_awaited (timeless s))))
    (runs-back s)
    ∙ ap (λ b. is_none (running s) && (b && not (is_time_awaited (timeless s)))) (asleep-back s)
    ∙ ap (λ b. is_none (running s) && (is_anyone_asleep s && not b)) (awaited-back s clock)

sleeps-moved : (s t : State) → s.ticks ≡ t.ticks → (m : Mode) → sleeps_on_in t m ≡ sleeps_on_in s m
sleeps-moved s t clock Running = refl
sleeps-moved s t clock Ready = refl
sleeps-moved s t clock (Waiting w) =
    ap (λ n. is_sleep w.number && not (has_slept (record s { ticks = n }) w)) (sym clock)
sleeps-moved s t clock (Zombie status) = refl

awaited-moved : (s t : State) → IsRenumbered s t → is_time_awaited t ≡ is_time_awaited s
awaited-moved s t h =
    ap (λ ps. list_any (holds (sleeps_on t)) ps) (ap (λ (u : State). u.places) h.rest)
    ∙ any-moved h.files (sleeps_on s) (sleeps_on t)
    (λ p. sleeps-moved s t (sym (ap (λ (u : State). u.ticks) h.rest)) p.mode) s.places

late-moved : (s t : State) → IsRenumbered s t → running s ≡ running t → is_late t ≡ is_late s
late-moved s t h runs =
    ap (λ (o : Option ℕ). is_none o && (is_anyone_asleep t && not (is_time_awaited t))) (sym runs)
    ∙ ap (λ b. is_none (running s) && (b && not (is_time_awaited t))) (asleep-moved s t h)
    ∙ ap (λ b. is_none (running s) && (is_anyone_asleep s && not b)) (awaited-moved s t h)

pub late-alike : (s t : State) → BothAlike s t → is_late s ≡ is_late t
late-alike s t h =
    sym (late-back s h.first)
    ∙ sym (late-moved (timeless s) (timeless t) h.alike (sym (turns s t h).who_runs))
    ∙ late-back t h.second
