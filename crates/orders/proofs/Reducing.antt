-- For each list of events a coarse one may come, is tried, and shows the same: so what all lists show is told.
use Rattle.std.proofs.Common.{[], ap, arith, Bool, drop, false, inl, inr, List, map, None, Option, refl, Some, subst}
use Rattle.std.proofs.Common.{sym}
use Rattle.std.proofs.Common.{true, ℕ, ℤ, ◌+◌, ◌∙◌, ◌∷◌, ◌≡◌}
use Rattle.std.specs.List.{list_any}
use Rattle.std.specs.Prelude.{if◌then◌else◌, is_none, is_some, not, option_map, ⊤, ◌&&◌, ◌||◌}
use Rattle.orders.proofs.Complete.{coarse-told}
use Rattle.orders.proofs.Shows.{told-same}
use Rattle.orders.specs.declared.bounds.Bounds.{Bounds}
use Rattle.orders.specs.declared.bounds.Missed.{Missed}
use Rattle.orders.specs.declared.paths.Path.{Path}
use Rattle.orders.specs.declared.told.Outcome.{Outcome}
use Rattle.orders.specs.Ends.{AllWait, IsEnding, IsOver, ShowSame, is_anyone_asleep, is_asleep, saved_as}
use Rattle.orders.specs.Free.{IsFree, MayCome, is_idle, keys_after, keys_left}
use Rattle.orders.specs.Looked.{IsGoing, IsWhole}
use Rattle.orders.specs.Missed.{is_nothing, is_ticks_alone}
use Rattle.orders.specs.Told.{IsComplete, IsCompleteAsTried, IsTold}
use Rattle.orders.specs.Tried.{IsPrompt, IsPromptIn, IsTried, busy_in, busy_ticks, is_late, is_time_awaited, sleeps_on}
use Rattle.orders.specs.Tried.{sleeps_on_in, zero_if_halted}
use Rattle.schedules.proofs.Turns.{runs-in, turn-timely}
use Rattle.schedules.proofs.Views.{IsTimely, View, mode_in, places_in, state_in}
use Rattle.renumbering.specs.Alike.{EventKeepsNumbersAlike}
use Rattle.renumbering.specs.Renumbered.{NamesAreThere}
use Rattle.schedules.specs.Alike.{HasClock, IdleTickChangesNothing}
use Rattle.schedules.specs.Coarse.{InterruptsWithinSuffice, Interruption, Reduced, ShowsSame, interruptions, interrupts}
use Rattle.schedules.specs.Coarse.{none_if_halted, nothing, shown}
use Rattle.schedules.specs.Holding.{holding}
use Rattle.schedules.specs.Schedules.{ComputesFor}
use Rattle.unixmodel.specs.declared.event.Event.{Event}
use Rattle.unixmodel.specs.declared.event.Event.TheVariants.{Key, Step, Tick}
use Rattle.unixmodel.specs.declared.process.Mode.{Mode}
use Rattle.unixmodel.specs.declared.process.Mode.TheVariants.{Ready, Running, Waiting, Zombie}
use Rattle.unixmodel.specs.Calls.{After}
use Rattle.unixmodel.specs.Files.{Files, slot}
use Rattle.unixmodel.specs.Next.{next}
use Rattle.unixmodel.specs.Process.{Process}
use Rattle.unixmodel.specs.Run.{UnlessHalted, run}
use Rattle.unixmodel.specs.State.{State, holds, running}
use Rattle.unixmodel.specs.Turn.{turn}

-- ---- what shows of a state

-- all but what processes hold
abbrev bare : ℕ → View
bare k = record { now = k; clock = k; since = λ number args since. since; held = λ i h. nothing }

bare-timely : (k : ℕ) → IsTimely (bare k)
bare-timely k = record { slept = λ w sleeps. refl }

mode-bare : (k : ℕ) (m : Mode) → mode_in (bare k) m ≡ m
mode-bare k Running = refl
mode-bare k Ready = refl
mode-bare k (Waiting w) = refl
mode-bare k (Zombie status) = refl

places-bare : (k : ℕ) (ps : List (Option Process)) → places_in (bare k) ps ≡ map (option_map (holding nothing)) ps
places-bare k [] = refl
places-bare k (None ∷ ps) = ap (λ qs. None ∷ qs) (places-bare k ps)
places-bare k (Some p ∷ ps) =
    ap (λ m. Some (holding nothing (record p { mode = m })) ∷ places_in (bare k) ps) (mode-bare k p.mode)
    ∙ ap (λ qs. Some (holding nothing p) ∷ qs) (places-bare k ps)

state-bare : (s : State) → state_in (bare s.ticks) s ≡ shown s
unfolding state_in shown
state-bare s = ap (λ (ps : List (Option Process)). record s { places = ps }) (places-bare s.ticks s.places)

runs-shown : (s : State) → running (shown s) ≡ running s
runs-shown s = ap running (sym (state-bare s)) ∙ runs-in (bare s.ticks) s

turn-shown : (s : State) → turn (shown s) ≡ turn s
turn-shown s = ap turn (sym (state-bare s)) ∙ turn-timely (bare s.ticks) s (bare-timely s.ticks) refl

idle-shown : (s : State) → is_idle (shown s) ≡ is_idle s
idle-shown s =
    ap (λ (o : Option ℕ). is_none o && is_none (turn (shown s))) (runs-shown s)
    ∙ ap (λ (o : Option ℕ). is_none (running s) && is_none o) (turn-shown s)

any-shown : (test other : Process → Bool) → ((p : Process) → other (holding nothing p) ≡ test p)
    → (ps : List (Option Process))
    → list_any (holds other) (map (option_map (holding nothing)) ps) ≡ list_any (holds test) ps
any-shown test other same [] = refl
any-shown test other same (None ∷ ps) = ap (λ b. false || b) (any-shown test other same ps)
any-shown test other same (Some p ∷ ps) =
    ap (λ b. b || list_any (holds other) (map (option_map (holding nothing)) ps)) (same p)
    ∙ ap (λ b. test p || b) (any-shown test other same ps)

asleep-shown : (s : State) → is_anyone_asleep (shown s) ≡ is_anyone_asleep s
unfolding shown
asleep-shown s = any-shown is_asleep is_asleep (λ p. refl) s.places

sleeps-mode : (s : State) (m : Mode) → sleeps_on_in (shown s) m ≡ sleeps_on_in s m
unfolding shown
sleeps-mode s Running = refl
sleeps-mode s Ready = refl
sleeps-mode s (Waiting w) = refl
sleeps-mode s (Zombie status) = refl

awaited-shown : (s : State) → is_time_awaited (shown s) ≡ is_time_awaited s
unfolding shown
awaited-shown s = any-shown (sleeps_on s) (sleeps_on (shown s)) (λ p. sleeps-mode s p.mode) s.places

late-shown : (s : State) → is_late (shown s) ≡ is_late s
late-shown s =
    ap (λ (o : Option ℕ). is_none o && (is_anyone_asleep (shown s) && not (is_time_awaited (shown s)))) (runs-shown s)
    ∙ ap (λ b. is_none (running s) && (b && not (is_time_awaited (shown s)))) (asleep-shown s)
    ∙ ap (λ b. is_none (running s) && (is_anyone_asleep s && not b)) (awaited-shown s)

-- ---- of interrupts it is seen whether they may come, ..

abbrev pub FreeBy : List ℕ → List Interruption → Type 0
FreeBy keys [] = ⊤
FreeBy keys (i ∷ is) = MayCome keys i.meets i.event × FreeBy (keys_after keys i.event) is

free-later : (keys : List ℕ) (t : State) (es : List Event) (h : Option ℤ)
    → (IsFree keys t es → FreeBy keys (interruptions t es)) → UnlessHalted t (λ u. IsFree keys u es) h
    → FreeBy keys (none_if_halted h (interruptions t es))
free-later keys t es (Some status) rest free = tt
free-later keys t es None rest free = rest free

pub free-by : (keys : List ℕ) (s : State) (es : List Event) → IsFree keys s es → FreeBy keys (interruptions s es)
unfolding IsFree interruptions
free-by keys s [] free = tt
free-by keys s (Step ∷ es) free =
    free-later keys (next s Step).state es (next s Step).state.halted (free-by keys (next s Step).state es) free.1
free-by keys s (Tick ∷ es) free =
    (tt, free-later keys (next s Tick).state es (next s Tick).state.halted (free-by keys (next s Tick).state es) free.1)
free-by keys s (Key b ∷ es) free = (
  (free.0.0, idle-shown s ∙ free.0.1),
  free-later (drop 1 keys) (next s (Key b)).state es
      (next s (Key b)).state.halted (free-by (drop 1 keys) (next s (Key b)).state es) free.1,
)

later-free : (keys : List ℕ) (t : State) (es : List Event) (h : Option ℤ)
    → (FreeBy keys (interruptions t es) → IsFree keys t es) → FreeBy keys (none_if_halted h (interruptions t es))
    → UnlessHalted t (λ u. IsFree keys u es) h
later-free keys t es (Some status) rest free = tt
later-free keys t es None rest free = rest free

pub by-free : (keys : List ℕ) (s : State) (es : List Event) → FreeBy keys (interruptions s es) → IsFree keys s es
unfolding IsFree interruptions
by-free keys s [] free = tt
by-free keys s (Step ∷ es) free =
    (tt, later-free keys (next s Step).state es (next s Step).state.halted (by-free keys (next s Step).state es) free)
by-free keys s (Tick ∷ es) free =
    (tt, later-free keys (next s Tick).state es (next s Tick).state.halted (by-free keys (next s Tick).state es) free.1)
by-free keys s (Key b ∷ es) free = (
  (free.0.0, sym (idle-shown s) ∙ free.0.1),
  later-free (drop 1 keys) (next s (Key b)).state es
      (next s (Key b)).state.halted (by-free (drop 1 keys) (next s (Key b)).state es) free.1,
)

-- ---- .. how many come while a process runs, ..

abbrev busy_by : List Interruption → ℕ
busy_by [] = 0
busy_by (i ∷ is) = busy_in i.meets i.event + busy_by is

busy-later : (h : Option ℤ) (n : ℕ) (is : List Interruption) → n ≡ busy_by is
    → zero_if_halted h n ≡ busy_by (none_if_halted h is)
busy-later (Some status) n is same = refl
busy-later None n is same = same

busy-is : (s : State) (es : List Event) → busy_ticks s es ≡ busy_by (interruptions s es)
unfolding busy_ticks interruptions
busy-is s [] = refl
busy-is s (Step ∷ es) =
    let later = busy-later (next s Step).state.halted _ _ (busy-is (next s Step).state es) in omega (arith, later)
busy-is s (Tick ∷ es) =
    let later = busy-later (next s Tick).state.halted _ _ (busy-is (next s Tick).state es) in
    let here : busy_in s Tick ≡ busy_in (shown s) Tick =
    ap (λ (o : Option ℕ). if is_some o then 1 else 0) (sym (runs-shown s)) in
    omega (arith, later, here)
busy-is s (Key b ∷ es) =
    let later = busy-later (next s (Key b)).state.halted _ _ (busy-is (next s (Key b)).state es) in omega (arith, later)

-- ---- .. and whether any is late

abbrev PromptBy : List Interruption → Type 0
PromptBy [] = ⊤
PromptBy (i ∷ is) = IsPromptIn i.meets i.event × PromptBy is

prompt-later : (t : State) (es : List Event) (h : Option ℤ) → (IsPrompt t es → PromptBy (interruptions t es))
    → UnlessHalted t (λ u. IsPrompt u es) h → PromptBy (none_if_halted h (interruptions t es))
prompt-later t es (Some status) rest prompt = tt
prompt-later t es None rest prompt = rest prompt

prompt-by : (s : State) (es : List Event) → IsPrompt s es → PromptBy (interruptions s es)
unfolding IsPrompt interruptions
prompt-by s [] prompt = tt
prompt-by s (Step ∷ es) prompt =
    prompt-later (next s Step).state es (next s Step).state.halted (prompt-by (next s Step).state es) prompt.1
prompt-by s (Tick ∷ es) prompt = (
  late-shown s ∙ prompt.0,
  prompt-later (next s Tick).state es (next s Tick).state.halted
      (prompt-by (next s Tick).state es) prompt.1,
)
prompt-by s (Key b ∷ es) prompt = (
  tt,
  prompt-later (next s (Key b)).state es (next s (Key b)).state.halted (prompt-by (next s (Key b)).state es)
      prompt.1,
)

later-prompt : (t : State) (es : List Event) (h : Option ℤ) → (PromptBy (interruptions t es) → IsPrompt t es)
    → PromptBy (none_if_halted h (interruptions t es)) → UnlessHalted t (λ u. IsPrompt u es) h
later-prompt t es (Some status) rest prompt = tt
later-prompt t es None rest prompt = rest prompt

by-prompt : (s : State) (es : List Event) → PromptBy (interruptions s es) → IsPrompt s es
unfolding IsPrompt interruptions
by-prompt s [] prompt = tt
by-prompt s (Step ∷ es) prompt =
    (tt, later-prompt (next s Step).state es (next s Step).state.halted (by-prompt (next s Step).state es) prompt)
by-prompt s (Tick ∷ es) prompt = (
  sym (late-shown s) ∙ prompt.0,
  later-prompt (next s Tick).state es (next s Tick).state.halted
      (by-prompt (next s Tick).state es) prompt.1,
)
by-prompt s (Key b ∷ es) prompt = (
  tt,
  later-prompt (next s (Key b)).state es (next s (Key b)).state.halted (by-prompt (next s (Key b)).state es)
      prompt.1,
)

-- ---- all lists

pub left-interrupts : (keys : List ℕ) (es : List Event) → keys_left keys es ≡ keys_left keys (interrupts es)
unfolding interrupts
left-interrupts keys [] = refl
left-interrupts keys (Step ∷ es) = left-interrupts keys es
left-interrupts keys (Tick ∷ es) = left-interrupts keys es
left-interrupts keys (Key b ∷ es) = left-interrupts (drop 1 keys) es

halted-shown : (s t : State) → shown s ≡ shown t → s.halted ≡ t.halted
unfolding shown
halted-shown s t same = ap (λ (u : State). u.halted) same

files-shown : (s t : State) → shown s ≡ shown t → s.files ≡ t.files
unfolding shown
files-shown s t same = ap (λ (u : State). u.files) same

wait-shown : (keys : List ℕ) (s t : State) → shown s ≡ shown t → AllWait keys s → AllWait keys t
wait-shown keys s t same wait = record {
  idle = sym (idle-shown t) ∙ ap is_idle (sym same) ∙ idle-shown s ∙ wait.idle;
  awake = sym (asleep-shown t) ∙ ap is_anyone_asleep (sym same) ∙ asleep-shown s ∙ wait.awake;
  typed = wait.typed;
}

pub over-shown : (keys : List ℕ) (s t : State) → shown s ≡ shown t → IsOver keys s → IsOver keys t
over-shown keys s t same (inl ended) = inl (ap is_some (sym (halted-shown s t same)) ∙ ended)
over-shown keys s t same (inr wait) = inr (wait-shown keys s t same wait)

pub show-same : (a b : After) → ShowsSame a b → ShowSame b a
show-same a b same = record {
  bytes = sym same.bytes;
  status = sym (halted-shown a.state b.state same.state);
  files = λ n within. ap (λ (f : Files). saved_as (slot f n)) (sym (files-shown a.state b.state same.state));
}

module _ (b : Bounds) (m : Missed) (keys : List ℕ) (s : State) (seen : List Path) (told : List Outcome)
    (law : EventKeepsNumbersAlike) (idle : IdleTickChangesNothing) (suffice : InterruptsWithinSuffice)
    (up : s.halted ≡ None) (names : NamesAreThere s) (whole : IsWhole b m keys s seen [] told)
    (clock : HasClock s) where
  reduced-told : (es : List Event) → IsEnding keys s es → IsTried b m s es
      → Reduced (ComputesFor b.spin) s es → IsTold s told (run s es)
  reduced-told es ending tried r =
      let busy : busy_ticks s r.coarse ≡ busy_ticks s es =
      busy-is s r.coarse ∙ ap busy_by r.meet ∙ sym (busy-is s es) in
      let left : keys_left keys r.coarse ≡ keys_left keys es =
      left-interrupts keys r.coarse ∙ ap (λ is. keys_left keys is) r.same ∙ sym (left-interrupts keys es) in
      told-same s told (run s es) (run s r.coarse) (show-same (run s r.coarse) (run s es) r.shows)
      (coarse-told b m keys s seen told law idle up names whole clock r.coarse
      (by-free keys s r.coarse (subst (FreeBy keys) (sym r.meet) (free-by keys s es ending.free)))
      (record {
        few = λ on most bound. omega (arith, tried.few on most bound, busy);
        prompt = λ on. by-prompt s r.coarse (subst PromptBy (sym r.meet) (prompt-by s es (tried.prompt on)));
      })
      r.placed
      (subst (λ ks. IsOver ks (run s r.coarse).state) (sym left)
      (over-shown (keys_left keys es) (run s es).state (run s r.coarse).state (sym r.shows.state) ending.over)))

  complete-as-tried : IsCompleteAsTried b m keys s told
  complete-as-tried es ending tried = reduced-told es ending tried (suffice b.spin s es up)

-- the search is at its end
pub all-tried : (b : Bounds) (keys : List ℕ) (s : State) (seen todo : List Path) (told : List Outcome) (m n : Missed)
    → EventKeepsNumbersAlike → IdleTickChangesNothing → InterruptsWithinSuffice → s.halted ≡ None → HasClock s
    → NamesAreThere s
    → IsGoing b keys s seen todo told m → todo ≡ [] → n ≡ m → is_ticks_alone n ≡ true
    → IsCompleteAsTried b n keys s told
all-tried b keys s seen todo told m n law idle suffice up clock names h none same alone =
    subst (λ (k : Missed). IsCompleteAsTried b k keys s told) (sym same)
    (complete-as-tried b m keys s seen told law idle suffice up names
    (subst (λ ps. IsWhole b m keys s seen ps told) none
    (h.whole (subst (λ (k : Missed). is_ticks_alone k ≡ true) same alone))) clock)

record LeftNone (m : Missed) : Type 0 where
  ticks : m.ticks ≡ false
  late : m.late ≡ false
  alone : is_ticks_alone m ≡ true

none-of : (t s u l p : Bool) → not (t || s || u || l || p) ≡ true
    → (t ≡ false) × (l ≡ false) × (not (s || u || p) ≡ true)
none-of true s u l p h = absurd cc
none-of false true u l p h = absurd cc
none-of false false true l p h = absurd cc
none-of false false false true p h = absurd cc
none-of false false false false true h = absurd cc
none-of false false false false false h = (refl, refl, refl)

left-none : (m : Missed) → is_nothing m ≡ true → LeftNone m
left-none m h =
    let none = none-of m.ticks m.states m.uptime m.late m.stopped h in
    record { ticks = none.0; late = none.1; alone = none.2 }

-- nothing was left out
pub all-told : (b : Bounds) (keys : List ℕ) (s : State) (told : List Outcome) (m : Missed)
    → (is_ticks_alone m ≡ true → IsCompleteAsTried b m keys s told) → is_nothing m ≡ true → IsComplete keys s told
all-told b keys s told m tried nothing es ending =
    let none = left-none m nothing in
    tried none.alone es ending (record {
      few = λ on. absurd (let off = none.ticks in cc);
      prompt = λ on. absurd (let off = none.late in cc);
    })
