-- What states that are alike but late have in common, and a list of events without its late timer interrupts.
use Rattle.std.proofs.Common.{[], ap, arith, Bool, false, inl, inr, List, None, Option, refl, Some, subst, suc, sym}
use Rattle.std.proofs.Common.{true, zero, ℕ, ℤ, ◌+◌, ◌++◌, ◌<◌, ◌^◌, ◌∙◌, ◌∷◌, ◌≡◌}
use Rattle.std.specs.List.{list_any}
use Rattle.std.specs.Prelude.{is_none, is_some, nat_le, not, ◌&&◌, ◌||◌}
use Rattle.lateness.proofs.Laws.{late-halted, late-more}
use Rattle.lateness.proofs.Lasting.{within-more}
use Rattle.lateness.proofs.Numbers.{asked, lasted, settled-over, settled_since}
use Rattle.lateness.proofs.Settling.{settled-clock, settled-computes, settled-runs, settled-turn}
use Rattle.lateness.specs.Late.{AreLateAlike, EventKeepsLateAlike, GoLateAlike, IsLate, IsOverIn, LastsWithin}
use Rattle.lateness.specs.Late.{LateTickChangesNothing, SleepsWithin, mode_settled, places_settled, settled}
use Rattle.lateness.specs.Late.{state_settled, ticks_in, ticks_of}
use Rattle.orders.proofs.Alike.{asleep-back, computes-back, idle-back, late-back}
use Rattle.orders.proofs.Free.{free-first, free-goes, free-none, free-one}
use Rattle.orders.proofs.Plain.{quiet-time}
use Rattle.orders.proofs.Runs.{run-goes, run-none, run-stops}
use Rattle.orders.proofs.Turning.{none-asleep}
use Rattle.orders.specs.Ends.{is_anyone_asleep, is_asleep}
use Rattle.orders.specs.Free.{IsFree, MayCome, is_idle, keys_after, keys_left}
use Rattle.orders.specs.Tried.{IsPrompt, IsPromptIn, is_late, is_time_awaited, sleeps_on, sleeps_on_in}
use Rattle.schedules.specs.Alike.{HasClock, NeverAsksTime, asks_time, is_asleep_in, is_sleep, timeless}
use Rattle.schedules.specs.Coarse.{IsCoarse, IsPlaced}
use Rattle.schedules.specs.Schedules.{ComputesFor, after_steps, computes}
use Rattle.unixmodel.specs.declared.call.Call.{Call}
use Rattle.unixmodel.specs.declared.call.Call.TheVariants.{Sleep}
use Rattle.unixmodel.specs.declared.event.Event.{Event}
use Rattle.unixmodel.specs.declared.event.Event.TheVariants.{Key, Step, Tick}
use Rattle.unixmodel.specs.declared.process.Mode.{Mode}
use Rattle.unixmodel.specs.declared.process.Mode.TheVariants.{Ready, Running, Waiting, Zombie}
use Rattle.unixmodel.specs.Calls.{quiet}
use Rattle.unixmodel.specs.Files.{slot}
use Rattle.unixmodel.specs.Next.{next}
use Rattle.unixmodel.specs.Process.{Process}
use Rattle.unixmodel.specs.ProcessCalls.{has_slept, sleep_time}
use Rattle.unixmodel.specs.Run.{UnlessHalted, after_bytes, run}
use Rattle.unixmodel.specs.State.{State, holds, running}
use Rattle.unixmodel.specs.Turn.{turn}

-- ---- a state in which each sleep that is over has just come to its end

idle-settled : (s : State) → HasClock s → is_idle (state_settled s) ≡ is_idle s
idle-settled s clock =
    ap (λ (o : Option ℕ). is_none o && is_none (turn (state_settled s))) (settled-runs s)
    ∙ ap (λ (o : Option ℕ). is_none (running s) && is_none o) (settled-turn s clock)

mode-asleep : (k : ℕ) (m : Mode) → is_asleep_in (mode_settled k m) ≡ is_asleep_in m
unfolding settled
mode-asleep k Running = refl
mode-asleep k Ready = refl
mode-asleep k (Waiting w) = refl
mode-asleep k (Zombie status) = refl

places-asleep : (k : ℕ) (ps : List (Option Process))
    → list_any (holds is_asleep) (places_settled k ps) ≡ list_any (holds is_asleep) ps
places-asleep k [] = refl
places-asleep k (None ∷ ps) = ap (λ b. false || b) (places-asleep k ps)
places-asleep k (Some p ∷ ps) =
    ap (λ b. b || list_any (holds is_asleep) (places_settled k ps)) (mode-asleep k p.mode)
    ∙ ap (λ b. is_asleep_in p.mode || b) (places-asleep k ps)

asleep-settled : (s : State) → is_anyone_asleep (state_settled s) ≡ is_anyone_asleep s
unfolding state_settled
asleep-settled s = places-asleep s.ticks s.places

mode-sleeps : (s : State) (m : Mode) → sleeps_on_in (state_settled s) (mode_settled s.ticks m) ≡ sleeps_on_in s m
unfolding settled state_settled
mode-sleeps s Running = refl
mode-sleeps s Ready = refl
mode-sleeps s (Waiting w) = go w.number refl
  where
    go : (number : Call) → w.number ≡ number
        → (is_sleep number && not (has_slept (state_settled s) (settled s.ticks w)))
        ≡ (is_sleep number && not (has_slept s w))
    go Sleep same = ap not
        (ap (λ c. nat_le (sleep_time w) (lasted s.ticks (settled_since c s.ticks (asked w.args) w.since))) same
        ∙ settled-over s.ticks (asked w.args) w.since)
    go _ same = refl
mode-sleeps s (Zombie status) = refl

places-sleep : (s : State) (ps : List (Option Process))
    → list_any (holds (sleeps_on (state_settled s))) (places_settled s.ticks ps) ≡ list_any (holds (sleeps_on s)) ps
places-sleep s [] = refl
places-sleep s (None ∷ ps) = ap (λ b. false || b) (places-sleep s ps)
places-sleep s (Some p ∷ ps) =
    ap (λ b. b || list_any (holds (sleeps_on (state_settled s))) (places_settled s.ticks ps)) (mode-sleeps s p.mode)
    ∙ ap (λ b. sleeps_on_in s p.mode || b) (places-sleep s ps)

awaited-settled : (s : State) → is_time_awaited (state_settled s) ≡ is_time_awaited s
unfolding state_settled
awaited-settled s = places-sleep s s.places

late-settled : (s : State) → is_late (state_settled s) ≡ is_late s
late-settled s =
    ap (λ (o : Option ℕ). is_none o && (is_anyone_asleep (state_settled s) && not (is_time_awaited (state_settled s))))
    (settled-runs s)
    ∙ ap (λ b. is_none (running s) && (b && not (is_time_awaited (state_settled s)))) (asleep-settled s)
    ∙ ap (λ b. is_none (running s) && (is_anyone_asleep s && not b)) (awaited-settled s)

-- ---- states that are alike but late

-- what neither clocks nor sleeps that are over change is the same in both
module _ {X : Type 0} (look : State → X) (back : (s : State) → HasClock s → look (timeless s) ≡ look s)
    (settles : (s : State) → HasClock s → look (state_settled s) ≡ look s) where
  looks-same : {n : ℕ} {s t : State} → AreLateAlike n s t → look s ≡ look t
  looks-same {n} {s} {t} h =
      sym (back (state_settled s) (settled-clock s h.first) ∙ settles s h.first) ∙ ap look h.alike
      ∙ back (state_settled t) (settled-clock t h.second) ∙ settles t h.second

pub idle-same : {n : ℕ} {s t : State} → AreLateAlike n s t → is_idle s ≡ is_idle t
idle-same h = looks-same is_idle idle-back idle-settled h

pub asleep-same : {n : ℕ} {s t : State} → AreLateAlike n s t → is_anyone_asleep s ≡ is_anyone_asleep t
asleep-same h = looks-same is_anyone_asleep (λ s clock. asleep-back s) (λ s clock. asleep-settled s) h

computes-same : {n : ℕ} {s t : State} → AreLateAlike n s t → computes s ≡ computes t
computes-same h = looks-same computes (λ s clock. computes-back s) (λ s clock. settled-computes s) h

late-same : {n : ℕ} {s t : State} → AreLateAlike n s t → is_late s ≡ is_late t
late-same h = looks-same is_late late-back (λ s clock. late-settled s) h

-- ---- late states

none-of : {X : Type 0} (test : X → Bool) (xs : List (Option X)) → list_any (holds test) xs ≡ false → (i : ℕ) (x : X)
    → slot xs i ≡ Some x → test x ≡ false
none-of test [] none i x at = absurd cc
none-of test (None ∷ xs) none zero x at = absurd cc
none-of test (None ∷ xs) none (suc i) x at = none-of test xs none i x at
none-of test (Some y ∷ xs) none zero x at =
    let same : y ≡ x = cc in subst (λ z. test z ≡ false) same (or-first (test y) _ none)
  where
    or-first : (a b : Bool) → (a || b) ≡ false → a ≡ false
    or-first true b h = absurd cc
    or-first false b h = refl
none-of test (Some y ∷ xs) none (suc i) x at = none-of test xs (or-second (test y) _ none) i x at
  where
    or-second : (a b : Bool) → (a || b) ≡ false → b ≡ false
    or-second true b h = absurd cc
    or-second false b h = h

over-mode : (s : State) (m : Mode) → sleeps_on_in s m ≡ false → IsOverIn s.ticks m
over-mode s Running off = tt
over-mode s Ready off = tt
over-mode s (Waiting w) off = λ sleeps. by (is_sleep w.number) (has_slept s w) sleeps off
  where
    by : (a b : Bool) → a ≡ true → (a && not b) ≡ false → b ≡ true
    by true true sleeps off = refl
    by true false sleeps off = absurd cc
    by false b sleeps off = absurd cc
over-mode s (Zombie status) off = tt

late-parts : (a b c : Bool) → (a && (b && not c)) ≡ true → (a ≡ true) × (c ≡ false)
late-parts true true true late = absurd cc
late-parts true true false late = (refl, refl)
late-parts true false c late = absurd cc
late-parts false b c late = absurd cc

none-some : (o : Option ℕ) → is_none o ≡ true → o ≡ None
none-some None none = refl
none-some (Some n) none = absurd cc

late-is : (s : State) → is_late s ≡ true → IsLate s
late-is s late =
    let parts = late-parts (is_none (running s)) (is_anyone_asleep s) (is_time_awaited s) late in
    record {
      none = none-some (running s) parts.0;
      over = λ i p at. over-mode s p.mode (none-of (sleeps_on s) s.places parts.1 i p at);
    }

awake-mode : (k : ℕ) (m : Mode) → is_asleep_in m ≡ false → LastsWithin 0 k m
awake-mode k Running awake = tt
awake-mode k Ready awake = tt
awake-mode k (Waiting w) awake = λ sleeps. absurd (let both : true ≡ false = sym sleeps ∙ awake in cc)
awake-mode k (Zombie status) awake = tt

-- where none sleeps no sleep has lasted
pub awake-within : (s : State) → is_anyone_asleep s ≡ false → SleepsWithin 0 s
awake-within s awake i p at = awake-mode s.ticks p.mode (none-asleep s.places awake i p at)

-- ---- processes that compute

module _ (law : EventKeepsLateAlike) {n : ℕ} (short : n < 2 ^ 32) where
  step-late : {s t : State} → AreLateAlike n s t → computes t ≡ true
      → AreLateAlike n (next s Step).state (next t Step).state
  step-late {s} {t} h done =
      late-more (n + 0) n (next s Step).state (next t Step).state (omega arith)
      (law n s t Step h (omega (arith, short)) (quiet-time s (computes-same h ∙ done))).states

  steps-late : (k : ℕ) {s t : State} → AreLateAlike n s t → ComputesFor k t
      → AreLateAlike n (after_steps k s) (after_steps k t)
  unfolding after_steps
  steps-late zero h all = h
  steps-late (suc k) h all =
      steps-late k (step-late h (all zero (omega arith))) (λ j less. all (suc j) (omega (arith, less)))

  computes-for-late : (k : ℕ) {s t : State} → AreLateAlike n s t → ComputesFor k t → ComputesFor k s
  computes-for-late k h all j less =
      computes-same (steps-late j h (λ i below. all i (omega (arith, less, below)))) ∙ all j less

  placed-late : (spin : ℕ) {s t : State} (e : Event) → AreLateAlike n s t → IsPlaced (ComputesFor spin) t e
      → IsPlaced (ComputesFor spin) s e
  placed-late spin Step h placed = tt
  placed-late spin Tick h (inl stops) = inl (computes-same h ∙ stops)
  placed-late spin Tick h (inr endless) = inr (computes-for-late spin h endless)
  placed-late spin (Key b) h placed = tt

may-late : {n : ℕ} {s t : State} (keys : List ℕ) (e : Event) → AreLateAlike n s t → MayCome keys t e
    → MayCome keys s e
may-late keys Step h may = tt
may-late keys Tick h may = tt
may-late keys (Key b) h may = (may.0, idle-same h ∙ may.1)

-- ---- a list of events without its late timer interrupts

-- by which the same shows, from states that are alike but late
pub record Prompted (spin : ℕ) (keys : List ℕ) (n : ℕ) (s t : State) (es : List Event) : Type 0 where
  pub prompt : List Event
  pub free : IsFree keys s prompt
  pub coarse : IsCoarse (ComputesFor spin) s prompt
  pub never_late : IsPrompt s prompt
  pub left : keys_left keys prompt ≡ keys_left keys es
  pub shows : GoLateAlike n (run s prompt) (run t es)

-- in no event of such lists a process asks for the time
abbrev pub AllQuiet : ℕ → List ℕ → State → Type 0
AllQuiet spin keys s = (es : List Event) → IsFree keys s es → IsCoarse (ComputesFor spin) s es → IsPrompt s es
    → NeverAsksTime s es

unless-goes : (t : State) (Rest : State → Type 0) {h : Option ℤ} → h ≡ None → Rest t → UnlessHalted t Rest h
unless-goes t Rest goes rest = subst (UnlessHalted t Rest) (sym goes) rest

unless-ends : (t : State) (Rest : State → Type 0) {h : Option ℤ} {status : ℤ} → h ≡ Some status
    → UnlessHalted t Rest h
unless-ends t Rest ended = subst (UnlessHalted t Rest) (sym ended) tt

-- the event is a late timer interrupt
abbrev is_late_tick : State → Event → Bool
is_late_tick s Step = false
is_late_tick s Tick = is_late s
is_late_tick s (Key b) = false

prompt-of : (s : State) (e : Event) → is_late_tick s e ≡ false → IsPromptIn s e
prompt-of s Step prompt = tt
prompt-of s Tick prompt = prompt
prompt-of s (Key b) prompt = tt

module _ (spin : ℕ) (law : EventKeepsLateAlike) (late : LateTickChangesNothing) where
  -- what is left of a list has one
  abbrev Prompts : List Event → Type 0
  Prompts es = (keys : List ℕ) (n : ℕ) (s t : State) → AreLateAlike n s t → n + ticks_in es < 2 ^ 32
      → s.halted ≡ None → AllQuiet spin keys s → IsFree keys t es → IsCoarse (ComputesFor spin) t es
      → Prompted spin keys (n + ticks_in es) s t es

  prompts-none : Prompts []
  unfolding IsCoarse IsPrompt
  prompts-none keys n s t h short goes quietly free coarse = record {
    prompt = [];
    free = free-none keys s;
    coarse = tt;
    never_late = tt;
    left = refl;
    shows = subst (λ a. GoLateAlike (n + 0) a (run t [])) (sym (run-none s))
        (subst (λ a. GoLateAlike (n + 0) (quiet s) a) (sym (run-none t))
        (record { bytes = refl; states = late-more n (n + 0) s t (omega arith) h }));
  }

  coarse-goes : (t : State) (e : Event) (es : List Event) → (next t e).state.halted ≡ None
      → IsCoarse (ComputesFor spin) t (e ∷ es) → IsCoarse (ComputesFor spin) (next t e).state es
  unfolding IsCoarse
  coarse-goes t e es goes h = subst (UnlessHalted (next t e).state (λ u. IsCoarse (ComputesFor spin) u es)) goes h.1

  coarse-first : (t : State) (e : Event) (es : List Event) → IsCoarse (ComputesFor spin) t (e ∷ es)
      → IsPlaced (ComputesFor spin) t e
  unfolding IsCoarse
  coarse-first t e es h = h.0

  -- a late one is left out
  module _ (keys : List ℕ) (n : ℕ) (s t : State) (h : AreLateAlike n s t) (es : List Event)
      (short : n + ticks_in (Tick ∷ es) < 2 ^ 32) (goes : s.halted ≡ None) (is : is_late s ≡ true) where
    abbrev ticked : State
    ticked = (next t Tick).state

    tick-late : AreLateAlike (n + 1) t ticked
    tick-late = late n t h.second h.other_within (omega (arith, short)) (late-is t (sym (late-same h) ∙ is))

    still-late : AreLateAlike (n + 1) s ticked
    still-late = record {
      alike = h.alike ∙ tick-late.alike;
      first = h.first;
      second = tick-late.second;
      within = within-more n (n + 1) s (omega arith) h.within;
      other_within = tick-late.other_within;
    }

    tick-goes : ticked.halted ≡ None
    tick-goes = sym (late-halted t ticked tick-late.alike) ∙ sym (late-halted s t h.alike) ∙ goes

    tick-runs : run t (Tick ∷ es) ≡ run ticked es
    unfolding next
    tick-runs = run-goes t Tick es tick-goes

    prompts-late : Prompts es → AllQuiet spin keys s → IsFree keys t (Tick ∷ es)
        → IsCoarse (ComputesFor spin) t (Tick ∷ es) → Prompted spin keys (n + ticks_in (Tick ∷ es)) s t (Tick ∷ es)
    prompts-late rest quietly free coarse =
        let more : n + 1 + ticks_in es ≡ n + ticks_in (Tick ∷ es) = omega arith in
        let p = rest keys (n + 1) s ticked still-late (omega (arith, short)) goes quietly
        (free-goes keys t Tick es tick-goes free) (coarse-goes t Tick es tick-goes coarse) in
        record {
          prompt = p.prompt;
          free = p.free;
          coarse = p.coarse;
          never_late = p.never_late;
          left = p.left;
          shows = subst (λ m. GoLateAlike m (run s p.prompt) (run t (Tick ∷ es))) more
              (subst (λ a. GoLateAlike (n + 1 + ticks_in es) (run s p.prompt) a) (sym tick-runs) p.shows);
        }

  -- any other event stays
  module _ (keys : List ℕ) (n : ℕ) (s t : State) (h : AreLateAlike n s t) (e : Event) (es : List Event)
      (short : n + ticks_in (e ∷ es) < 2 ^ 32) (goes : s.halted ≡ None) (quietly : AllQuiet spin keys s)
      (prompt : IsPromptIn s e) (may : MayCome keys s e) (placed : IsPlaced (ComputesFor spin) s e) where
    one-coarse : IsCoarse (ComputesFor spin) s (e ∷ [])
    unfolding IsCoarse
    one-coarse = (placed, all-end (next s e).state.halted)
      where
        all-end : (o : Option ℤ) → UnlessHalted (next s e).state (λ u. IsCoarse (ComputesFor spin) u []) o
        all-end None = tt
        all-end (Some status) = tt

    one-prompt : IsPrompt s (e ∷ [])
    unfolding IsPrompt
    one-prompt = (prompt, all-end (next s e).state.halted)
      where
        all-end : (o : Option ℤ) → UnlessHalted (next s e).state (λ u. IsPrompt u []) o
        all-end None = tt
        all-end (Some status) = tt

    one-quiet : asks_time s e ≡ false
    unfolding NeverAsksTime
    one-quiet = (quietly (e ∷ []) (free-one keys s e may) one-coarse one-prompt).0

    both-go : GoLateAlike (n + ticks_of e) (next s e) (next t e)
    both-go = law n s t e h (omega (arith, short)) one-quiet

    ends-same : (next s e).state.halted ≡ (next t e).state.halted
    ends-same = late-halted (next s e).state (next t e).state both-go.states.alike

    -- it ends process 1
    prompts-end : (status : ℤ) → (next s e).state.halted ≡ Some status
        → Prompted spin keys (n + ticks_in (e ∷ es)) s t (e ∷ es)
    unfolding IsCoarse IsPrompt IsFree
    prompts-end status ended = record {
      prompt = e ∷ es;
      free = (may, unless-ends (next s e).state (λ u. IsFree (keys_after keys e) u es) ended);
      coarse = (placed, unless-ends (next s e).state (λ u. IsCoarse (ComputesFor spin) u es) ended);
      never_late = (prompt, unless-ends (next s e).state (λ u. IsPrompt u es) ended);
      left = refl;
      shows =
          subst (λ a. GoLateAlike (n + ticks_in (e ∷ es)) a (run t (e ∷ es)))
          (sym (run-stops s e es (ap is_some ended)))
          (subst (λ a. GoLateAlike (n + ticks_in (e ∷ es)) (next s e) a)
          (sym (run-stops t e es (ap is_some (sym ends-same ∙ ended))))
          (record {
            bytes = both-go.bytes;
            states = late-more (n + ticks_of e) (n + ticks_in (e ∷ es)) (next s e).state (next t e).state (omega arith)
                both-go.states;
          }));
    }

    -- it doesn't
    module _ (on : (next s e).state.halted ≡ None) where
      later-quiet : AllQuiet spin (keys_after keys e) (next s e).state
      unfolding IsCoarse IsPrompt IsFree NeverAsksTime
      later-quiet fs free coarse never = subst (UnlessHalted (next s e).state (λ u. NeverAsksTime u fs)) on
          (quietly (e ∷ fs) (may, unless-goes (next s e).state (λ u. IsFree (keys_after keys e) u fs) on free)
          (placed, unless-goes (next s e).state (λ u. IsCoarse (ComputesFor spin) u fs) on coarse)
          (prompt, unless-goes (next s e).state (λ u. IsPrompt u fs) on never)).1

      prompts-on : Prompts es → IsFree keys t (e ∷ es) → IsCoarse (ComputesFor spin) t (e ∷ es)
          → Prompted spin keys (n + ticks_in (e ∷ es)) s t (e ∷ es)
      unfolding IsCoarse IsPrompt IsFree
      prompts-on rest free coarse =
          let on-too : (next t e).state.halted ≡ None = sym ends-same ∙ on in
          let more : n + ticks_of e + ticks_in es ≡ n + ticks_in (e ∷ es) = omega arith in
          let p = rest (keys_after keys e) (n + ticks_of e) (next s e).state (next t e).state both-go.states
          (omega (arith, short)) on later-quiet (free-goes keys t e es on-too free)
          (coarse-goes t e es on-too coarse) in
          record {
            prompt = e ∷ p.prompt;
            free = (may, unless-goes (next s e).state (λ u. IsFree (keys_after keys e) u p.prompt) on p.free);
            coarse = (placed, unless-goes (next s e).state (λ u. IsCoarse (ComputesFor spin) u p.prompt) on p.coarse);
            never_late = (prompt, unless-goes (next s e).state (λ u. IsPrompt u p.prompt) on p.never_late);
            left = p.left;
            shows =
                subst (λ a. GoLateAlike (n + ticks_in (e ∷ es)) a (run t (e ∷ es))) (sym (run-goes s e p.prompt on))
                (subst (λ a. GoLateAlike (n + ticks_in (e ∷ es)) (after_bytes (next s e).bytes
                (run (next s e).state p.prompt)) a) (sym (run-goes t e es on-too))
                (subst (λ m. GoLateAlike m (after_bytes (next s e).bytes (run (next s e).state p.prompt))
                (after_bytes (next t e).bytes (run (next t e).state es))) more (record {
                  bytes = ap (λ bs. bs ++ (run (next s e).state p.prompt).bytes) both-go.bytes
                      ∙ ap (λ bs. (next t e).bytes ++ bs) p.shows.bytes;
                  states = p.shows.states;
                })));
          }

    prompts-kept : Prompts es → IsFree keys t (e ∷ es) → IsCoarse (ComputesFor spin) t (e ∷ es)
        → Prompted spin keys (n + ticks_in (e ∷ es)) s t (e ∷ es)
    prompts-kept rest free coarse = by (next s e).state.halted refl
      where
        by : (o : Option ℤ) → (next s e).state.halted ≡ o → Prompted spin keys (n + ticks_in (e ∷ es)) s t (e ∷ es)
        by None on = prompts-on on rest free coarse
        by (Some status) ended = prompts-end status ended

  prompts-more : (e : Event) (es : List Event) → Prompts es → Prompts (e ∷ es)
  prompts-more e es rest keys n s t h short goes quietly free coarse = by e (is_late_tick s e) refl short free coarse
    where
      by : (e : Event) (b : Bool) → is_late_tick s e ≡ b → n + ticks_in (e ∷ es) < 2 ^ 32 → IsFree keys t (e ∷ es)
          → IsCoarse (ComputesFor spin) t (e ∷ es) → Prompted spin keys (n + ticks_in (e ∷ es)) s t (e ∷ es)
      by e false is short free coarse =
          prompts-kept keys n s t h e es short goes quietly (prompt-of s e is)
          (may-late keys e h (free-first keys t e es free))
          (placed-late law (omega (arith, short)) spin e h (coarse-first t e es coarse)) rest free coarse
      by Tick true is short free coarse = prompts-late keys n s t h es short goes is rest quietly free coarse
      by Step true is short free coarse = absurd cc
      by (Key b) true is short free coarse = absurd cc

  pub prompts : (es : List Event) → Prompts es
  prompts [] = prompts-none
  prompts (e ∷ es) = prompts-more e es (prompts es)
