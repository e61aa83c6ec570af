-- For each list of events there is one whose timer interrupts come before calls and faults, by which the same shows.
use Rattle.std.proofs.Common.{◌++◌, [], ap, Bool, false, inl, inr, List, None, Option, refl, set, Some, subst, suc}
use Rattle.std.proofs.Common.{sym, true, zero, ℕ, ℤ, ◌∙◌, ◌∷◌, ◌≡◌, ◌≢◌, arith}
use Rattle.std.proofs.lemmas.Bool.{cases_eq}
use Rattle.std.proofs.lemmas.List.{get_or-set_other}
use Rattle.std.proofs.lemmas.Option.{cond_some, same_Some}
use Rattle.std.specs.Prelude.{option_map, ◌⊎◌}
use Rattle.schedules.proofs.Ahead.{Computes, IsAhead, IsAheadAt, MayBeAhead, ahead, aside-ahead}
use Rattle.schedules.proofs.Ahead.{computes-ahead, computes-here, computes-more, count-elsewhere, count-here}
use Rattle.schedules.proofs.Ahead.{goes-ahead}
use Rattle.schedules.proofs.Ahead.{halted-ahead, level, makes-up, none-ahead, shown-ahead, with_count}
use Rattle.schedules.proofs.Computing.{held_for, held_next, runner, computed-holds}
use Rattle.schedules.proofs.Holding.{after_all, event-else, map-same, reworked_all, runs-else}
use Rattle.schedules.proofs.Staying.{after-tick, count_in, still-ahead}
use Rattle.schedules.proofs.Ticks.{written-at}
use Rattle.schedules.proofs.Steps.{local-keeps, running-stays, step-private}
use Rattle.schedules.specs.Coarse.{ComesToCall, InterruptsBeforeCallsSuffice, InterruptsWithinSuffice, IsCoarse}
use Rattle.schedules.specs.Coarse.{Interruption, IsPlaced, Reduced, RunsOn, ShowsSame, interruptions, interrupts}
use Rattle.schedules.specs.Coarse.{none_if_halted, shown, with_interrupt}
use Rattle.schedules.specs.Holding.{acting, acts_in_step, acts_in_turn, held, is_waiting, is_waiting_mode}
use Rattle.schedules.specs.Holding.{reworked}
use Rattle.schedules.specs.Schedules.{ComputesFor, after_steps, computed, computes, computes_in}
use Rattle.unixmodel.specs.Calls.{After, quiet}
use Rattle.unixmodel.specs.Next.{next}
use Rattle.unixmodel.specs.Files.{slot}
use Rattle.unixmodel.specs.Process.{Process, is_running, is_running_mode}
use Rattle.unixmodel.specs.Run.{UnlessHalted, after_bytes, followed_by, run}
use Rattle.unixmodel.specs.State.{State, change_process, holds, process_at, running}
use Rattle.unixmodel.specs.Turn.{turn}
use Rattle.unixmodel.specs.declared.event.Event.{Event}
use Rattle.unixmodel.specs.declared.event.Event.TheVariants.{Key, Step, Tick}
use Rattle.unixmodel.specs.declared.process.Mode.{Mode}
use Rattle.unixmodel.specs.declared.process.Mode.TheVariants.{Ready, Running, Waiting, Zombie}

-- ---- a list that shows from one state what another list shows from another

record Follows (Endless : State → Type 0) (t s : State) (events : List Event) : Type 0 where
  coarse : List Event
  placed : IsCoarse Endless t coarse
  same : interrupts coarse ≡ interrupts events
  meet : interruptions t coarse ≡ interruptions s events
  shows : ShowsSame (run t coarse) (run s events)

unless-none : (t : State) (Rest : State → Type 0) (h : Option ℤ) → (h ≡ None → Rest t) → UnlessHalted t Rest h
unless-none t Rest (Some status) rest = tt
unless-none t Rest None rest = rest refl

goes-on : (a : After) (rest : State → After) → a.state.halted ≡ None → a.bytes ≡ []
    → followed_by a rest a.state.halted ≡ rest a.state
goes-on a rest goes silent =
    ap (followed_by a rest) goes ∙ ap (λ (bytes : List ℕ). after_bytes bytes (rest a.state)) silent

-- ---- a computing step first

module _ (t : State) (r : ℕ) (goes : t.halted ≡ None) (runs : running t ≡ Some r) (done : computes t ≡ true) where
  after-one : next t Step ≡ quiet (change_process t r computed)
  after-one = step-private t r runs done

  goes-still : (next t Step).state.halted ≡ None
  goes-still = ap (λ (a : After). a.state.halted) after-one ∙ goes

  run-step : (events : List Event) → run t (Step ∷ events) ≡ run (next t Step).state events
  unfolding run
  run-step events = goes-on (next t Step) (λ u. run u events) goes-still (ap (λ (a : After). a.bytes) after-one)

  meet-step : (events : List Event) → interruptions t (Step ∷ events) ≡ interruptions (next t Step).state events
  unfolding interruptions
  meet-step events = ap (λ h. none_if_halted h (interruptions (next t Step).state events)) goes-still

  step-first : (Endless : State → Type 0) (s : State) (events : List Event)
      → Follows Endless (next t Step).state s events → Follows Endless t s events
  unfolding IsCoarse interrupts
  step-first Endless s events rest = record {
    coarse = Step ∷ rest.coarse;
    placed = (
      tt,
      unless-none (next t Step).state (λ u. IsCoarse Endless u rest.coarse) (next t Step).state.halted
          (λ goes. rest.placed),
    );
    same = rest.same;
    meet = meet-step rest.coarse ∙ rest.meet;
    shows = subst (λ a. ShowsSame a (run s events)) (sym (run-step rest.coarse)) rest.shows;
  }

-- ---- the same event first

interrupts-more : (e : Event) (some other : List Event) → interrupts some ≡ interrupts other
    → interrupts (e ∷ some) ≡ interrupts (e ∷ other)
unfolding interrupts
interrupts-more Step some other same = same
interrupts-more Tick some other same = ap (λ es. Tick ∷ es) same
interrupts-more (Key b) some other same = ap (λ es. Key b ∷ es) same

shows-next : (b a : After) (some other : State → After) (u h : Option ℤ) → u ≡ h → b.bytes ≡ a.bytes
    → shown b.state ≡ shown a.state → (h ≡ None → ShowsSame (some b.state) (other a.state))
    → ShowsSame (followed_by b some u) (followed_by a other h)
shows-next b a some other u (Some status) is bytes state rest =
    subst (λ o. ShowsSame (followed_by b some o) a) (sym is) (record { bytes = bytes; state = state })
shows-next b a some other u None is bytes state rest =
    let later = rest refl in
    subst (λ o. ShowsSame (followed_by b some o) (after_bytes a.bytes (other a.state))) (sym is) (record {
      bytes = ap (λ x. x ++ (some b.state).bytes) bytes ∙ ap (λ x. a.bytes ++ x) later.bytes;
      state = later.state;
    })

-- what comes after it, if it doesn't halt
record Later (Endless : State → Type 0) (t s : State) (events : List Event) (h : Option ℤ) : Type 0 where
  coarse : List Event
  same : interrupts coarse ≡ interrupts events
  placed : h ≡ None → IsCoarse Endless t coarse
  meet : none_if_halted h (interruptions t coarse) ≡ none_if_halted h (interruptions s events)
  shows : h ≡ None → ShowsSame (run t coarse) (run s events)

coarse-after : (Endless : State → Type 0) (t s : State) (events : List Event) (h : Option ℤ)
    → (h ≡ None → Follows Endless t s events) → Later Endless t s events h
coarse-after Endless t s events (Some status) rest = record {
  coarse = events;
  same = refl;
  placed = λ goes. absurd cc;
  meet = refl;
  shows = λ goes. absurd cc;
}
coarse-after Endless t s events None rest =
    let more = rest refl in record {
      coarse = more.coarse;
      same = more.same;
      placed = λ goes. more.placed;
      meet = more.meet;
      shows = λ goes. more.shows;
    }

-- an interrupt meets what shows
meets-same : (s t : State) (e : Event) (some other : List Interruption) → shown t ≡ shown s → some ≡ other
    → with_interrupt t e some ≡ with_interrupt s e other
meets-same s t Step some other same later = later
meets-same s t Tick some other same later =
    ap (λ (x : State). let i : Interruption = record { event = Tick; meets = x } in i ∷ some) same
    ∙ ap (λ is. let i : Interruption = record { event = Tick; meets = shown s } in i ∷ is) later
meets-same s t (Key b) some other same later =
    ap (λ (x : State). let i : Interruption = record { event = Key b; meets = x } in i ∷ some) same
    ∙ ap (λ is. let i : Interruption = record { event = Key b; meets = shown s } in i ∷ is) later

module _ (Endless : State → Type 0) (k : ℕ → ℕ) (s : State) (e : Event) (events : List Event)
    (may : IsAhead k s) (level : (n : ℕ) → acting s e ≡ Some n → k n ≡ 0)
    (fits : IsPlaced Endless (ahead k s) e) where
  event-ahead : next (ahead k s) e ≡ after_all (λ n. held_for (k n)) (next s e)
  event-ahead = event-else (λ n. held_for (k n)) s e (aside-ahead k s (acting s e) may level)

  same-first : ((next s e).state.halted ≡ None → Follows Endless (ahead k (next s e).state) (next s e).state events)
      → Follows Endless (ahead k s) s (e ∷ events)
  unfolding IsCoarse run interruptions
  same-first rest =
      let a = next s e in
      let b = next (ahead k s) e in
      let halts : b.state.halted ≡ a.state.halted = ap (λ (c : After). c.state.halted) event-ahead
      ∙ halted-ahead k a.state in
      let state : b.state ≡ ahead k a.state = ap (λ (c : After). c.state) event-ahead in
      let more = coarse-after Endless (ahead k a.state) a.state events a.state.halted rest in
      record {
        coarse = e ∷ more.coarse;
        placed = (
          fits,
          unless-none b.state (λ u. IsCoarse Endless u more.coarse) b.state.halted
              (λ goes. subst (λ u. IsCoarse Endless u more.coarse) (sym state) (more.placed (sym halts ∙ goes))),
        );
        same = interrupts-more e more.coarse events more.same;
        meet = meets-same s (ahead k s) e _ _ (shown-ahead k s)
            (ap (λ h. none_if_halted h (interruptions b.state more.coarse)) halts
            ∙ ap (λ u. none_if_halted a.state.halted (interruptions u more.coarse)) state ∙ more.meet);
        shows = shows-next b a (λ u. run u more.coarse) (λ u. run u events) b.state.halted a.state.halted halts
            (ap (λ (c : After). c.bytes) event-ahead) (ap shown state ∙ shown-ahead k a.state)
            (λ goes. subst (λ u. ShowsSame (run u more.coarse) (run a.state events)) (sym state) (more.shows goes));
      }

-- ---- who is ahead after a step of its own

-- the process in slot r has another count
one-ahead : (k : ℕ → ℕ) (s t : State) (r m : ℕ) → running t ≡ running s
    → ((n : ℕ) → n ≢ r → process_at t n ≡ process_at s n) → IsAheadAt m (running t) r (process_at t r) → IsAhead k s
    → IsAhead (with_count r m k) t
one-ahead k s t r m runs others here may n = elim (cases_eq n r) [
  | inl same ↦ subst (λ n. IsAheadAt (with_count r m k n) (running t) n (process_at t n)) (sym same)
      (subst (λ c. IsAheadAt c (running t) r (process_at t r)) (sym (count-here r m k)) here)
  | inr other ↦ subst (λ c. IsAheadAt c (running t) n (process_at t n)) (sym (count-elsewhere r m k n other))
      (subst (λ o. IsAheadAt (k n) o n (process_at t n)) (sym runs)
      (subst (IsAheadAt (k n) (running s) n) (sym (others n other)) (may n)))
]

runner-may : (m r : ℕ) (runs : Option ℕ) (mode : Mode) → runs ≡ Some r → is_running_mode mode ≡ true
    → MayBeAhead m runs r mode
runner-may m r runs Running is running = inr is
runner-may m r runs Ready is running = absurd cc
runner-may m r runs (Waiting w) is running = absurd cc
runner-may m r runs (Zombie status) is running = absurd cc

module _ (k : ℕ → ℕ) (s : State) (r : ℕ) (p : Process) (runs : running s ≡ Some r) (at : process_at s r ≡ Some p)
    (is : is_running p ≡ true) (may : IsAhead k s) where
  computes-so-far : Computes (k r) (held p)
  computes-so-far =
      let here : IsAheadAt (k r) (running s) r (Some p) = subst (IsAheadAt (k r) (running s) r) at (may r) in here.0

  -- it is ahead by one step more
  one-more : computes (ahead k s) ≡ true → IsAhead (with_count r (suc (k r)) k) s
  one-more done =
      one-ahead k s s r (suc (k r)) refl (λ n other. refl)
      (subst (IsAheadAt (suc (k r)) (running s) r) (sym at) (
        computes-more (k r) (held p) computes-so-far (sym (computes-ahead k s r p runs at) ∙ done),
        runner-may (suc (k r)) r (running s) p.mode runs is,
      ))
      may

  -- it makes up for one
  one-less : (m : ℕ) → Computes m (held_next (held p)) → IsAhead (with_count r m k) (change_process s r computed)
  one-less m all =
      let t = change_process s r computed in
      let now : process_at t r ≡ Some (computed p) =
      ap (λ (o : Option Process). slot (set s.places r (option_map computed o)) r) at
      ∙ written-at s.places r p (computed p) at in
      one-ahead k s t r m (running-stays s r)
      (λ n other. get_or-set_other s.places r n (option_map computed (process_at s r)) None other)
      (subst (IsAheadAt m (running t) r) (sym now) (
        subst (Computes m) (sym (ap held (computed-holds p))) all,
        runner-may m r (running t) (computed p).mode (running-stays s r ∙ runs)
            (ap is_running_mode (local-keeps p) ∙ is),
      ))
      may

-- ---- lists of events

abbrev Reduces : (State → Type 0) → List Event → Type 0
Reduces Endless events = (s : State) (k : ℕ → ℕ) → s.halted ≡ None → IsAhead k s → Follows Endless (ahead k s) s events

-- ---- one that begins with an interrupt

nobody-ticks : (s : State) (n : ℕ) → acting s Tick ≡ Some n → ⊥
unfolding acting
nobody-ticks s n acts = cc

nobody-types : (s : State) (b n : ℕ) → acting s (Key b) ≡ Some n → ⊥
unfolding acting
nobody-types s b n acts = cc

idle-computes : (s : State) → running s ≡ None → computes s ≡ false
unfolding computes
idle-computes s none = ap (computes_in s) none

module _ (Endless : State → Type 0) (events : List Event) (rest : Reduces Endless events) where
  tick-now : (s : State) (k : ℕ → ℕ) → IsAhead k s → IsPlaced Endless (ahead k s) Tick
      → Follows Endless (ahead k s) s (Tick ∷ events)
  tick-now s k may placed =
      same-first Endless k s Tick events may (λ n acts. absurd (nobody-ticks s n acts)) placed
      (λ goes. rest (next s Tick).state k goes (after-tick k s may))

  -- the process comes to a call or a fault after n steps, and the interrupt there
  tick-later : (n : ℕ) (s : State) (r : ℕ) (k : ℕ → ℕ) → s.halted ≡ None → running s ≡ Some r → IsAhead k s
      → ComputesFor n (ahead k s) → computes (after_steps n (ahead k s)) ≡ false
      → Follows Endless (ahead k s) s (Tick ∷ events)
  unfolding after_steps
  tick-later zero s r k goes runs may all stops = tick-now s k may (inl stops)
  tick-later (suc n) s r k goes runs may all stops =
      let t = ahead k s in
      let here = runner s r runs in
      let first = runs-else (λ n. held_for (k n)) s ∙ runs in
      let done : computes t ≡ true = all 0 (omega arith) in
      let more = with_count r (suc (k r)) k in
      let is : (next t Step).state ≡ ahead more s =
      ap (λ (a : After). a.state) (step-private t r first done) ∙ goes-ahead k s r in
      step-first t r (halted-ahead k s ∙ goes) first done Endless s (Tick ∷ events)
      (subst (λ u. Follows Endless u s (Tick ∷ events)) (sym is)
      (tick-later n s r more goes runs (one-more k s r here.0 runs here.1 here.2 may done)
      (subst (ComputesFor n) is (λ j less. all (suc j) (omega (arith, less))))
      (subst (λ u. computes (after_steps n u) ≡ false) is stops)))

  tick-reduces : ((s : State) → ComesToCall s ⊎ Endless s) → Reduces Endless (Tick ∷ events)
  tick-reduces decide s k goes may = go (running s) refl
    where
      go : (o : Option ℕ) → running s ≡ o → Follows Endless (ahead k s) s (Tick ∷ events)
      go None none = tick-now s k may
          (inl (idle-computes (ahead k s) (runs-else (λ n. held_for (k n)) s ∙ none)))
      go (Some r) runs = elim (decide (ahead k s)) [
        | inl call ↦ tick-later call.steps s r k goes runs may call.all call.stops
        | inr endless ↦ tick-now s k may (inr endless)
      ]

  key-reduces : (b : ℕ) → Reduces Endless (Key b ∷ events)
  unfolding next
  key-reduces b s k goes may =
      same-first Endless k s (Key b) events may (λ n acts. absurd (nobody-types s b n acts)) tt
      (λ goes. rest (next s (Key b)).state k goes (λ n. may n))

-- ---- one that begins with a step

-- whoever waits isn't ahead
waits-level : (m n : ℕ) (runs : Option ℕ) (o : Option Process) → holds is_waiting o ≡ true → IsAheadAt m runs n o
    → m ≡ 0
waits-level m n runs None waits may = absurd cc
waits-level m n runs (Some p) waits may = go p.mode waits may.1
  where
    go : (mode : Mode) → is_waiting_mode mode ≡ true → MayBeAhead m runs n mode → m ≡ 0
    go Running waits may = absurd cc
    go Ready waits may = absurd cc
    go (Waiting w) waits may = may
    go (Zombie status) waits may = absurd cc

turn-level : (k : ℕ → ℕ) (s : State) (o : Option ℕ) (n : ℕ) → acts_in_turn s o ≡ Some n → IsAhead k s → k n ≡ 0
turn-level k s None n acts may = absurd cc
turn-level k s (Some j) n acts may =
    let waits = cond_some (holds is_waiting (process_at s j)) j n acts in
    ap k (sym waits.1) ∙ waits-level (k j) j (running s) (process_at s j) waits.0 (may j)

step-level : (k : ℕ → ℕ) (s : State) (o : Option ℕ) → running s ≡ o → ((r : ℕ) → o ≡ Some r → k r ≡ 0) → IsAhead k s
    → (n : ℕ) → acting s Step ≡ Some n → k n ≡ 0
unfolding acting
step-level k s None none level may n acts =
    turn-level k s (turn s) n (sym (ap (acts_in_step s) none) ∙ acts) may
step-level k s (Some r) runs level may n acts = level n (sym (ap (acts_in_step s) runs) ∙ acts)

-- slots that became free have no count any more
same-count : (o : Option Process) (p : Process) (m : ℕ) → o ≡ Some p → m ≡ count_in o m
same-count None p m is = absurd cc
same-count (Some q) p m is = refl

freed : (k : ℕ → ℕ) (s : State) → ahead k s ≡ ahead (λ n. count_in (process_at s n) (k n)) s
unfolding reworked_all
freed k s = ap (λ (ps : List (Option Process)). record s { places = ps })
    (map-same (λ n. reworked (held_for (k n))) (λ n. reworked (held_for (count_in (process_at s n) (k n)))) s.places
    (λ n p at. ap (λ c. reworked (held_for c) p) (same-count (process_at s n) p (k n) at)))

module _ (Endless : State → Type 0) (events : List Event) (rest : Reduces Endless events) where
  step-same : (s : State) (k : ℕ → ℕ) → IsAhead k s → ((n : ℕ) → acting s Step ≡ Some n → k n ≡ 0)
      → Follows Endless (ahead k s) s (Step ∷ events)
  step-same s k may level =
      let t = (next s Step).state in
      same-first Endless k s Step events may level tt
      (λ goes. subst (λ u. Follows Endless u t events) (sym (freed k t))
      (rest t (λ n. count_in (process_at t n) (k n)) goes
      (λ n. still-ahead (k n) s n (process_at s n) (process_at t n) refl refl (may n) (level n))))

  -- the step was made before
  step-made : (s : State) (k : ℕ → ℕ) (r m : ℕ) → s.halted ≡ None → running s ≡ Some r → k r ≡ suc m → IsAhead k s
      → Follows Endless (ahead k s) s (Step ∷ events)
  unfolding interrupts Computes
  step-made s k r m goes runs is may =
      let here = runner s r runs in
      let t = change_process s r computed in
      let all : Computes (suc m) (held here.0) =
      subst (λ c. Computes c (held here.0)) is (computes-so-far k s r here.0 runs here.1 here.2 may) in
      let done : computes s ≡ true = computes-here s r here.0 runs here.1 ∙ all.0 in
      let later = rest t (with_count r m k) goes (one-less k s r here.0 runs here.1 here.2 may m all.1) in
      let made = makes-up k s r m is in
      record {
        coarse = later.coarse;
        placed = subst (λ u. IsCoarse Endless u later.coarse) (sym made) later.placed;
        same = later.same;
        meet = ap (λ u. interruptions u later.coarse) made ∙ later.meet
            ∙ sym (meet-step s r goes runs done events
            ∙ ap (λ (a : After). interruptions a.state events) (step-private s r runs done));
        shows = subst (λ u. ShowsSame (run u later.coarse) (run s (Step ∷ events))) (sym made)
            (subst (ShowsSame (run (ahead (with_count r m k) t) later.coarse))
            (sym (run-step s r goes runs done events
            ∙ ap (λ (a : After). run a.state events) (step-private s r runs done)))
            later.shows);
      }

  step-reduces : Reduces Endless (Step ∷ events)
  step-reduces s k goes may = go (running s) refl
    where
      by-count : (r m : ℕ) → running s ≡ Some r → k r ≡ m → Follows Endless (ahead k s) s (Step ∷ events)
      by-count r zero runs is = step-same s k may
          (step-level k s (Some r) runs (λ n same. ap k (sym (same_Some r n same)) ∙ is) may)
      by-count r (suc m) runs is = step-made s k r m goes runs is may

      go : (o : Option ℕ) → running s ≡ o → Follows Endless (ahead k s) s (Step ∷ events)
      go None none = step-same s k may (step-level k s None none (λ r some. absurd cc) may)
      go (Some r) runs = by-count r (k r) runs refl

-- ---- all lists

module _ (Endless : State → Type 0) (decide : (s : State) → ComesToCall s ⊎ Endless s) where
  reduces : (events : List Event) → Reduces Endless events
  unfolding IsCoarse run interruptions
  reduces [] s k goes may = record {
    coarse = [];
    placed = tt;
    same = refl;
    meet = refl;
    shows = record { bytes = refl; state = shown-ahead k s };
  }
  reduces (Step ∷ events) s k goes may = step-reduces Endless events (reduces events) s k goes may
  reduces (Tick ∷ events) s k goes may = tick-reduces Endless events (reduces events) decide s k goes may
  reduces (Key b ∷ events) s k goes may = key-reduces Endless events (reduces events) b s k goes may

  ticks-before-calls : (s : State) (events : List Event) → s.halted ≡ None → Reduced Endless s events
  ticks-before-calls s events goes =
      let found = subst (λ t. Follows Endless t s events) (level s)
      (reduces events s (λ n. 0) goes (none-ahead s)) in
      record {
        coarse = found.coarse;
        placed = found.placed;
        same = found.same;
        meet = found.meet;
        shows = found.shows;
      }

-- ---- how far one looks

computes-next : (n : ℕ) (s : State) → computes s ≡ true → ComputesFor n (next s Step).state → ComputesFor (suc n) s
unfolding after_steps
computes-next n s done all zero less = done
computes-next n s done all (suc j) less = all j (omega (arith, less))

decided-next : (limit : ℕ) (s : State) → computes s ≡ true
    → ComesToCall (next s Step).state ⊎ ComputesFor limit (next s Step).state
    → ComesToCall s ⊎ ComputesFor (suc limit) s
unfolding after_steps
decided-next limit s done (inl call) = inl (record {
  steps = suc call.steps;
  all = computes-next call.steps s done call.all;
  stops = call.stops;
})
decided-next limit s done (inr all) = inr (computes-next limit s done all)

decided-by : (limit : ℕ) (s : State) (b : Bool) → computes s ≡ b
    → ComesToCall (next s Step).state ⊎ ComputesFor limit (next s Step).state
    → ComesToCall s ⊎ ComputesFor (suc limit) s
unfolding after_steps
decided-by limit s true is later = decided-next limit s is later
decided-by limit s false is later =
    inl (record { steps = 0; all = λ j less. absurd (omega (arith, less)); stops = is })

decided : (limit : ℕ) (s : State) → ComesToCall s ⊎ ComputesFor limit s
decided zero s = inr (λ j less. absurd (omega (arith, less)))
decided (suc limit) s = decided-by limit s (computes s) refl (decided limit (next s Step).state)

pub ticks-suffice : InterruptsBeforeCallsSuffice
ticks-suffice decide = ticks-before-calls RunsOn decide

pub ticks-within : InterruptsWithinSuffice
ticks-within limit = ticks-before-calls (ComputesFor limit) (decided limit)
