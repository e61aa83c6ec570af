-- Computing steps, at which no timer interrupt needs to be tried.
use Rattle.std.proofs.Common.{[], ap, append-nil, arith, Err, false, List, None, Ok, Option, refl}
use Rattle.std.proofs.Common.{Some, subst, suc, sym, true, zero, ℕ, ℤ, ◌+◌, ◌++◌, ◌<◌, ◌∙◌, ◌≡◌}
use Rattle.std.specs.Prelude.{is_some}
use Rattle.orders.proofs.Alike.{BothAlike, alike-back, both-after, computes-alike}
use Rattle.orders.proofs.Events.{stepped}
use Rattle.orders.proofs.Runs.{run-goes, run-none, run-over, run-then}
use Rattle.orders.specs.Looked.{ComesTo, ComputesUpTo, IsPlain, stepped_on}
use Rattle.orders.specs.Paths.{steps}
use Rattle.schedules.proofs.Steps.{running-stays, step-private}
use Rattle.renumbering.specs.Alike.{EventKeepsNumbersAlike}
use Rattle.schedules.specs.Alike.{asks, asks_as, asks_at, asks_in, asks_time}
use Rattle.schedules.specs.Schedules.{ComputesFor, after_steps, computes, computes_as, computes_in, is_done}
use Rattle.unixmodel.specs.declared.event.Event.{Event}
use Rattle.unixmodel.specs.declared.event.Event.TheVariants.{Step}
use Rattle.unixmodel.specs.Calls.{After, quiet}
use Rattle.unixmodel.specs.Meaning.{Effect}
use Rattle.unixmodel.specs.Next.{effect_of, next}
use Rattle.unixmodel.specs.Process.{Process}
use Rattle.unixmodel.specs.Run.{after_bytes, run}
use Rattle.unixmodel.specs.State.{State, process_at, running}

-- ---- one step

-- a step that computes
pub record Quietly (s : State) : Type 0 where
  pub bytes : (next s Step).bytes ≡ []
  pub halted : (next s Step).state.halted ≡ s.halted
  pub ticks : (next s Step).state.ticks ≡ s.ticks

runs-of : (s : State) (o : Option ℕ) → computes_in s o ≡ true → (i : ℕ) × (o ≡ Some i)
runs-of s None done = absurd cc
runs-of s (Some i) done = (i, refl)

pub who-computes : (s : State) → computes s ≡ true → (i : ℕ) × (running s ≡ Some i)
unfolding computes
who-computes s done = runs-of s (running s) done

pub goes-quietly : (s : State) → computes s ≡ true → Quietly s
goes-quietly s done =
    let who = who-computes s done in
    let step = step-private s who.0 who.1 done in
    record {
      bytes = ap (λ (a : After). a.bytes) step;
      halted = ap (λ (a : After). a.state.halted) step;
      ticks = ap (λ (a : After). a.state.ticks) step;
    }

quiet-as : (p : Process) (d : Effect) → is_done d ≡ true → asks_as p d ≡ false
quiet-as p (Ok c) done = refl
quiet-as p (Err t) done = absurd cc

quiet-in : (o : Option Process) → computes_as o ≡ true → asks_in o ≡ false
unfolding asks
quiet-in None done = refl
quiet-in (Some p) done = quiet-as p (effect_of p) done

quiet-at : (s : State) (o : Option ℕ) → computes_in s o ≡ true → asks_at s o ≡ false
quiet-at s None done = refl
quiet-at s (Some i) done = quiet-in (process_at s i) done

-- who computes doesn't ask for the time
pub quiet-time : (s : State) → computes s ≡ true → asks_time s Step ≡ false
unfolding asks_time computes
quiet-time s done = quiet-at s (running s) done

-- ---- many steps

pub run-steps : (n : ℕ) (s : State) → s.halted ≡ None → ComputesFor n s → run s (steps n) ≡ quiet (after_steps n s)
unfolding after_steps
run-steps zero s up all = run-none s
run-steps (suc n) s up all =
    let first = goes-quietly s (all zero (omega arith)) in
    run-goes s Step (steps n) (first.halted ∙ up)
    ∙ ap (λ bs. after_bytes bs (run (next s Step).state (steps n))) first.bytes
    ∙ run-steps n (next s Step).state (first.halted ∙ up) (λ k less. all (suc k) (omega (arith, less)))

pub steps-goes : (n : ℕ) (s : State) → ComputesFor n s → (after_steps n s).halted ≡ s.halted
unfolding after_steps
steps-goes zero s all = refl
steps-goes (suc n) s all =
    steps-goes n (next s Step).state (λ k less. all (suc k) (omega (arith, less)))
    ∙ (goes-quietly s (all zero (omega arith))).halted

-- ---- alike states

module _ (law : EventKeepsNumbersAlike) where
  pub step-alike : (s t : State) → BothAlike s t → computes s ≡ true
      → BothAlike (next s Step).state (next t Step).state
  step-alike s t h done =
      let more = law t s Step h.second h.first h.names (alike-back s t h.alike)
      (quiet-time t (sym (computes-alike s t h) ∙ done)) in
      both-after (next s Step) (next t Step) more

  steps-alike : (n : ℕ) (s t : State) → BothAlike s t → ComputesFor n s
      → BothAlike (after_steps n s) (after_steps n t)
  unfolding after_steps
  steps-alike zero s t h all = h
  steps-alike (suc n) s t h all =
      steps-alike n (next s Step).state (next t Step).state (step-alike s t h (all zero (omega arith)))
      (λ k less. all (suc k) (omega (arith, less)))

  computes-for-alike : (n : ℕ) (s t : State) → BothAlike s t → ComputesFor n s → ComputesFor n t
  computes-for-alike n s t h all k less =
      let there = steps-alike k s t h (λ j below. all j (omega (arith, less, below))) in
      sym (computes-alike (after_steps k s) (after_steps k t) there) ∙ all k less

  pub plain-alike : (spin n : ℕ) (s t : State) → BothAlike s t → IsPlain spin t n → IsPlain spin s n
  unfolding IsPlain
  plain-alike spin zero s t h plain = tt
  plain-alike spin (suc n) s t h plain =
      let done : computes s ≡ true = computes-alike s t h ∙ plain.0 in (
        done,
        λ endless. plain.1 (computes-for-alike spin s t h endless),
        plain-alike spin n (next s Step).state (next t Step).state (step-alike s t h done) plain.2,
      )

  pub after-alike : (spin n : ℕ) (s t : State) → BothAlike s t → IsPlain spin s n
      → BothAlike (after_steps n s) (after_steps n t)
  unfolding IsPlain after_steps
  after-alike spin zero s t h plain = h
  after-alike spin (suc n) s t h plain =
      after-alike spin n (next s Step).state (next t Step).state (step-alike s t h plain.0) plain.2

-- ---- steps at which nothing is tried

pub plain-computes : (spin n : ℕ) (s : State) → IsPlain spin s n → ComputesFor n s
unfolding IsPlain after_steps
plain-computes spin zero s plain k less = absurd (omega (arith, less))
plain-computes spin (suc n) s plain zero less = plain.0
plain-computes spin (suc n) s plain (suc k) less =
    plain-computes spin n (next s Step).state plain.2 k (omega (arith, less))

-- those up to a call or a fault that comes soon
pub plain-to-call : (spin n : ℕ) (s : State) → n < spin → ComputesFor n s → computes (after_steps n s) ≡ false
    → IsPlain spin s n
unfolding IsPlain after_steps
plain-to-call spin zero s soon all stops = tt
plain-to-call spin (suc n) s soon all stops = (
  all zero (omega arith),
  λ endless. absurd (let no : computes (after_steps n (next s Step).state) ≡ true = endless (suc n) soon in cc),
  plain-to-call spin n (next s Step).state (omega (arith, soon)) (λ k less. all (suc k) (omega (arith, less))) stops,
)

pub plain-then : (spin m n : ℕ) (s : State) → IsPlain spin s m → IsPlain spin (after_steps m s) n
    → IsPlain spin s (m + n)
unfolding IsPlain after_steps
plain-then spin zero n s first rest =
    let same : n ≡ zero + n = omega arith in subst (λ k. IsPlain spin s k) same rest
plain-then spin (suc m) n s first rest =
    let same : suc (m + n) ≡ suc m + n = omega arith in
    subst (λ k. IsPlain spin s k) same
    (first.0, first.1, plain-then spin m n (next s Step).state first.2 rest)

-- after some, a process runs
still-runs : (s : State) → computes s ≡ true → is_some (running (next s Step).state) ≡ true
still-runs s done =
    let who = who-computes s done in
    let still : running (next s Step).state ≡ running s =
    ap (λ (a : After). running a.state) (step-private s who.0 who.1 done) ∙ running-stays s who.0 in
    ap (λ (o : Option ℕ). is_some o) (still ∙ who.1)

plain-runs : (spin n : ℕ) (s : State) → IsPlain spin s (suc n)
    → is_some (running (after_steps (suc n) s)) ≡ true
unfolding IsPlain after_steps
plain-runs spin zero s plain = still-runs s plain.0
plain-runs spin (suc n) s plain = plain-runs spin n (next s Step).state plain.2

-- ---- lists of events with such steps

pub comes-none : (spin : ℕ) (s : State) (es fs : List Event) → fs ≡ es → ComesTo spin s es fs
unfolding IsPlain
comes-none spin s es fs same = record { count = 0; plain = tt; same = same ∙ sym (append-nil es) }

pub stays : (n : ℕ) (a : After) → n ≡ 0 → stepped_on n a ≡ a
unfolding after_steps
stays zero a none = refl
stays (suc n) a none = absurd cc

-- up to a call or a fault that comes soon
pub comes-soon : (spin n : ℕ) (s : State) (es fs : List Event) → fs ≡ es ++ steps n
    → ComputesUpTo spin (run s es).state n → n < spin → ComesTo spin s es fs
comes-soon spin n s es fs same h soon = record {
  count = n;
  plain = plain-to-call spin n (run s es).state soon h.all (h.stops soon);
  same = same;
}

module _ (s : State) (up : s.halted ≡ None) where
  -- after a run that goes on
  pub comes-run : (spin : ℕ) (es fs : List Event) (c : ComesTo spin s es fs) → (run s es).state.halted ≡ None
      → run s fs ≡ stepped_on c.count (run s es)
  comes-run spin es fs c goes =
      ap (λ gs. run s gs) c.same ∙ run-then es (steps c.count) s up goes
      ∙ ap (after_bytes (run s es).bytes)
      (run-steps c.count (run s es).state goes (plain-computes spin c.count (run s es).state c.plain))
      ∙ ap (λ bs. let q : After = record { state = after_steps c.count (run s es).state; bytes = bs } in q)
      (append-nil (run s es).bytes)

  pub soon-run : (spin n : ℕ) (es fs : List Event) → fs ≡ es ++ steps n → ComputesUpTo spin (run s es).state n
      → n < spin → (run s es).state.halted ≡ None → run s fs ≡ stepped_on n (run s es)
  unfolding comes-soon
  soon-run spin n es fs same h soon goes = comes-run spin es fs (comes-soon spin n s es fs same h soon) goes

  goes-at : (spin : ℕ) (es fs : List Event) (c : ComesTo spin s es fs) (h : Option ℤ)
      → (run s es).state.halted ≡ h → (run s fs).state.halted ≡ h
  goes-at spin es fs c (Some status) ended =
      ap (λ gs. (run s gs).state.halted) c.same
      ∙ ap (λ (a : After). a.state.halted) (run-over es (steps c.count) s status up ended) ∙ ended
  goes-at spin es fs c None goes =
      ap (λ (a : After). a.state.halted) (comes-run spin es fs c goes)
      ∙ steps-goes c.count (run s es).state (plain-computes spin c.count (run s es).state c.plain) ∙ goes

  -- it halts where that halts
  pub comes-halted : (spin : ℕ) (es fs : List Event) → ComesTo spin s es fs
      → (run s fs).state.halted ≡ (run s es).state.halted
  comes-halted spin es fs c = goes-at spin es fs c (run s es).state.halted refl

  over-at : (spin : ℕ) (es fs : List Event) → ComesTo spin s es fs → (h : Option ℤ)
      → (run s es).state.halted ≡ h → is_some h ≡ true → run s fs ≡ run s es
  over-at spin es fs c None is ended = absurd cc
  over-at spin es fs c (Some status) is ended =
      ap (λ gs. run s gs) c.same ∙ run-over es (steps c.count) s status up is

  -- after one that halts they do nothing
  pub comes-over : (spin : ℕ) (es fs : List Event) → ComesTo spin s es fs
      → is_some (run s es).state.halted ≡ true → run s fs ≡ run s es
  comes-over spin es fs c ended = over-at spin es fs c (run s es).state.halted refl ended

  pub comes-then : (spin : ℕ) (es fs gs : List Event) → (run s es).state.halted ≡ None → ComesTo spin s es fs
      → ComesTo spin s fs gs → ComesTo spin s es gs
  comes-then spin es fs gs goes c d = record {
    count = c.count + d.count;
    plain = plain-then spin c.count d.count (run s es).state c.plain
        (subst (λ (a : After). IsPlain spin a.state d.count) (comes-run spin es fs c goes) d.plain);
    same = d.same ∙ ap (λ hs. hs ++ steps d.count) c.same ∙ sym (stepped es c.count d.count);
  }

  -- where nobody runs none of them came
  pub comes-idle : (spin : ℕ) (es fs : List Event) → ComesTo spin s es fs → (run s fs).state.halted ≡ None
      → running (run s fs).state ≡ None → fs ≡ es
  comes-idle spin es fs c goes none = by c.count refl
    where
      here : (run s es).state.halted ≡ None
      here = sym (comes-halted spin es fs c) ∙ goes

      by : (n : ℕ) → c.count ≡ n → fs ≡ es
      by zero is = c.same ∙ ap (λ k. es ++ steps k) is ∙ append-nil es
      by (suc n) is = absurd (
          let runs : is_some (running (run s fs).state) ≡ true =
          ap (λ (a : After). is_some (running a.state)) (comes-run spin es fs c here)
          ∙ subst (λ k. is_some (running (after_steps k (run s es).state)) ≡ true) (sym is)
          (plain-runs spin n (run s es).state (subst (λ k. IsPlain spin (run s es).state k) is c.plain)) in
          let idle : is_some (running (run s fs).state) ≡ false = ap (λ (o : Option ℕ). is_some o) none in
          cc)
