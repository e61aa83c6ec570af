-- Steps that are done in one go.
use Rattle.std.proofs.Common.{[], ap, arith, false, inl, inr, List, None, Ok, Option, refl, replicate}
use Rattle.std.proofs.Common.{Result, Some, subst, suc, sym, true, zero, ℕ, ◌+◌, ◌++◌, ◌-◌, ◌<◌, ◌∙◌, ◌∷◌, ◌≡◌}
use Rattle.std.proofs.Common.{Err}
use Rattle.std.proofs.KnownBytes.{Appends-nil}
use Rattle.std.proofs.lemmas.List.{replicate-append-replicate, replicate_more}
use Rattle.std.specs.Prelude.{is_none, option_and_then, ◌&&◌}
use Rattle.calls.proofs.Pieces.{run-more}
use Rattle.calls.specs.Computing.{Computes, after_steps, computes, computes_as, is_done}
use Rattle.calls.specs.declared.halt.Halt.{Halt}
use Rattle.driver.proofs.Pacing.{paced-off}
use Rattle.events.specs.Paced.{paced}
use Rattle.driver.specs.Strides.{IsStill, Passes}
use Rattle.kernel.specs.Idle.{is_idle}
use Rattle.machine.proofs.RunLemmas.{begins_both, step-runs}
use Rattle.machine.specs.Gives.{RunGives, StepGives}
use Rattle.machine.specs.View.{IsUp, View}
use Rattle.events.specs.declared.clock.Clock.TheVariants.{Off}
use Rattle.unixmodel.specs.Calls.{After, quiet}
use Rattle.unixmodel.specs.Meaning.{Effect}
use Rattle.unixmodel.specs.Next.{acted, effect_of, execute, execute_at, next, step, take_turn}
use Rattle.unixmodel.specs.Process.{Process}
use Rattle.unixmodel.specs.Run.{after_bytes, followed_by, run}
use Rattle.unixmodel.specs.State.{State, process_at, running}
use Rattle.unixmodel.specs.Turn.{turn}
use Rattle.unixmodel.specs.declared.event.Event.TheVariants.{Step}

-- ---- an instruction that is done halts no machine

goes-acted : (s : State) (i : ℕ) (p : Process) (e : Effect) → s.halted ≡ None → is_done e ≡ true
    → (acted s i p e).state.halted ≡ None
goes-acted s i p (Ok d) goes done = goes
goes-acted s i p (Err t) goes done = absurd cc

goes-at : (s : State) (i : ℕ) (o : Option Process) → s.halted ≡ None → computes_as o ≡ true
    → (execute_at s i o).state.halted ≡ None
unfolding execute
goes-at s i None goes done = absurd cc
goes-at s i (Some p) goes done = goes-acted s i p (effect_of p) goes done

goes-by : (s : State) (r : Option ℕ) → s.halted ≡ None → computes_as (option_and_then (process_at s) r) ≡ true
    → (step s r).state.halted ≡ None
goes-by s None goes done = absurd cc
goes-by s (Some i) goes done = goes-at s i (process_at s i) goes done

goes-one : (s : State) → s.halted ≡ None → computes s ≡ true → (next s Step).state.halted ≡ None
unfolding next
goes-one s goes done = goes-by s (running s) goes done

goes-all : (n : ℕ) (s : State) → s.halted ≡ None → ((k : ℕ) → k < n → computes (after_steps s k) ≡ true)
    → (after_steps s n).halted ≡ None
unfolding run
goes-all zero s goes done = goes
goes-all (suc n) s goes done =
    let before = goes-all n s goes (λ k less. done k (omega (arith, less))) in
    let last : suc n ≡ n + 1 = omega arith in
    let on : run s (replicate (suc n) Step)
    ≡ after_bytes (run s (replicate n Step)).bytes (next (after_steps s n) Step) =
    ap (λ k. run s (replicate k Step)) last ∙ ap (run s) (sym (replicate_more n Step))
    ∙ run-more (replicate n Step) Step s goes before in
    ap (λ (a : After). a.state.halted) on ∙ goes-one (after_steps s n) before (done n (omega arith))

-- and its process runs
busy-by : (s : State) (r t : Option ℕ) → computes_as (option_and_then (process_at s) r) ≡ true
    → (is_none r && is_none t) ≡ false
busy-by s None t done = absurd cc
busy-by s (Some i) t done = refl

busy-one : (s : State) → computes s ≡ true → is_idle s ≡ false
busy-one s done = busy-by s (running s) (turn s) done

-- ---- instructions that were done

no-front : (xs ys : List ℕ) → xs ++ ys ≡ [] → xs ≡ []
no-front [] ys none = refl
no-front (x ∷ xs) ys none = absurd cc

module _ {old new : View} {count : ℕ} (up : IsUp old) (h : Passes old new count) where
  pub passes-gives : (at : Option (List ℕ)) (rises : Type 0) (u : Unit {0})
      → RunGives old new (replicate count Step) at at rises (Ok u)
  passes-gives at rises u = (
    up,
    record {
      state = sym (ap (λ (a : After). a.state) h.steps);
      halts = goes-all count old.state up.goes h.computing;
      sound = ap (λ (v : View). v.failed) h.same ∙ up.sound;
      printed = rw (ap (λ (a : After). a.bytes) h.steps) (Appends-nil at);
      same_device = ap (λ (v : View). v.identity) h.same;
      later = let e = ap (λ (v : View). v.failures) h.same in omega (arith, e);
    },
  )

  -- those before print nothing
  silent-at : (k : ℕ) → k < count → (run old.state (replicate k Step)).bytes ≡ []
  silent-at k less =
      let whole : k + (count - k) ≡ count = omega (arith, less) in
      let b = begins_both (replicate k Step) (replicate (count - k) Step) old.state up.goes in
      no-front _ b.0 (b.1 ∙ ap (λ es. (run old.state es).bytes) (replicate-append-replicate k (count - k) Step)
      ∙ ap (λ n. (run old.state (replicate n Step)).bytes) whole ∙ ap (λ (a : After). a.bytes) h.steps)

  pub passes-still : IsStill old.state Off count
  passes-still k less = rw (paced-off k) (
    silent-at k less,
    inl (record {
      goes = goes-all k old.state up.goes (λ n fewer. h.computing n (omega (arith, less, fewer)));
      busy = busy-one (after_steps old.state k) (h.computing k less);
    }),
  )

  -- there were none
  none-is : count ≡ 0 → new ≡ old
  unfolding run
  none-is none =
      let same : new.state ≡ old.state =
      sym (ap (λ (a : After). a.state) h.steps) ∙ ap (λ n. (run old.state (replicate n Step)).state) none in
      h.same ∙ ap (λ (s : State). let v : View = record old { state = s } in v) same

  -- and a step is the first
  pub passes-none : (newer : View) (before after : Option (List ℕ)) (rises : Type 0) (r : Result (Unit {0}) Halt)
      → count ≡ 0 → StepGives new newer (next new.state Step) before after rises r
      → RunGives old newer (replicate 1 Step) before after rises r
  passes-none newer before after rises r none gives =
      step-runs old newer Step before after rises r
      (subst (λ (v : View). StepGives v newer (next v.state Step) before after rises r) (none-is none) gives)

-- none were
pub passes-nothing : (old : View) → Passes old old 0
unfolding run
passes-nothing old = record { steps = refl; computing = λ n less. absurd (omega (arith, less)); same = refl }

-- ---- where nobody runs and none is ready

stands : (s : State) (r t : Option ℕ) → turn s ≡ t → (is_none r && is_none t) ≡ true → step s r ≡ quiet s
stands s None None is idle = ap (take_turn s) is
stands s r t is idle = absurd (cc)

next-idle : (s : State) → is_idle s ≡ true → next s Step ≡ quiet s
unfolding next
next-idle s idle = stands s (running s) (turn s) refl idle

run-idle : (s : State) → s.halted ≡ None → next s Step ≡ quiet s → (n : ℕ) → run s (replicate n Step) ≡ quiet s
unfolding run
run-idle s up same zero = refl
run-idle s up same (suc n) =
    ap (λ (a : After). followed_by a (λ t. run t (replicate n Step)) a.state.halted) same
    ∙ ap (followed_by (quiet s) (λ t. run t (replicate n Step))) up ∙ run-idle s up same n

pub idle-still : (s : State) (n : ℕ) → s.halted ≡ None → is_idle s ≡ true → IsStill s Off n
idle-still s n up idle k less =
    let is = run-idle s up (next-idle s idle) k in
    rw (paced-off k) (ap (λ (a : After). a.bytes) is, inr (ap (λ (a : After). a.state) is))

-- ---- one step

pub one-still : (s : State) → IsStill s Off 1
unfolding run paced
one-still s zero less = (refl, inr refl)
one-still s (suc k) less = absurd (omega (arith, less))

-- what `Machine::compute` did
pub passes-of : {old new : View} {stops : List ℕ} {most count : ℕ} → IsUp old
    → (IsUp old → Computes old.state new.state stops most count) → new ≡ record old { state = new.state }
    → Passes old new count
passes-of up computes same =
    let c = computes up in record { steps = c.steps; computing = c.computing; same = same }
