-- Many steps, piece by piece.
use Rattle.calls.proofs.Common.{[], After, ap, Appends-nil, Appends-trans, arith, begins_more, busy-state, cases_lt}
use Rattle.calls.proofs.Common.{Console, Err, EventGives, execute_at, false, FileTree, Halt, idle-turn, inl, inr}
use Rattle.calls.proofs.Common.{is_none, IsKernel, IsServed, Kernel, LeavesTree, List, Makes, next, None, Ok, Option}
use Rattle.calls.proofs.Common.{picked, process_at, quiet, refl, replicate-append-replicate, Result, Rises, run}
use Rattle.calls.proofs.Common.{runner-of, running, Some, Spaces, State, state-but, state_of, Step, step, subst, suc}
use Rattle.calls.proofs.Common.{sym, take_turn, true, turn, waking, Went, zero, ℕ, ℤ, ◌&&◌, ◌++◌, ◌+◌, ◌-◌, ◌<◌, ◌∙◌}
use Rattle.calls.proofs.Common.{◌∷◌, ◌≡◌, ◌≤◌}
use Rattle.calls.specs.Steps.{IsBusy, IsBusyFor, LeavesFiles, PieceGives, PieceGoes, stepped, StepsGive, StopsAt}
use Rattle.std.proofs.Common.{append-nil, append_assoc, replicate}
use Rattle.unixmodel.specs.Run.{after_bytes, followed_by}
use Rattle.unixmodel.specs.declared.event.Event.{Event}
use Rattle.calls.specs.declared.halt.Halt.TheVariants.{Device, Halted, InitEnded}
use Rattle.calls.specs.Resuming.{taken}
use Rattle.kernel.proofs.Steps.{advances-on}
use Rattle.kernel.specs.Idle.{is_idle}
use Rattle.spaces.proofs.SpacesLemmas.{advances-last, advances-same}
use Rattle.hart.specs.Stops.{EndsAt}
use Rattle.spaces.specs.Instructions.{Advances}
use Rattle.calls.proofs.Acts.{lost-after, same-served, served-after}
use Rattle.calls.proofs.Takes.{next-executes, next-turns, step-computes, turn-takes}

-- ---- how runs of the abstract Unix go on

-- a run that goes on after a run
abbrev pub then_runs : List Event → After → Option ℤ → After
then_runs es a (Some status) = a
then_runs es a None = after_bytes a.bytes (run a.state es)

then_after : (b : List ℕ) (ys : List Event) (a : After) (r : Option ℤ)
    → after_bytes b (then_runs ys a r) ≡ then_runs ys (after_bytes b a) r
then_after b ys a (Some status) = refl
then_after b ys a None =
    ap (λ bs. let q : After = record { state = (run a.state ys).state; bytes = bs } in q)
    (sym (append_assoc b a.bytes (run a.state ys).bytes))

first_step : (xs ys : List Event) (a : After) (r : Option ℤ) → a.state.halted ≡ r
    → (a.state.halted ≡ None → run a.state (xs ++ ys) ≡ then_runs ys (run a.state xs) (run a.state xs).state.halted)
    → followed_by a (λ t. run t (xs ++ ys)) r
    ≡ then_runs ys (followed_by a (λ t. run t xs) r) (followed_by a (λ t. run t xs) r).state.halted
first_step xs ys a (Some status) is rest = rw is refl
first_step xs ys a None is rest = ap (after_bytes a.bytes) (rest is)
    ∙ then_after a.bytes ys (run a.state xs) (run a.state xs).state.halted

-- a run of two lists
pub run-append : (xs ys : List Event) (s : State) → s.halted ≡ None
    → run s (xs ++ ys) ≡ then_runs ys (run s xs) (run s xs).state.halted
unfolding run
run-append [] ys s up = let here : run s ys ≡ then_runs ys (quiet s) None =
    refl in subst (λ (r : Option ℤ). run s ys ≡ then_runs ys (quiet s) r) (sym up) here
run-append (e ∷ xs) ys s up =
    first_step xs ys (next s e) (next s e).state.halted refl (λ h. run-append xs ys (next s e).state h)

-- a run of one event
pub run-one : (e : Event) (s : State) (r : Option ℤ) → (next s e).state.halted ≡ r → run s (e ∷ []) ≡ next s e
unfolding run next
run-one e s (Some status) is = rw is refl
run-one e s None is = rw is
    (ap (λ bs. let q : After = record { state = (next s e).state; bytes = bs } in q) (append-nil (next s e).bytes))

-- one more event after a run that goes on
pub run-more : (xs : List Event) (e : Event) (s : State) → s.halted ≡ None → (run s xs).state.halted ≡ None
    → run s (xs ++ e ∷ []) ≡ after_bytes (run s xs).bytes (next (run s xs).state e)
unfolding run
run-more xs e s up goes = run-append xs (e ∷ []) s up
    ∙ rw goes (ap (after_bytes (run s xs).bytes) (run-one e (run s xs).state _ refl))

-- what the first events print is a beginning
pub then_begins : (ys : List Event) (o : After) (r : Option ℤ)
    → (rest : List ℕ) × (o.bytes ++ rest ≡ (then_runs ys o r).bytes)
then_begins ys o (Some status) = ([], append-nil o.bytes)
then_begins ys o None = ((run o.state ys).bytes, refl)

-- a rise from a later count is a rise
pub Rises-later : (a b c : ℕ) → a ≤ b → Rises b c → b ≤ c → Rises a c
Rises-later a b c ab bc l = omega arith

-- ---- runs of steps

module _ (s : State) (up : s.halted ≡ None) where
  abbrev ran : ℕ → After
  ran n = run s (replicate n Step)

  steps-split : (n m : ℕ) → ran (n + m) ≡ then_runs (replicate m Step) (ran n) (ran n).state.halted
  steps-split n m = ap (run s) (sym (replicate-append-replicate n m Step))
      ∙ run-append (replicate n Step) (replicate m Step) s up

  -- steps that go on are followed by others
  steps-go : (n m : ℕ) → (ran n).state.halted ≡ None
      → ran (n + m) ≡ after_bytes (ran n).bytes (run (ran n).state (replicate m Step))
  steps-go n m goes = steps-split n m ∙ ap (then_runs (replicate m Step) (ran n)) goes

  module _ (n count : ℕ) (within : n ≤ count) where
    steps-within : ran count ≡ then_runs (replicate (count - n) Step) (ran n) (ran n).state.halted
    steps-within = let whole : count ≡ n + (count - n) = omega (arith, within) in ap ran whole
        ∙ steps-split n (count - n)

    -- steps that halt are followed by none
    steps-halt : (status : ℤ) → (ran n).state.halted ≡ Some status → ran count ≡ ran n
    steps-halt status halts = steps-within ∙ ap (then_runs (replicate (count - n) Step) (ran n)) halts

    -- what the first steps print is a beginning
    steps-begin : (rest : List ℕ) × ((ran n).bytes ++ rest ≡ (ran count).bytes)
    steps-begin = rw steps-within (then_begins (replicate (count - n) Step) (ran n) (ran n).state.halted)

  -- where a step changes nothing, none does
  run-idle : next s Step ≡ quiet s → (n : ℕ) → ran n ≡ quiet s
  unfolding run
  run-idle same zero = refl
  run-idle same (suc n) =
      ap (λ (a : After). followed_by a (λ t. run t (replicate n Step)) a.state.halted) same
      ∙ ap (followed_by (quiet s) (λ t. run t (replicate n Step))) up
      ∙ run-idle same n

stands : (s : State) (r t : Option ℕ) → turn s ≡ t → (is_none r && is_none t) ≡ true → step s r ≡ quiet s
stands s None None is idle = ap (take_turn s) is
stands s r t is idle = absurd (cc)

next-idle : (s : State) → is_idle s ≡ true → next s Step ≡ quiet s
unfolding next
next-idle s idle = stands s (running s) (turn s) refl idle

-- ---- steps that go on

-- nothing is printed, and the disk is as it was
went-quiet : {old new : Kernel} {n : ℕ} (at : Option (List ℕ)) → IsServed old.tree new.tree
    → stepped old n ≡ quiet (state_of new) → new.halted ≡ None → Went old new n at at
went-quiet at served is goes = record {
  makes = rw is (record { state = refl; halts = goes; printed = Appends-nil at });
  served = served;
}

module _ {k : Kernel} (at : Option (List ℕ)) (goes : k.halted ≡ None) (up : k.tree.failed ≡ false) where
  -- no step
  pub went-still : {new : Kernel} → state_of new ≡ state_of k → new.tree ≡ k.tree → Went k new 0 at at
  unfolding run
  went-still {new} same tree =
      went-quiet {old = k} {new = new} {n = 0}
      at (same-served tree up) (ap quiet (sym same)) (ap (λ (s : State). s.halted) same ∙ goes)

  pub went-none : Went k k 0 at at
  went-none = went-still refl refl

  -- where nobody runs and none is ready all steps are done
  pub went-idle : (n : ℕ) → is_idle (state_of k) ≡ true → Went k k n at at
  went-idle n idle = went-quiet {old = k} {new = k}
      at (same-served refl up) (run-idle (state_of k) goes (next-idle (state_of k) idle) n) goes

module _ {old mid : Kernel} {n : ℕ} {before at : Option (List ℕ)} (went : Went old mid n before at) where
  -- it goes on
  pub went-up : mid.halted ≡ None
  went-up = ap (λ (s : State). s.halted) went.makes.state ∙ went.makes.halts

  -- all of them went
  pub went-all : (count : ℕ) → n ≤ count → count ≤ n → Makes mid (stepped old count) before at None
  went-all count within end = let same : n ≡ count =
      omega (arith, within, end) in subst (λ k. Makes mid (stepped old k) before at None) same went.makes

  module _ (up : old.halted ≡ None) where
    pub went-trans : {new : Kernel} {m : ℕ} {after : Option (List ℕ)} → Went mid new m at after
        → Went old new (n + m) before after
    went-trans {new} {m} {after} second =
        let whole : stepped old (n + m) ≡ after_bytes (stepped old n).bytes (stepped mid m) =
        steps-go (state_of old) up n m went.makes.halts
        ∙ ap (λ s. after_bytes (stepped old n).bytes (run s (replicate m Step))) (sym went.makes.state) in
        record {
          makes = rw whole (record {
            state = second.makes.state;
            halts = second.makes.halts;
            printed = Appends-trans before
                at after (stepped old n).bytes (stepped mid m).bytes went.makes.printed second.makes.printed;
          });
          served = served-after went.served second.served;
        }

    -- one more step
    next-steps : stepped old (n + 1) ≡ after_bytes (stepped old n).bytes (next (state_of mid) Step)
    next-steps =
        steps-go (state_of old) up n 1 went.makes.halts
        ∙ ap (λ s. after_bytes (stepped old n).bytes (run s (Step ∷ []))) (sym went.makes.state)
        ∙ ap (after_bytes (stepped old n).bytes)
        (run-one Step (state_of mid) (next (state_of mid) Step).state.halted refl)

    makes-more : {new : Kernel} {after : Option (List ℕ)} {r : Option ℤ}
        → Makes new (next (state_of mid) Step) at after r → Makes new (stepped old (n + 1)) before after r
    makes-more {after = after} made = rw next-steps (record {
      state = made.state;
      halts = made.halts;
      printed = Appends-trans before
          at after (stepped old n).bytes (next (state_of mid) Step).bytes went.makes.printed made.printed;
    })

    -- a step that halts
    stops-give : (new : Kernel) (after : Option (List ℕ)) (step_rises rises : Type 0) (halt : Halt) (count : ℕ)
        → n < count → (step_rises → rises)
        → EventGives new (next (state_of mid) Step) at after step_rises (Err halt)
        → LeavesTree {X = Unit {0}} mid.tree new.tree (Err halt)
        → StepsGive old new count before after rises (Err halt)
        × LeavesFiles {X = Unit {0}} old.tree new.tree (Err halt)
    stops-give new after step_rises rises (InitEnded status) count more r gives leaves =
        let made = makes-more gives in
        let whole : stepped old count ≡ stepped old (n + 1) =
        steps-halt (state_of old) up (n + 1) count (omega (arith, more)) status made.halts in
        (rw whole made, served-after went.served leaves)
    stops-give new after step_rises rises Device count more r gives leaves = (
      record {
        done = n;
        more = more;
        goes = went.makes.halts;
        printed = rw (append-nil (stepped old n).bytes)
            at (Appends-trans before at after (stepped old n).bytes [] went.makes.printed gives);
      },
      lost-after went.served leaves,
    )
    stops-give new after step_rises rises Console count more r gives leaves =
        let all = steps-begin (state_of old) up (n + 1) count (omega (arith, more)) in
        let parts : (stepped old n).bytes ++ (next (state_of mid) Step).bytes ≡ (stepped old (n + 1)).bytes =
        sym (ap (λ (a : After). a.bytes) next-steps) in (
          record {
            rises = r gives.0;
            printed = begins_more before
                at after (stepped old n).bytes (next (state_of mid) Step).bytes all.0 (stepped old count).bytes
                went.makes.printed gives.1 (ap (λ bs. bs ++ all.0) parts ∙ all.1);
            done = n;
            more = more;
            goes = went.makes.halts;
            files = ap (λ (t : FileTree). t.files) leaves ∙ ap (λ (s : State). s.files) went.makes.state;
          },
          served-after went.served (same-served leaves went.served.up),
        )
    stops-give new after step_rises rises Halted count more r gives leaves = absurd gives

-- after steps that went on
pub stops-rest : {old now new : Kernel} {n : ℕ} (m count : ℕ) {before mid after : Option (List ℕ)}
    {step_rises rises : Type 0} {halt : Halt} → Went old now n before mid → old.halted ≡ None → n + m ≤ count
    → (step_rises → rises)
    → StopsAt now new m mid after step_rises halt
    → StepsGive old new count before after rises (Err halt)
    × LeavesFiles {X = Unit {0}} old.tree new.tree (Err halt)
stops-rest {new = new} m count {after = after} {step_rises} {rises} {halt} went up within r stop =
    let counts = stop.counts in
    stops-give (went-trans went up stop.went) up new after step_rises rises halt count (omega (arith, counts, within))
    r stop.last stop.leaves

-- ---- instructions

-- without stops, all are done
pub ends-all : (count done pc : ℕ) → EndsAt [] count done pc → done ≡ count
ends-all count done pc (inl all) = all
ends-all count done pc (inr at) = absurd (let never = at.1 in cc)

-- after instructions that don't trap the process still runs, and the next step is its next instruction
pub record Begun (k mid : Kernel) (i n : ℕ) (at : Option (List ℕ)) : Type 0 where
  pub went : Went k mid n at at
  pub active : mid.spaces.active ≡ Some i
  pub is : next (state_of mid) Step ≡ execute_at (state_of mid) i (process_at (state_of mid) i)

module _ {k : Kernel} {i : ℕ} (is : IsKernel k) (active : k.spaces.active ≡ Some i) (goes : k.halted ≡ None) where
  pub run-advances : (stops : List ℕ) (n : ℕ) (new : Spaces) → Advances stops n k.spaces i new
      → stepped k n ≡ quiet (state_of (record k { spaces = new }))
  unfolding run
  run-advances stops zero new all =
      ap (λ (s : Spaces). quiet (state_of (record k { spaces = s }))) (sym (advances-same stops k.spaces i new all))
  run-advances stops (suc n) new all =
      let last = advances-last stops n k.spaces new i all in
      let mid : Kernel = record k { spaces = last.0 } in
      let on = advances-on stops n k i last.0 is active last.1 in
      let first = run-advances stops n last.0 last.1 in
      let one : suc n ≡ n + 1 = omega arith in
      ap (stepped k) one
      ∙ steps-go (state_of k) goes n 1 (ap (λ (a : After). a.state.halted) first ∙ goes)
      ∙ ap (λ (a : After). after_bytes a.bytes (run a.state (Step ∷ []))) first
      ∙ run-one Step (state_of mid) (next (state_of mid) Step).state.halted refl
      ∙ next-executes mid i on.sound on.active
      ∙ step-computes (runner-of on.sound on.active) last.2.means
      ∙ ap (λ (s : Spaces). quiet (state_of (record k { spaces = s }))) (sym last.2.leaves)

  -- a process runs before each of them, and after the last
  busy-at : (stops : List ℕ) (n : ℕ) (new : Spaces) → Advances stops n k.spaces i new → IsBusy (stepped k n).state
  busy-at stops n new all =
      let on = advances-on stops n k i new is active all in
      let made : (stepped k n).state ≡ state_of (record k { spaces = new }) =
      ap (λ (a : After). a.state) (run-advances stops n new all) in
      record {
        goes = ap (λ (s : State). s.halted) made ∙ goes;
        busy = ap is_idle made
            ∙ sym (busy-state (record k { spaces = new }) on.sound i on.active);
      }

  pub busy-advances : (stops : List ℕ) (n : ℕ) (new : Spaces) → Advances stops n k.spaces i new → (done : ℕ) → done ≤ n
      → IsBusy (stepped k done).state
  busy-advances stops zero new all done within = let first : done ≡ 0 =
      omega (arith, within) in rw first (busy-at stops 0 new all)
  busy-advances stops (suc n) new all done within = elim (cases_lt done (suc n)) [
    | inl less ↦ let last = advances-last stops n k.spaces new i all
        in busy-advances stops n last.0 last.1 done (omega (arith, less))
    | inr least ↦ let end : done ≡ suc n = omega (arith, within, least) in rw end (busy-at stops (suc n) new all)
  ]

  pub begun : (stops : List ℕ) (n : ℕ) (mid : Kernel) (at : Option (List ℕ)) → k.tree.failed ≡ false
      → Advances stops n k.spaces i mid.spaces × (mid ≡ record k { spaces = mid.spaces }) → Begun k mid i n at
  begun stops n mid at up done =
      let on = advances-on stops n k i mid.spaces is active done.0 in
      record {
        went = went-quiet {old = k} {new = mid}
            at (same-served (ap (λ (x : Kernel). x.tree) done.1) up)
            (run-advances stops n mid.spaces done.0 ∙ ap (λ (x : Kernel). quiet (state_of x)) (sym done.1))
            (ap (λ (x : Kernel). x.halted) done.1 ∙ goes);
        active = on.active;
        is = subst (λ (x : Kernel). next (state_of x) Step ≡ execute_at (state_of x) i (process_at (state_of x) i))
            (sym done.1) (next-executes (record k { spaces = mid.spaces }) i on.sound on.active);
      }

-- ---- turns

module _ {k : Kernel} (is : IsKernel k) (none : k.spaces.active ≡ None) where
  -- a turn takes the process that is picked, which is ready before the one step
  module _ {i : ℕ} (found : turn (state_of k) ≡ Some i) where
    pub busy-turn : k.halted ≡ None → IsBusyFor (state_of k) 1
    unfolding run
    busy-turn goes done within =
        let first : done ≡ 0 = omega (arith, within) in
        rw first (record { goes = goes; busy = sym (idle-turn k is none) ∙ ap is_none found })

    pub turn-is : (mid : Kernel) → mid ≡ waking (picked k i) mid.table.awake
        → next (state_of k) Step ≡ taken (state_of mid) i
    turn-is mid same = next-turns k is none ∙ turn-takes k i is none found
        ∙ ap (λ (s : State). taken s i) (sym (state-but (picked k i) same))

  -- nobody is ready
  pub idle-now : (new : Kernel) → turn (state_of k) ≡ None → state_of new ≡ state_of k → is_idle (state_of new) ≡ true
  idle-now new nobody same = ap is_idle same ∙ sym (idle-turn k is none) ∙ ap is_none nobody

-- ---- how a piece ends

-- a step after those that went on, which makes b, is the last of the piece
pub last-goes : {k mid : Kernel} {n : ℕ} {before : Option (List ℕ)} (new : Kernel) (after : Option (List ℕ))
    (rising : Type 0) {b : After} (r : Result (Unit {0}) Halt) → Went k mid n before before → k.halted ≡ None
    → next (state_of mid) Step ≡ b
    → EventGives new b before after rising r → LeavesTree {X = Unit {0}} mid.tree new.tree r
    → PieceGoes k new (n + 1) before after rising r
last-goes new after rising (Ok u) went up is gives leaves = (
  record { makes = makes-more went up (rw is gives); served = served-after went.served leaves },
  λ none. absurd (omega (arith, none)),
)
last-goes {mid = mid} {n} {before} new after rising (Err halt) went up is gives leaves = record {
  mid = mid;
  done = n;
  counts = refl;
  went = went;
  last = subst (λ (x : After). EventGives new x before after rising (Err halt)) (sym is) gives;
  leaves = leaves;
}

-- a piece at which no failure of the console rises
module _ (old new : Kernel) (before after : Option (List ℕ)) (rising : Type 0) where
  silent-goes : (count : ℕ) (r : Result (Unit {0}) Halt) → PieceGoes old new count before after ⊥ r
      → PieceGoes old new count before after rising r
  silent-goes count (Ok u) h = h
  silent-goes count (Err Console) h = absurd h.last.0
  silent-goes count (Err _) h =
      record { mid = h.mid; done = h.done; counts = h.counts; went = h.went; last = h.last; leaves = h.leaves }

  pub silent : {most count : ℕ} {r : Result (Unit {0}) Halt} → PieceGives old new most before after ⊥ count r
      → PieceGives old new most before after rising count r
  silent {count = count} {r} h = record { within = h.within; busy = h.busy; goes = silent-goes count r h.goes }
