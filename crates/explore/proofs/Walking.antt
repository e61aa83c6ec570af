-- What runs and computing steps of a machine give a walker.
use Rattle.std.proofs.Common.{[], ap, append_assoc, append-nil, arith, below_more, Bool, drop, Err, false, get_or}
use Rattle.std.proofs.Common.{inl, inr, length, List, None, Ok, ◌+◌}
use Rattle.std.proofs.Common.{Option, refl, Result, Some, subst, suc, sym, take, true, zero, ℕ, ℤ, ◌++◌, ◌-◌, ◌<◌, ◌∙◌}
use Rattle.std.proofs.Common.{◌∷◌, ◌≡◌, ◌≤◌}
use Rattle.std.proofs.lemmas.Bool.{false≢true}
use Rattle.std.proofs.lemmas.List.{take_all, take-append-drop}
use Rattle.std.proofs.Math.Seq.{take-suc}
use Rattle.std.specs.Prelude.{IfOk, IfSome, OnOk, is_some, option_and_then}
use Rattle.std.specs.Option.{ForSome, SomeIff}
use Rattle.calls.specs.Computing as calls
use Rattle.calls.specs.declared.halt.Halt.{Halt}
use Rattle.calls.specs.declared.halt.Halt.TheVariants.{Console, Device, Halted, InitEnded}
use Rattle.explore.specs.Along.{GoesBy, IsAt, LeadsOn, status_from}
use Rattle.kernel.specs.Idle.{running_process}
use Rattle.machine.specs.Gives.{IsDone, RunGives, StepGives}
use Rattle.machine.specs.View.{IsUp, View}
use Rattle.orders.proofs.Events.{stepped}
use Rattle.orders.proofs.Plain.{run-steps, steps-goes}
use Rattle.orders.proofs.Runs.{run-none, run-one, run-over, run-then}
use Rattle.orders.specs.declared.bounds.Trouble.{Trouble}
use Rattle.orders.specs.declared.paths.Path.{Path}
use Rattle.orders.specs.declared.paths.Piece.{Piece}
use Rattle.orders.specs.Looked.{ComputesUpTo, stepped_on}
use Rattle.orders.specs.Paths.{events_of, piece_events, pieces_events, steps}
use Rattle.orders.specs.Tidy.{IsTidy}
use Rattle.schedules.specs.Schedules as laws
use Rattle.schedules.specs.Schedules.{ComputesFor, after_steps, computes, computes_as, computes_in}
use Rattle.unixmodel.specs.declared.event.Event.{Event}
use Rattle.unixmodel.specs.Calls.{After}
use Rattle.unixmodel.specs.Meaning.{Effect}
use Rattle.unixmodel.specs.Next.{effect_of, next}
use Rattle.unixmodel.specs.Process.{Process}
use Rattle.unixmodel.specs.Run.{run}
use Rattle.unixmodel.specs.State.{State, process_at, running}

-- ---- runs

module _ (es : List Event) (old new : View) (before after : List ℕ) where
  done-by : (status : Option ℤ) → IsUp old
      → IsDone old new (run old.state es) (Some before) (Some after) status
      → GoesBy es old new before after status
  done-by status up h = record {
    goes = up.goes;
    state = h.state;
    sound = h.sound;
    printed = h.printed;
    ends = ap (λ (s : State). s.halted) h.state ∙ h.halts;
  }

  -- a run that returns a status goes by its events
  pub goes-by : (rising : Type 0) (done : Result (Unit {0}) Halt)
      → RunGives old new es (Some before) (Some after) rising done
      → IfOk (status_from done) (λ status. GoesBy es old new before after status)
  goes-by rising (Ok u) h = done-by None h.0 h.1
  goes-by rising (Err (InitEnded status)) h = done-by (Some status) h.0 h.1
  goes-by rising (Err Device) h = tt
  goes-by rising (Err Console) h = tt
  goes-by rising (Err Halted) h = tt

-- the same for one event
pub goes-one : (e : Event) (old new : View) (before after : List ℕ) (rising : Type 0)
    (done : Result (Unit {0}) Halt)
    → StepGives old new (next old.state e) (Some before) (Some after) rising done
    → IfOk (status_from done) (λ status. GoesBy (e ∷ []) old new before after status)
goes-one e old new before after rising done h =
    let one : run old.state (e ∷ []) ≡ next old.state e = run-one e old.state _ refl in
    by-cases done h one
  where
    by-cases : (done : Result (Unit {0}) Halt)
        → StepGives old new (next old.state e) (Some before) (Some after) rising done
        → run old.state (e ∷ []) ≡ next old.state e
        → IfOk (status_from done) (λ status. GoesBy (e ∷ []) old new before after status)
    by-cases (Ok u) h one = done-by (e ∷ []) old new before after None h.0
        (subst (λ (a : After). IsDone old new a (Some before) (Some after) None) (sym one) h.1)
    by-cases (Err (InitEnded status)) h one = done-by (e ∷ []) old new before after (Some status) h.0
        (subst (λ (a : After). IsDone old new a (Some before) (Some after) (Some status))
        (sym one) h.1)
    by-cases (Err Device) h one = tt
    by-cases (Err Console) h one = tt
    by-cases (Err Halted) h one = tt

-- ---- one after the other

none-of : (o : Option ℤ) → is_some o ≡ false → o ≡ None
none-of None goes = refl
none-of (Some status) goes = absurd cc

some-of : (o : Option ℤ) → is_some o ≡ true → (status : ℤ) × (o ≡ Some status)
some-of None ended = absurd cc
some-of (Some status) ended = (status, refl)

module _ (xs ys : List Event) (old mid new : View) (before between after : List ℕ) where
  -- the first ones end nothing
  pub goes-then : (stopped status : Option ℤ) → is_some stopped ≡ false → GoesBy xs old mid before between stopped
      → GoesBy ys mid new between after status → GoesBy (xs ++ ys) old new before after status
  goes-then stopped status still h k =
      let up : (run old.state xs).state.halted ≡ None =
      ap (λ (s : State). s.halted) (sym h.state) ∙ h.ends ∙ none-of stopped still in
      let both = run-then xs ys old.state h.goes up in
      let there : run mid.state ys ≡ run (run old.state xs).state ys = ap (λ s. run s ys) h.state in
      record {
        goes = h.goes;
        state = k.state ∙ ap (λ (a : After). a.state) there ∙ sym (ap (λ (a : After). a.state) both);
        sound = k.sound;
        printed = k.printed
            ∙ ap (λ bs. bs ++ (run mid.state ys).bytes) h.printed
            ∙ append_assoc before (run old.state xs).bytes (run mid.state ys).bytes
            ∙ ap (λ (a : After). before ++ ((run old.state xs).bytes ++ a.bytes)) there
            ∙ sym (ap (λ (a : After). before ++ a.bytes) both);
        ends = k.ends;
      }

-- process 1 ends at the first ones
pub goes-over : (xs ys : List Event) (old new : View) (before after : List ℕ) (stopped : Option ℤ)
    → is_some stopped ≡ true → GoesBy xs old new before after stopped
    → GoesBy (xs ++ ys) old new before after stopped
goes-over xs ys old new before after stopped ended h =
    let by = some-of stopped ended in
    let over : run old.state (xs ++ ys) ≡ run old.state xs = run-over xs ys old.state by.0 h.goes
    (ap (λ (s : State). s.halted) (sym h.state) ∙ h.ends ∙ by.1) in
    record {
      goes = h.goes;
      state = h.state ∙ sym (ap (λ (a : After). a.state) over);
      sound = h.sound;
      printed = h.printed ∙ sym (ap (λ (a : After). before ++ a.bytes) over);
      ends = h.ends;
    }

-- a machine that has gone on takes events
pub up-after : (es : List Event) (old new : View) (before after : List ℕ) (status : Option ℤ)
    → is_some status ≡ false → GoesBy es old new before after status → IsUp new
up-after es old new before after status still h = record { sound = h.sound; goes = h.ends ∙ none-of status still }

-- no events
pub goes-none : (m : View) (w : List ℕ) → IsUp m → GoesBy [] m m w w None
goes-none m w up = record {
  goes = up.goes;
  state = sym (ap (λ (a : After). a.state) (run-none m.state));
  sound = up.sound;
  printed = sym (append-nil w)
      ∙ sym (ap (λ (a : After). w ++ a.bytes) (run-none m.state));
  ends = up.goes;
}

pub stays-by : (old new : View) (before after : List ℕ) (status : Option ℤ)
    → GoesBy [] old new before after status
    → (new.state ≡ old.state) × (after ≡ before)
stays-by old new before after status h = (
  h.state ∙ ap (λ (a : After). a.state) (run-none old.state),
  h.printed ∙ ap (λ (a : After). before ++ a.bytes) (run-none old.state)
      ∙ append-nil before,
)

-- ---- pieces

pub pieces-append : (ps qs : List Piece) → pieces_events (ps ++ qs) ≡ pieces_events ps ++ pieces_events qs
pieces-append [] qs = refl
pieces-append (p ∷ ps) qs =
    ap (λ es. piece_events p ++ es) (pieces-append ps qs)
    ∙ sym (append_assoc (piece_events p) (pieces_events ps) (pieces_events qs))

pub pieces-more : (ps : List Piece) (p : Piece) → pieces_events (ps ++ p ∷ []) ≡ pieces_events ps ++ piece_events p
pieces-more ps p =
    pieces-append ps (p ∷ []) ∙ ap (λ es. pieces_events ps ++ es) (append-nil (piece_events p))

-- ---- computing steps

done-same : (d : Effect) → calls.is_done d ≡ laws.is_done d
done-same (Ok c) = refl
done-same (Err t) = refl

done-as : (o : Option Process) → calls.computes_as o ≡ computes_as o
done-as None = refl
done-as (Some p) = done-same (effect_of p)

done-in : (s : State) (o : Option ℕ) → calls.computes_as (option_and_then (process_at s) o) ≡ computes_in s o
done-in s None = refl
done-in s (Some i) = done-as (process_at s i)

pub computes-same : (s : State) → calls.computes s ≡ computes s
unfolding computes
computes-same s = done-in s (running s)

-- a step that computes is one of the laws, if those before it are
pub computes-for : (old new : State) (stops : List ℕ) (most count : ℕ) → old.halted ≡ None
    → calls.Computes old new stops most count → (k : ℕ) → k ≤ count → ComputesFor k old
computes-for old new stops most count up h zero within j less = absurd (omega (arith, less))
computes-for old new stops most count up h (suc k) within j less =
    let before = computes-for old new stops most count up h k (omega (arith, within)) in
    let there : calls.after_steps old k ≡ after_steps k old =
    ap (λ (a : After). a.state) (run-steps k old up before) in
    let last : computes (after_steps k old) ≡ true =
    sym (computes-same (after_steps k old))
    ∙ subst (λ (s : State). calls.computes s ≡ true) there (h.computing k (omega (arith, within))) in
    below_more (λ j. computes (after_steps j old) ≡ true) k before last j (omega (arith, less))

differ : {b : Bool} → b ≡ false → b ≡ true → ⊥
differ is not = false≢true (sym is ∙ not)

who-runs : (o : Option ℕ) (s : State) → computes_in s o ≡ true → is_some o ≡ true
who-runs None s done = absurd cc
who-runs (Some i) s done = refl

no-stop : (o : Option Process) → calls.stands_at [] o ≡ false
no-stop None = refl
no-stop (Some p) = refl

-- where nobody runs, nothing computes
idle-computes : (o : Option ℕ) (s : State) → is_some o ≡ false → computes_in s o ≡ false
idle-computes None s none = refl
idle-computes (Some i) s none = absurd cc

module _ (old new : State) (most : ℕ) where
  idle-ends : (count : ℕ) → ComputesFor count old → is_some (running old) ≡ false
      → computes (after_steps count old) ≡ false
  unfolding computes after_steps
  idle-ends zero all none = idle-computes (running old) old none
  idle-ends (suc k) all none = absurd (differ none (who-runs (running old) old (all zero (omega arith))))

  busy-ends : (count : ℕ) → calls.Computes old new [] most count → count < most → is_some (running old) ≡ true
      → computes new ≡ false
  busy-ends count h less runs = elim (h.first_stop less runs) [
    | inl over ↦ sym (computes-same new) ∙ over
    | inr stop ↦ absurd (differ (no-stop (running_process new)) stop.1)
  ]

  -- the computing steps of a machine that was to stop at no address
  pub computes-up-to : (count : ℕ) → old.halted ≡ None → calls.Computes old new [] most count
      → ComputesUpTo most old count × (new ≡ after_steps count old)
  computes-up-to count up h =
      let all = computes-for old new [] most count up h count (omega arith) in
      let there : new ≡ after_steps count old =
      ap (λ (a : After). a.state) (sym h.steps ∙ run-steps count old up all) in
      (record { few = h.within; all = all; stops = ends (is_some (running old)) refl all there }, there)
    where
      ends : (runs : Bool) → is_some (running old) ≡ runs → ComputesFor count old → new ≡ after_steps count old
          → count < most → computes (after_steps count old) ≡ false
      ends true is all there less =
          subst (λ (s : State). computes s ≡ false) there (busy-ends count h less is)
      ends false is all there less = idle-ends count all is

-- ---- results

-- more events after those that end nothing, unless the machine fails
pub goes-then-ok : (xs ys : List Event) (old mid new : View) (before between after : List ℕ) (stopped : Option ℤ)
    (result : Result (Option ℤ) Trouble) → is_some stopped ≡ false → GoesBy xs old mid before between stopped
    → IfOk result (λ status. GoesBy ys mid new between after status)
    → IfOk result (λ status. GoesBy (xs ++ ys) old new before after status)
goes-then-ok xs ys old mid new before between after stopped (Ok status) still h k =
    goes-then xs ys old mid new before between after stopped status still h k
goes-then-ok xs ys old mid new before between after stopped (Err t) still h k = tt

module _ (ps : List Piece) (i : ℕ) (d : Piece) (less : i < length ps) where
  pieces-taken : pieces_events (take (i + 1) ps) ≡ pieces_events (take i ps) ++ piece_events (get_or ps i d)
  pieces-taken =
      let one : i + 1 ≡ suc i = omega arith in
      ap (λ n. pieces_events (take n ps)) one
      ∙ ap (λ (qs : List Piece). pieces_events qs) (take-suc ps i d less)
      ∙ pieces-more (take i ps) (get_or ps i d)

  module _ (old mid new : View) (before between after : List ℕ) (stopped : Option ℤ)
      (h : GoesBy (pieces_events (take i ps)) old mid before between None)
      (k : GoesBy (piece_events (get_or ps i d)) mid new between after stopped) where
    with-piece : GoesBy (pieces_events (take (i + 1) ps)) old new before after stopped
    with-piece = subst (λ es. GoesBy es old new before after stopped) (sym pieces-taken)
        (goes-then (pieces_events (take i ps)) (piece_events (get_or ps i d)) old mid new before between after
        None stopped refl h k)

    -- a piece more
    pub goes-more : is_some stopped ≡ false → GoesBy (pieces_events (take (i + 1) ps)) old new before after None
    goes-more still = subst (λ o. GoesBy (pieces_events (take (i + 1) ps)) old new before after o)
        (none-of stopped still) with-piece

    -- the piece at which process 1 ends
    pub goes-last : is_some stopped ≡ true → GoesBy (pieces_events ps) old new before after stopped
    goes-last ended = subst (λ es. GoesBy es old new before after stopped)
        (sym (pieces-append (take (i + 1) ps) (drop (i + 1) ps))
        ∙ ap (λ (qs : List Piece). pieces_events qs) (take-append-drop (i + 1) ps))
        (goes-over (pieces_events (take (i + 1) ps)) (pieces_events (drop (i + 1) ps)) old new before after stopped
        ended with-piece)

-- all pieces
pub goes-all : (ps : List Piece) (i : ℕ) (old new : View) (before after : List ℕ) (status : Option ℤ) → length ps ≤ i
    → GoesBy (pieces_events (take i ps)) old new before after status
    → GoesBy (pieces_events ps) old new before after status
goes-all ps i old new before after status all h =
    subst (λ (qs : List Piece). GoesBy (pieces_events qs) old new before after status) (take_all i ps all) h

-- a path: a look whether the machine takes events, the pieces, and the steps
module _ (path : Path) (ps : List Piece) (old m1 m2 : View) (b0 b1 b2 : List ℕ) (refused stopped : Option ℤ)
    (same : ps ≡ path.pieces.items) (still : is_some refused ≡ false) (up : GoesBy [] old m1 b0 b1 refused)
    (h : GoesBy (pieces_events ps) m1 m2 b1 b2 stopped) where
  by-pieces : GoesBy (pieces_events path.pieces.items) old m2 b0 b2 stopped
  by-pieces = subst (λ (qs : List Piece). GoesBy (pieces_events qs) old m2 b0 b2 stopped) same
      (goes-then [] (pieces_events ps) old m1 m2 b0 b1 b2 refused stopped still up h)

  pub path-over : is_some stopped ≡ true → GoesBy (events_of path) old m2 b0 b2 stopped
  path-over ended =
      goes-over (pieces_events path.pieces.items) (steps path.steps) old m2 b0 b2 stopped ended by-pieces

  pub path-then : (m3 : View) (b3 : List ℕ) (result : Result (Option ℤ) Trouble) → is_some stopped ≡ false
      → IfOk result (λ status. GoesBy (steps path.steps) m2 m3 b2 b3 status)
      → IfOk result (λ status. GoesBy (events_of path) old m3 b0 b3 status)
  path-then m3 b3 result goes k = goes-then-ok (pieces_events path.pieces.items) (steps path.steps) old m2 m3 b0 b2 b3
      stopped result goes by-pieces k

-- ---- a walker

module _ (es : List Event) (first old new : View) (before after : List ℕ) (copied : old ≡ first)
    (none : before ≡ []) where
  pub went : (result : Result (Option ℤ) Trouble) → IfOk result (λ status. GoesBy es old new before after status)
      → OnOk result (let a : After = record { state = new.state; bytes = after } in a ≡ run first.state es)
  went (Ok status) h =
      let there : run old.state es ≡ run first.state es = ap (λ (m : View). run m.state es) copied in
      let bytes : after ≡ (run first.state es).bytes =
      h.printed ∙ ap (λ bs. bs ++ (run old.state es).bytes) none ∙ ap (λ (a : After). a.bytes) there in
      let state : new.state ≡ (run first.state es).state = h.state ∙ ap (λ (a : After). a.state) there in
      ap (λ (s : State). let a : After = record { state = s; bytes = after } in a) state
      ∙ ap (λ bs. let a : After = record { state = (run first.state es).state; bytes = bs } in a) bytes
  went (Err t) h = tt

  pub halts : (result : Result (Option ℤ) Trouble) → IfOk result (λ status. GoesBy es old new before after status)
      → IfOk result (λ status. new.state.halted ≡ status)
  halts (Ok status) h = h.ends
  halts (Err t) h = tt

pub same-reached : (s t : State) (bs cs : List ℕ) → s ≡ t → bs ≡ cs
    → (let a : After = record { state = s; bytes = bs } in a)
    ≡ (let b : After = record { state = t; bytes = cs } in b)
same-reached s t bs cs state bytes = cc

module _ (old mid new : View) (before between : List ℕ) (most count : ℕ) (stopped : Option ℤ)
    (still : is_some stopped ≡ false) (h : GoesBy [] old mid before between stopped)
    (does : IsUp mid → calls.Computes mid.state new.state [] most count) where
  computed-both : ComputesUpTo most mid.state count × (new.state ≡ after_steps count mid.state)
  computed-both =
      computes-up-to mid.state new.state most count (h.ends ∙ none-of stopped still)
      (does (up-after [] old mid before between stopped still h))

  pub computed : ComputesUpTo most old.state count
  computed = subst (λ (s : State). ComputesUpTo most s count) (stays-by old mid before between stopped h).0
      computed-both.0

  pub computed-on : (let a : After = record { state = new.state; bytes = between } in a)
      ≡ stepped_on count (record { state = old.state; bytes = before })
  computed-on =
      let stays = stays-by old mid before between stopped h in
      same-reached new.state (after_steps count old.state) between before
      (computed-both.1 ∙ ap (λ (s : State). after_steps count s) stays.0) stays.1

  computing : new ≡ record mid { state = new.state } → GoesBy (steps count) mid new between between None
  computing same =
      let up = up-after [] old mid before between stopped still h in
      let by = does up in
      record {
        goes = up.goes;
        state = sym (ap (λ (a : After). a.state) by.steps);
        sound = ap (λ (m : View). m.failed) same ∙ up.sound;
        printed = sym (ap (λ (a : After). between ++ a.bytes) by.steps ∙ append-nil between);
        ends = ap (λ (s : State). s.halted) computed-both.1 ∙ steps-goes count mid.state computed-both.0.all ∙ up.goes;
      }

  -- it is at the end of the path with these steps more
  pub computed-there : (first : View) (last further : Option Path) → new ≡ record mid { state = new.state }
      → ForSome last (IsAt first old before) → IfSome further (λ f. LeadsOn last f count)
      → ForSome further (IsAt first new between)
  computed-there first last further same there all f is =
      let leads : LeadsOn last f count = subst (λ o. IfSome o (λ f. LeadsOn last f count)) is all in
      let at : IsAt first old before leads.from = there leads.from leads.known in
      let begun = goes-then (events_of leads.from) [] first old mid [] before between None stopped refl at h in
      subst (λ es. GoesBy es first new [] between None)
      (ap (λ es. es ++ steps count) (append-nil (events_of leads.from)) ∙ sym leads.events)
      (goes-then (events_of leads.from ++ []) (steps count) first mid new [] between between stopped None still begun
      (computing same))

-- ---- on from the end of a path

pub steps-between : (path further : Path) (more : ℕ) → path.pieces.items ≡ further.pieces.items
    → path.steps + more ≡ further.steps → events_of further ≡ events_of path ++ steps more
steps-between path further more same sum =
    ap (λ n. pieces_events further.pieces.items ++ steps n) (sym sum)
    ∙ ap (λ (ps : List Piece). pieces_events ps ++ steps (path.steps + more)) (sym same)
    ∙ stepped (pieces_events path.pieces.items) path.steps more

pub steps-found : (path further : Path) (more : Option ℕ) → path.pieces.items ≡ further.pieces.items
    → SomeIff more (path.steps ≤ further.steps) (further.steps - path.steps)
    → IfSome more (λ n. events_of further ≡ events_of path ++ steps n)
steps-found path further None same h = tt
steps-found path further (Some n) same h = steps-between path further n same (omega (arith, h.0, h.1))

pub leads-on : (path : Option Path) (from further : Path) (more : Option ℕ) → path ≡ Some from
    → IfSome more (λ n. events_of further ≡ events_of from ++ steps n) → IfSome more (LeadsOn path further)
leads-on path from further None known h = tt
leads-on path from further (Some n) known h = record { from = from; known = known; events = h }

pub goes-further : (last : Option Path) (path : Path) (more : ℕ) (first mid new : View) (between after : List ℕ)
    (result : Result (Option ℤ) Trouble) → ForSome last (IsAt first mid between) → LeadsOn last path more
    → IfOk result (λ status. GoesBy (steps more) mid new between after status)
    → IfOk result (λ status. GoesBy (events_of path) first new [] after status)
goes-further last path more first mid new between after result there leads h =
    let at : IsAt first mid between leads.from = there leads.from leads.known in
    subst (λ es. IfOk result (λ status. GoesBy es first new [] after status)) (sym leads.events)
    (goes-then-ok (events_of leads.from) (steps more) first mid new [] between after None result refl at h)

-- where process 1 has not ended it goes on from there
pub kept-there : (path : Path) (first new : View) (after : List ℕ) (status : Option ℤ) (kept : Option Path)
    → GoesBy (events_of path) first new [] after status
    → IfSome kept (λ same. (status ≡ None) × (events_of same ≡ events_of path)) → ForSome kept (IsAt first new after)
kept-there path first new after status kept h all same is =
    let k : (status ≡ None) × (events_of same ≡ events_of path) =
    subst (λ o. IfSome o (λ same. (status ≡ None) × (events_of same ≡ events_of path))) is all in
    subst (λ es. GoesBy es first new [] after None) (sym k.1)
    (subst (λ o. GoesBy (events_of path) first new [] after o) k.0 h)

-- the state is the same
pub still-there : (first old new : View) (printed : List ℕ) (last : Option Path) → new.state ≡ old.state
    → new.failed ≡ false → ForSome last (IsAt first old printed) → ForSome last (IsAt first new printed)
still-there first old new printed last same sound there path is =
    let h = there path is in
    record {
      goes = h.goes;
      state = same ∙ h.state;
      sound = sound;
      printed = h.printed;
      ends = ap (λ (s : State). s.halted) same ∙ h.ends;
    }

-- the table of the machine is in order at the end of a path, since the first one's is
pub tidy-there : (first at : View) (printed : List ℕ) (path : Option Path) → is_some path ≡ true
    → ForSome path (IsAt first at printed) → IsTidy first.state
    → ((s : State) (events : List Event) → IsTidy s → IsTidy (run s events).state) → IsTidy at.state
tidy-there first at printed None some there tidy stays = absurd cc
tidy-there first at printed (Some path) some there tidy stays =
    subst IsTidy (sym (there path refl).state) (stays first.state (events_of path) tidy)
