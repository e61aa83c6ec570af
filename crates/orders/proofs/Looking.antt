-- A state that is new is looked at.
use Rattle.std.proofs.Common.{[], ap, append_assoc, append-nil, arith, inl, inr, List, None, refl, subst, sym, ℕ}
use Rattle.std.proofs.Common.{◌++◌, ◌∙◌, ◌∷◌, ◌≡◌, ◌⊎◌}
use Rattle.orders.proofs.Alike.{clock-alike}
use Rattle.orders.proofs.Free.{busy-then, left-then}
use Rattle.orders.proofs.Lists.{one-last}
use Rattle.orders.proofs.Moves.{going-looked, missed-then}
use Rattle.orders.proofs.Plain.{comes-none}
use Rattle.orders.proofs.Runs.{run-more, run-then}
use Rattle.orders.proofs.Turning.{back-alike, back-due, none-asleep}
use Rattle.orders.specs.declared.bounds.Bounds.{Bounds}
use Rattle.orders.specs.declared.bounds.Missed.{Missed}
use Rattle.orders.specs.declared.paths.Path.{Path}
use Rattle.orders.specs.declared.told.Outcome.{Outcome}
use Rattle.orders.specs.Free.{MayCome, keys_left}
use Rattle.orders.specs.Looked.{ComesAlike, IsCared, IsCaredAfter, IsCaredHere, IsDue, IsGoing, IsOpened, IsTimeIdle}
use Rattle.orders.specs.Looked.{IsTurnBack, LeadAlike, NotesTime, OpensKey, OpensStep, OpensTick, TellsWaiting, Tries}
use Rattle.orders.specs.Paths.{events_of}
use Rattle.orders.specs.Tried.{busy_ticks}
use Rattle.schedules.specs.Alike.{HasClock, IdleTickChangesNothing, TickBackChangesNothing, timeless}
use Rattle.unixmodel.specs.declared.event.Event.{Event}
use Rattle.unixmodel.specs.declared.event.Event.TheVariants.{Key, Step, Tick}
use Rattle.unixmodel.specs.Calls.{After}
use Rattle.unixmodel.specs.Run.{after_bytes, run}
use Rattle.unixmodel.specs.State.{State}

module _ (keys : List ℕ) (s : State) (p : Path) (law : IdleTickChangesNothing) (back : TickBackChangesNothing)
    (up : s.halted ≡ None) (goes : (run s (events_of p)).state.halted ≡ None)
    (clock : HasClock (run s (events_of p)).state) where
  abbrev es : List Event
  es = events_of p

  -- a tick that changes nothing leads to what is alike
  idle-tick : IsTimeIdle (run s es).state → LeadAlike keys s (es ++ Tick ∷ []) es
  idle-tick idle =
      let x = (run s es).state in
      let alike = law x clock idle.none (none-asleep x.places idle.awake) in
      let more = run-more es Tick s up goes in
      record {
        like = record {
          bytes = ap (λ (a : After). a.bytes) more ∙ ap (λ bs. (run s es).bytes ++ bs) (sym alike.bytes)
              ∙ append-nil (run s es).bytes;
          alike = clock-alike _ _ (ap (λ (a : After). timeless a.state) more ∙ sym alike.alike);
        };
        typed = left-then keys es (Tick ∷ []);
        fewer = (let count = busy-then s es (Tick ∷ []) goes in omega (arith, count));
      }

  -- so do one after which the turn is given back, and that turn
  back-tick : IsTurnBack (run s es).state → LeadAlike keys s ((es ++ Tick ∷ []) ++ Step ∷ []) es
  back-tick turns =
      let x = (run s es).state in
      let alike = back-alike x turns goes clock back in
      let both : (es ++ Tick ∷ []) ++ Step ∷ [] ≡ es ++ Tick ∷ Step ∷ [] = append_assoc es (Tick ∷ []) (Step ∷ []) in
      let more : run s ((es ++ Tick ∷ []) ++ Step ∷ []) ≡ after_bytes (run s es).bytes (run x (Tick ∷ Step ∷ [])) =
      ap (λ fs. run s fs) both ∙ run-then es (Tick ∷ Step ∷ []) s up goes in
      record {
        like = record {
          bytes = ap (λ (a : After). a.bytes) more ∙ ap (λ bs. (run s es).bytes ++ bs) (sym alike.bytes)
              ∙ append-nil (run s es).bytes;
          alike = clock-alike _ _ (ap (λ (a : After). timeless a.state) more ∙ sym alike.alike);
        };
        typed = ap (λ fs. keys_left keys fs) both ∙ left-then keys es (Tick ∷ Step ∷ []);
        fewer = (let same = ap (λ fs. busy_ticks s fs) both in
            let count = busy-then s es (Tick ∷ Step ∷ []) goes in omega (arith, count, same));
      }

  back-ticks : IsTurnBack (run s es).state → IsDue (run s (es ++ Tick ∷ [])).state
  back-ticks turns =
      subst (λ (a : After). IsDue a.state) (sym (run-more es Tick s up goes))
      (back-due (run s es).state turns goes clock)

  module _ (b : Bounds) (seen todo todo1 todo2 todo3 : List Path) (told told' : List Outcome) (m m1 m2 : Missed)
      (h : IsGoing b keys s seen (p ∷ todo) told m)
      (notes : NotesTime (run s es).state m m1) (tells : TellsWaiting keys s told told' es)
      (key : OpensKey keys s todo todo1 p) (tick : OpensTick b keys s todo1 todo2 m1 m2 p)
      (step : OpensStep keys s todo2 todo3 p) where
    -- what is alike to what is looked at now is cared for
    known : (fs : List Event) → LeadAlike keys s fs es → IsCaredHere b keys s (seen ++ p ∷ []) todo3 told' fs
    known fs leads = inr (inl (one-last (λ (q : Path). ComesAlike b.spin keys s fs (events_of q)) seen p
        (record { there = fs; comes = comes-none b.spin s fs fs refl; leads = leads })))

    opened : (fs : List Event) → IsOpened b.spin s todo3 fs → IsCared b keys s (seen ++ p ∷ []) todo3 told' fs
    unfolding IsCaredAfter
    opened fs on = record { turns = 0; cared = inr (inr on) }

    ticked : IsOpened b.spin s todo2 (es ++ Tick ∷ []) ⊎ (IsTimeIdle (run s es).state ⊎ IsTurnBack (run s es).state)
        → IsCared b keys s (seen ++ p ∷ []) todo3 told' (es ++ Tick ∷ [])
    unfolding IsCaredAfter
    ticked (inl on) = opened (es ++ Tick ∷ []) (step.opens.kept b (es ++ Tick ∷ []) on)
    ticked (inr (inl idle)) = record { turns = 0; cared = known (es ++ Tick ∷ []) (idle-tick idle) }
    ticked (inr (inr turns)) = record {
      turns = 1;
      cared = (back-ticks turns, known ((es ++ Tick ∷ []) ++ Step ∷ []) (back-tick turns));
    }

    cared : (e : Event) → MayCome (keys_left keys es) (run s es).state e
        → Tries b m2 (busy_ticks s es) (run s es).state e
        → IsCared b keys s (seen ++ p ∷ []) todo3 told' (es ++ e ∷ [])
    cared Step may tries = opened (es ++ Step ∷ []) (step.opened b.spin)
    cared Tick may tries =
        ticked (tick.opened (subst (λ n. Tries b m2 n (run s es).state Tick) (sym h.ways.0.counted) tries))
    cared (Key k) may tries = opened (es ++ Key k ∷ []) (step.opens.kept b (es ++ Key k ∷ [])
        (tick.opens.kept b (es ++ Key k ∷ []) (key.opened b.spin k may)))

    pub looks : IsGoing b keys s (seen ++ p ∷ []) todo3 told' m2
    looks = going-looked b keys s up p seen todo told m h todo3 told' m2
        (missed-then m m1 m2 notes.missed tick.missed)
        (λ fs on. step.opens.kept b fs (tick.opens.kept b fs (key.opens.kept b fs on)))
        tells.kept
        (step.opens.ways up goes h.ways.0 (tick.opens.ways up goes h.ways.0 (key.opens.ways up goes h.ways.0 h.ways.1)))
        (tells.sound h.ways.0.free h.sound)
        (λ alone. record {
          goes = goes;
          clock = clock;
          quiet = notes.quiet (tick.missed.alone alone);
          over = tells.told;
          further = cared;
        })
