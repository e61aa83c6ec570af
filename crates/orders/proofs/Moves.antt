-- How a search goes on from what is known to what is known after one path more.
use Rattle.std.proofs.Common.{[], ap, append-nil, arith, inl, inr, List, None, refl, subst, suc, sym, true, zero}
use Rattle.std.proofs.Common.{ℕ, ◌++◌, ◌∙◌, ◌∷◌, ◌≡◌, ◌⊎◌}
use Rattle.std.specs.Prelude.{is_some}
use Rattle.orders.proofs.Alike.{alike-itself}
use Rattle.orders.proofs.Free.{busy-none, busy-steps, busy-then, free-none, free-steps, free-then}
use Rattle.orders.proofs.Lists.{each-each, one-each, one-last, one-more}
use Rattle.orders.proofs.Plain.{comes-halted, comes-idle, comes-none, comes-over, comes-then}
use Rattle.orders.specs.declared.bounds.Bounds.{Bounds}
use Rattle.orders.specs.declared.bounds.Missed.{Missed}
use Rattle.orders.specs.declared.paths.Path.{Path}
use Rattle.orders.specs.declared.told.Outcome.{Outcome}
use Rattle.orders.specs.Free.{IsFree}
use Rattle.orders.specs.Looked.{AreSound, ComesAlike, ComesTo, EndsTold, IsCared, IsCaredAfter, IsCaredHere}
use Rattle.orders.specs.Looked.{IsCounted, IsDue, IsGoing, IsLookedAt, IsOpened, IsTurnTaken, IsWay, KeepsMissed}
use Rattle.orders.specs.Looked.{KeepsOpened, KeepsTold, LeadAlike, TakesTurn, TellsAt}
use Rattle.orders.specs.Missed.{is_ticks_alone}
use Rattle.orders.specs.Paths.{events_of, steps}
use Rattle.orders.specs.Told.{Each, IsTold, One}
use Rattle.orders.specs.Tried.{busy_ticks}
use Rattle.unixmodel.specs.declared.event.Event.{Event}
use Rattle.unixmodel.specs.declared.event.Event.TheVariants.{Step}
use Rattle.unixmodel.specs.Calls.{After}
use Rattle.unixmodel.specs.Run.{run}
use Rattle.unixmodel.specs.State.{State}

-- ---- what was left out

pub missed-same : (m : Missed) → KeepsMissed m m
missed-same m = record { ticks = λ on. on; late = λ on. on; alone = λ on. on }

pub missed-then : (m n o : Missed) → KeepsMissed m n → KeepsMissed n o → KeepsMissed m o
missed-then m n o one two = record {
  ticks = λ on. two.ticks (one.ticks on);
  late = λ on. two.late (one.late on);
  alone = λ on. one.alone (two.alone on);
}

-- ---- what is cared for

-- a path was settled: process 1 ends by it and that is told, or it leads to what is alike to what was looked at
abbrev pub IsSettled : List ℕ → State → List Path → List Outcome → Path → Type 0
IsSettled keys s seen told p = EndsTold s told (events_of p)
    ⊎ One (λ (q : Path). LeadAlike keys s (events_of p) (events_of q)) seen

abbrev KeepsHere : Bounds → List ℕ → State → List Path → List Path → List Outcome → List Path → List Path
    → List Outcome → Type 0
KeepsHere b keys s seen todo told seen' todo' told' =
    (es : List Event) → IsCaredHere b keys s seen todo told es → IsCaredHere b keys s seen' todo' told' es

abbrev KeepsCared : Bounds → List ℕ → State → List Path → List Path → List Outcome → List Path → List Path
    → List Outcome → Type 0
KeepsCared b keys s seen todo told seen' todo' told' =
    (es : List Event) → IsCared b keys s seen todo told es → IsCared b keys s seen' todo' told' es

-- what keeps what is cared for here keeps what is after turns
after-turns : (b : Bounds) (keys : List ℕ) (s : State) (seen todo seen' todo' : List Path) (told told' : List Outcome)
    → KeepsHere b keys s seen todo told seen' todo' told' → (n : ℕ) (es : List Event)
    → IsCaredAfter n b keys s seen todo told es → IsCaredAfter n b keys s seen' todo' told' es
unfolding IsCaredAfter
after-turns b keys s seen todo seen' todo' told told' here zero es h = here es h
after-turns b keys s seen todo seen' todo' told told' here (suc n) es h =
    (h.0, after-turns b keys s seen todo seen' todo' told told' here n (es ++ Step ∷ []) h.1)

keeps-cared : (b : Bounds) (keys : List ℕ) (s : State) (seen todo seen' todo' : List Path) (told told' : List Outcome)
    → KeepsHere b keys s seen todo told seen' todo' told' → KeepsCared b keys s seen todo told seen' todo' told'
keeps-cared b keys s seen todo seen' todo' told told' here es h = record {
  turns = h.turns;
  cared = after-turns b keys s seen todo seen' todo' told told' here h.turns es h.cared;
}

module _ (b : Bounds) (keys : List ℕ) (s : State) (up : s.halted ≡ None) where
  -- process 1 ends by a list of events if it ends after computing steps that follow
  ends-back : (told : List Outcome) (es fs : List Event) → ComesTo b.spin s es fs → EndsTold s told fs
      → EndsTold s told es
  ends-back told es fs c ends =
      let ended : is_some (run s es).state.halted ≡ true =
      ap is_some (sym (comes-halted s up b.spin es fs c)) ∙ ends.ended in
      record {
        ended = ended;
        shown = subst (λ (a : After). IsTold s told a) (comes-over s up b.spin es fs c ended) ends.shown;
      }

  module _ (p : Path) (seen more todo todo' : List Path) (told told' : List Outcome)
      (opened : KeepsOpened b s todo todo') (kept : KeepsTold s told told')
      (settled : IsSettled keys s (seen ++ more) told' p) where
    alike-by : (es : List Event) → ComesTo b.spin s es (events_of p)
        → (q : Path) → LeadAlike keys s (events_of p) (events_of q) → ComesAlike b.spin keys s es (events_of q)
    alike-by es c q leads = record { there = events_of p; comes = c; leads = leads }

    settled-by : (es : List Event) → ComesTo b.spin s es (events_of p) → IsSettled keys s (seen ++ more) told' p
        → IsCaredHere b keys s (seen ++ more) todo' told' es
    settled-by es c (inl ends) = inl (ends-back told' es (events_of p) c ends)
    settled-by es c (inr one) =
        inr (inl (one-each (λ (q : Path). LeadAlike keys s (events_of p) (events_of q))
        (λ (q : Path). ComesAlike b.spin keys s es (events_of q)) (alike-by es c) (seen ++ more) one))

    here-settled : KeepsHere b keys s seen (p ∷ todo) told (seen ++ more) todo' told'
    here-settled es (inl ends) = inl (record { ended = ends.ended; shown = kept (run s es) ends.shown })
    here-settled es (inr (inl one)) =
        inr (inl (one-more (λ (q : Path). ComesAlike b.spin keys s es (events_of q)) seen more one))
    here-settled es (inr (inr (inl c))) = settled-by es c settled
    here-settled es (inr (inr (inr on))) = inr (inr (opened es on))

    cared-settled : KeepsCared b keys s seen (p ∷ todo) told (seen ++ more) todo' told'
    cared-settled = keeps-cared b keys s seen (p ∷ todo) (seen ++ more) todo' told told' here-settled

  module _ (p q : Path) (seen todo : List Path) (told : List Outcome) (goes : (run s (events_of p)).state.halted ≡ None)
    where
      -- a path went on
      module _ (c : ComesTo b.spin s (events_of p) (events_of q)) where
        here-onward : KeepsHere b keys s seen (p ∷ todo) told seen (q ∷ todo) told
        here-onward es (inl ends) = inl ends
        here-onward es (inr (inl one)) = inr (inl one)
        here-onward es (inr (inr (inl d))) =
            inr (inr (inl (comes-then s up b.spin es (events_of p) (events_of q)
            (sym (comes-halted s up b.spin es (events_of p) d) ∙ goes) d c)))
        here-onward es (inr (inr (inr on))) = inr (inr (inr on))

        cared-onward : KeepsCared b keys s seen (p ∷ todo) told seen (q ∷ todo) told
        cared-onward = keeps-cared b keys s seen (p ∷ todo) seen (q ∷ todo) told told here-onward

      -- the turn that is due was taken
      module _ (due : IsDue (run s (events_of p)).state) (same : events_of q ≡ events_of p ++ Step ∷ []) where
        here-turned : (es : List Event) → IsCaredHere b keys s seen (p ∷ todo) told es
            → IsCared b keys s seen (q ∷ todo) told es
        unfolding IsCaredAfter
        here-turned es (inl ends) = record { turns = 0; cared = inl ends }
        here-turned es (inr (inl one)) = record { turns = 0; cared = inr (inl one) }
        here-turned es (inr (inr (inl d))) =
            let here : events_of p ≡ es = comes-idle s up b.spin es (events_of p) d goes due.none in
            record {
              turns = 1;
              cared = (
                subst (λ fs. IsDue (run s fs).state) here due,
                inr (inr (inl (comes-none b.spin s (es ++ Step ∷ []) (events_of q)
                    (same ∙ ap (λ fs. fs ++ Step ∷ []) here)))),
              );
            }
        here-turned es (inr (inr (inr on))) = record { turns = 0; cared = inr (inr (inr on)) }

        after-turned : (n : ℕ) (es : List Event) → IsCaredAfter n b keys s seen (p ∷ todo) told es
            → IsCared b keys s seen (q ∷ todo) told es
        unfolding IsCaredAfter
        after-turned zero es h = here-turned es h
        after-turned (suc n) es h =
            let later = after-turned n (es ++ Step ∷ []) h.1 in
            record { turns = suc later.turns; cared = (h.0, later.cared) }

        cared-turned : KeepsCared b keys s seen (p ∷ todo) told seen (q ∷ todo) told
        cared-turned es h = after-turned h.turns es h.cared

  -- ---- what was looked at

  module _ (m m' : Missed) (seen todo seen' todo' : List Path) (told told' : List Outcome)
      (cared : KeepsCared b keys s seen todo told seen' todo' told') (kept : KeepsTold s told told')
      (missed : KeepsMissed m m') where
    looked-on : (es : List Event) → IsLookedAt b m keys s seen todo told es
        → IsLookedAt b m' keys s seen' todo' told' es
    looked-on es h = record {
      goes = h.goes;
      clock = h.clock;
      quiet = h.quiet;
      over = λ wait. kept (run s es) (h.over wait);
      further = λ e may tries. cared (es ++ e ∷ []) (h.further e may (record {
        few = λ left. tries.few (missed.ticks left);
        prompt = λ left. tries.prompt (missed.late left);
      }));
    }

    each-on : (ps : List Path) → Each (λ (q : Path). IsLookedAt b m keys s seen todo told (events_of q)) ps
        → Each (λ (q : Path). IsLookedAt b m' keys s seen' todo' told' (events_of q)) ps
    each-on ps h = each-each (λ (q : Path). IsLookedAt b m keys s seen todo told (events_of q))
        (λ (q : Path). IsLookedAt b m' keys s seen' todo' told' (events_of q)) (λ q on. looked-on (events_of q) on) ps h

-- ---- a search goes on

each-both : {X : Type 0} (P : X → Type 0) (xs ys : List X) → Each P xs → Each P ys → Each P (xs ++ ys)
each-both P [] ys h k = k
each-both P (x ∷ xs) ys h k = (h.0, each-both P xs ys h.1 k)

module _ (b : Bounds) (keys : List ℕ) (s : State) (up : s.halted ≡ None) (p : Path) (seen todo : List Path)
    (told : List Outcome) (m : Missed) (h : IsGoing b keys s seen (p ∷ todo) told m) where
  -- a path was settled, and nothing was looked at
  pub going-settled : (told' : List Outcome) → KeepsTold s told told' → IsSettled keys s seen told' p
      → AreSound keys s told' → IsGoing b keys s seen todo told' m
  going-settled told' kept settled sound = record {
    ways = h.ways.1;
    counted = h.counted;
    sound = sound;
    whole = λ alone.
        let same : seen ++ [] ≡ seen = append-nil seen in
        let cared : KeepsCared b keys s seen (p ∷ todo) told seen todo told' =
        subst (λ qs. KeepsCared b keys s seen (p ∷ todo) told qs todo told') same
        (cared-settled b keys s up p seen [] todo todo told told' (λ es on. on) kept
        (subst (λ qs. IsSettled keys s qs told' p) (sym same) settled)) in
        let old = h.whole alone in
        record {
          looked = each-on b keys s up m m seen (p ∷ todo) seen todo told told' cared kept (missed-same m) seen
              old.looked;
          begun = cared [] old.begun;
        };
  }

  -- process 1 ends by a path, and what shows is told
  pub going-ended : (told' : List Outcome) → is_some (run s (events_of p)).state.halted ≡ true
      → TellsAt s told told' (events_of p) → IsGoing b keys s seen todo told' m
  going-ended told' ended tells =
      going-settled told' tells.kept (inl (record { ended = ended; shown = tells.told }))
      (tells.sound keys (record { free = h.ways.0.free; over = inl ended }) h.sound)

  -- the state that it leads to is left out
  pub going-missed : IsGoing b keys s seen todo told (record m { states = true })
  going-missed = record {
    ways = h.ways.1;
    counted = h.counted;
    sound = h.sound;
    whole = λ alone. absurd cc;
  }

  -- another path is at the front
  replaced : (q : Path) → IsWay keys s q → KeepsCared b keys s seen (p ∷ todo) told seen (q ∷ todo) told
      → IsGoing b keys s seen (q ∷ todo) told m
  replaced q way cared = record {
    ways = (way, h.ways.1);
    counted = h.counted;
    sound = h.sound;
    whole = λ alone.
        let old = h.whole alone in
        record {
          looked = each-on b keys s up m m seen (p ∷ todo) seen (q ∷ todo) told told cared (λ a on. on)
              (missed-same m) seen old.looked;
          begun = cared [] old.begun;
        };
  }

  -- the path with some steps more
  way-steps : (q : Path) (n : ℕ) → (run s (events_of p)).state.halted ≡ None → events_of q ≡ events_of p ++ steps n
      → q.busy ≡ p.busy → IsWay keys s q
  way-steps q n goes same busy =
      let way : IsWay keys s p = h.ways.0 in
      let count : busy_ticks s (events_of p ++ steps n) ≡ busy_ticks s (events_of p) =
      (let more = busy-then s (events_of p) (steps n) goes in
      omega (arith, more, busy-steps (run s (events_of p)).state n)) in
      record {
        free = subst (λ es. IsFree keys s es) (sym same)
            (free-then keys s (events_of p) (steps n) way.free (free-steps _ (run s (events_of p)).state n));
        counted = busy ∙ way.counted ∙ sym count ∙ sym (ap (λ es. busy_ticks s es) same);
      }

  -- a path went on
  pub going-onward : (q : Path) → (run s (events_of p)).state.halted ≡ None
      → ComesTo b.spin s (events_of p) (events_of q) → q.busy ≡ p.busy → IsGoing b keys s seen (q ∷ todo) told m
  going-onward q goes c busy = replaced q (way-steps q c.count goes c.same busy)
      (cared-onward b keys s up p q seen todo told goes c)

  same-cared : (q : Path) → events_of q ≡ events_of p → KeepsCared b keys s seen (p ∷ todo) told seen (q ∷ todo) told
  same-cared q same = keeps-cared b keys s seen (p ∷ todo) seen (q ∷ todo) told told
      (λ es on. subst (λ fs. EndsTold s told es
      ⊎ (One (λ (u : Path). ComesAlike b.spin keys s es (events_of u)) seen
      ⊎ (ComesTo b.spin s es fs ⊎ IsOpened b.spin s todo es))) (sym same) on)

  way-same : (q : Path) → events_of q ≡ events_of p → q.busy ≡ p.busy → IsWay keys s q
  way-same q same busy =
      let way : IsWay keys s p = h.ways.0 in
      record {
        free = subst (λ es. IsFree keys s es) (sym same) way.free;
        counted = busy ∙ way.counted ∙ sym (ap (λ es. busy_ticks s es) same);
      }

  -- the turn that is due at its end was taken, if one is
  pub going-turned : (q : Path) → TakesTurn s p q → IsGoing b keys s seen (q ∷ todo) told m
  going-turned q takes = by takes.taken
    where
      by : IsTurnTaken s p q → IsGoing b keys s seen (q ∷ todo) told m
      by (inl same) = replaced q (way-same q same takes.busy) (same-cared q same)
      by (inr due) = replaced q (way-steps q 1 due.0.goes due.1 takes.busy)
          (cared-turned b keys s up p q seen todo told due.0.goes due.0 due.1)

  -- a path was looked at
  pub going-looked : (todo' : List Path) (told' : List Outcome) (m' : Missed) → KeepsMissed m m'
      → KeepsOpened b s todo todo' → KeepsTold s told told' → Each (IsWay keys s) todo' → AreSound keys s told'
      → (is_ticks_alone m' ≡ true → IsLookedAt b m' keys s (seen ++ p ∷ []) todo' told' (events_of p))
      → IsGoing b keys s (seen ++ p ∷ []) todo' told' m'
  going-looked todo' told' m' missed opened kept ways sound looked = record {
    ways = ways;
    counted = each-both (IsCounted s) seen (p ∷ []) h.counted (h.ways.0.counted, tt);
    sound = sound;
    whole = λ alone.
        let cared : KeepsCared b keys s seen (p ∷ todo) told (seen ++ p ∷ []) todo' told' =
        cared-settled b keys s up p seen (p ∷ []) todo todo' told told' opened kept
        (inr (one-last (λ (q : Path). LeadAlike keys s (events_of p) (events_of q)) seen p (record {
          like = record { bytes = refl; alike = alike-itself (run s (events_of p)).state };
          typed = refl;
          fewer = omega arith;
        }))) in
        let old = h.whole (missed.alone alone) in
        record {
          looked = each-both (λ (q : Path). IsLookedAt b m' keys s (seen ++ p ∷ []) todo' told' (events_of q)) seen
              (p ∷ [])
              (each-on b keys s up m m' seen (p ∷ todo) (seen ++ p ∷ []) todo' told told' cared kept missed seen
              old.looked)
              (looked alone, tt);
          begun = cared [] old.begun;
        };
  }

begun : (b : Bounds) (keys : List ℕ) (s : State) (p : Path) → events_of p ≡ []
    → IsCaredAfter 0 b keys s [] (p ∷ []) [] []
unfolding IsCaredAfter
begun b keys s p none = inr (inr (inl (comes-none b.spin s [] (events_of p) none)))

-- a search begins with no events
pub going-begun : (b : Bounds) (keys : List ℕ) (s : State) (p : Path) (m : Missed) → events_of p ≡ [] → p.busy ≡ 0
    → IsGoing b keys s [] (p ∷ []) [] m
going-begun b keys s p m none zero-busy = record {
  ways = (
    record {
      free = subst (λ es. IsFree keys s es) (sym none) (free-none keys s);
      counted = zero-busy ∙ sym (busy-none s) ∙ sym (ap (λ es. busy_ticks s es) none);
    },
    tt,
  );
  counted = tt;
  sound = tt;
  whole = λ alone. record {
    looked = tt;
    begun = record { turns = 0; cared = begun b keys s p none };
  };
}
