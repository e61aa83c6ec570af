-- What the steps of a look do: outcomes are told, and paths are opened.
use Rattle.std.proofs.Common.{[], ap, arith, Bool, drop, false, get_or, inl, inr, length, List, None, Option, refl}
use Rattle.std.proofs.Common.{Some}
use Rattle.std.proofs.Common.{subst, suc, sym, true, zero, ℕ, ◌+◌, ◌++◌, ◌<◌, ◌∙◌, ◌∷◌, ◌≡◌, ◌≤◌}
use Rattle.std.specs.Prelude.{if◌then◌else◌, is_none, is_some, not, slice_set, ◌&&◌}
use Rattle.orders.proofs.Free.{busy-one, busy-then, free-one, free-then}
use Rattle.orders.proofs.Lists.{each-last, one-last, one-more}
use Rattle.orders.proofs.Moves.{missed-same}
use Rattle.orders.proofs.Plain.{comes-none}
use Rattle.orders.proofs.Shows.{same-refl}
use Rattle.orders.proofs.Typed.{left-of, next-of, none-left}
use Rattle.orders.specs.declared.bounds.Bounds.{Bounds}
use Rattle.orders.specs.declared.bounds.Missed.{Missed}
use Rattle.orders.specs.declared.paths.Path.{Path}
use Rattle.orders.specs.declared.told.Outcome.{Outcome}
use Rattle.orders.specs.Ends.{AllWait, IsEnding, ShowSame, is_anyone_asleep}
use Rattle.orders.specs.Free.{IsFree, IsNext, MayCome, is_idle, keys_left}
use Rattle.orders.specs.Looked.{ComesTo, IsAtBound, IsCounted, IsKnownAt, IsLikeAt, IsTimeIdle, IsTurnBack, IsWay}
use Rattle.orders.specs.Looked.{LeadAlike, Opens, OpensKey, OpensStep, OpensTick, TellsAt, TellsWaiting}
use Rattle.orders.specs.Paths.{events_of, typed_in}
use Rattle.orders.specs.Told.{Each, IsSound, IsTold, One, run_more, runs_in, runs_more}
use Rattle.orders.specs.Tried.{busy_in, busy_ticks, is_late, is_time_awaited}
use Rattle.unixmodel.specs.declared.event.Event.{Event}
use Rattle.unixmodel.specs.declared.event.Event.TheVariants.{Key, Step, Tick}
use Rattle.unixmodel.specs.Calls.{After}
use Rattle.unixmodel.specs.Run.{run}
use Rattle.unixmodel.specs.State.{State, running}

-- ---- outcomes

-- what holds of an outcome, however many runs ended so, still holds of one of them
one-runs : (P : Outcome → Type 0) → ((o : Outcome) → P o → P (run_more o)) → (told : List Outcome) (n : ℕ)
    → One P told → One P (runs_more told n)
one-runs P more [] n h = absurd h
one-runs P more (o ∷ told) zero (inl h) = inl (more o h)
one-runs P more (o ∷ told) zero (inr h) = inr h
one-runs P more (o ∷ told) (suc n) (inl h) = inl h
one-runs P more (o ∷ told) (suc n) (inr h) = inr (one-runs P more told n h)

each-runs : (P : Outcome → Type 0) → ((o : Outcome) → P o → P (run_more o)) → (told : List Outcome) (n : ℕ)
    → Each P told → Each P (runs_more told n)
each-runs P more [] n h = tt
each-runs P more (o ∷ told) zero h = (more o h.0, h.1)
each-runs P more (o ∷ told) (suc n) h = (h.0, each-runs P more told n h.1)

counted-one : (told : List Outcome) (n : ℕ) → n < length told → runs_in (runs_more told n) ≡ runs_in told + 1
counted-one [] n less = absurd (omega (arith, less))
counted-one (o ∷ told) zero less = omega arith
counted-one (o ∷ told) (suc n) less = (let rest = counted-one told n (omega (arith, less)) in omega (arith, rest))

-- an outcome is put back with one run more
pub counted-set : (told : List Outcome) (n : ℕ) (o : Outcome) (runs : ℕ) → n < length told → o ≡ get_or told n o
    → runs ≡ o.runs + 1
    → slice_set told n (record { path = o.path; status = o.status; runs = runs }) ≡ runs_more told n
counted-set [] n o runs within at is = absurd (omega (arith, within))
counted-set (q ∷ told) zero o runs within at is =
    ap (λ m. let p : Outcome = record { path = o.path; status = o.status; runs = m } in p ∷ told) is
    ∙ ap (λ (p : Outcome). run_more p ∷ told) at
counted-set (q ∷ told) (suc n) o runs within at is =
    ap (λ ps. q ∷ ps) (counted-set told n o runs (omega (arith, within)) at is)

counted-last : (told : List Outcome) (o : Outcome) → runs_in (told ++ o ∷ []) ≡ runs_in told + o.runs
counted-last [] o = omega arith
counted-last (q ∷ told) o = (let rest = counted-last told o in omega (arith, rest))

told-more : (s : State) (told : List Outcome) (n : ℕ) (a : After) → IsTold s told a → IsTold s (runs_more told n) a
told-more s told n a h =
    one-runs (λ (o : Outcome). ShowSame a (run s (events_of o.path))) (λ o on. on) told n h

sound-more : (keys : List ℕ) (s : State) (o : Outcome) → IsSound keys s o → IsSound keys s (run_more o)
sound-more keys s o h = record { ending = h.ending; status = h.status; runs = omega arith }

pub tells-found : (s : State) (told : List Outcome) (n : ℕ) (es : List Event) → n < length told
    → IsTold s told (run s es) → TellsAt s told (runs_more told n) es
tells-found s told n es within h = record {
  told = told-more s told n (run s es) h;
  runs = counted-one told n within;
  kept = told-more s told n;
  sound = λ keys ending on. each-runs (IsSound keys s) (sound-more keys s) told n on;
}

pub tells-new : (s : State) (told : List Outcome) (es : List Event) (o : Outcome) → events_of o.path ≡ es
    → (run s es).state.halted ≡ o.status → o.runs ≡ 1 → TellsAt s told (told ++ o ∷ []) es
tells-new s told es o same status one = record {
  told = one-last (λ (q : Outcome). ShowSame (run s es) (run s (events_of q.path))) told o
      (subst (λ fs. ShowSame (run s es) (run s fs)) (sym same) (same-refl (run s es)));
  runs = counted-last told o ∙ ap (λ n. runs_in told + n) one;
  kept = λ a on. one-more (λ (q : Outcome). ShowSame a (run s (events_of q.path))) told (o ∷ []) on;
  sound = λ keys ending on. each-last (IsSound keys s) told o on (record {
    ending = subst (λ fs. IsEnding keys s fs) (sym same) ending;
    status = ap (λ fs. (run s fs).state.halted) same ∙ status;
    runs = omega (arith, one);
  });
}

pub tells-waiting : (keys : List ℕ) (s : State) (old new : List Outcome) (es : List Event) → TellsAt s old new es
    → AllWait (keys_left keys es) (run s es).state → TellsWaiting keys s old new es
tells-waiting keys s old new es h wait = record {
  told = λ again. h.told;
  kept = h.kept;
  sound = λ free on. h.sound keys (record { free = free; over = inr wait }) on;
}

pub tells-none : (keys : List ℕ) (s : State) (told : List Outcome) (es : List Event)
    → (AllWait (keys_left keys es) (run s es).state → ⊥) → TellsWaiting keys s told told es
tells-none keys s told es busy = record {
  told = λ wait. absurd (busy wait);
  kept = λ a on. on;
  sound = λ free on. on;
}

-- ---- all wait

pub all-wait : (keys : List ℕ) (s : State) (path : Path) → is_idle s ≡ true → is_anyone_asleep s ≡ false
    → length keys ≤ typed_in path.pieces.items → AllWait (keys_left keys (events_of path)) s
all-wait keys s path idle awake all = record { idle = idle; awake = awake; typed = none-left keys path all }

-- ---- what was looked at

-- paths that type as much leave as much to type
pub lead-alike : (keys : List ℕ) (s : State) (path p : Path) → IsCounted s path → IsCounted s p → IsLikeAt s path p
    → LeadAlike keys s (events_of path) (events_of p)
lead-alike keys s path p mine other h = record {
  like = h.like;
  typed = left-of keys path ∙ ap (λ n. drop n keys) (sym h.typed) ∙ sym (left-of keys p);
  fewer = omega (arith, mine, other, h.fewer);
}

-- one that is known leads to what was looked at
pub known-leads : (keys : List ℕ) (s : State) (path : Path) (seen : List Path) → IsCounted s path
    → Each (IsCounted s) seen → IsKnownAt s seen path
    → One (λ (p : Path). LeadAlike keys s (events_of path) (events_of p)) seen
known-leads keys s path [] mine counted one = absurd one
known-leads keys s path (p ∷ seen) mine counted (inl like) = inl (lead-alike keys s path p mine counted.0 like)
known-leads keys s path (p ∷ seen) mine counted (inr one) = inr (known-leads keys s path seen mine counted.1 one)

-- ---- paths that are opened

opens-none : (keys : List ℕ) (s : State) (todo : List Path) (path : Path) → Opens keys s todo todo path
opens-none keys s todo path = record { kept = λ b es on. on; ways = λ up goes way on. on }

-- a path with an event more
way-more : (keys : List ℕ) (s : State) (path p : Path) (e : Event) → events_of p ≡ events_of path ++ e ∷ []
    → p.busy ≡ path.busy + busy_in (run s (events_of path)).state e
    → MayCome (keys_left keys (events_of path)) (run s (events_of path)).state e
    → (run s (events_of path)).state.halted ≡ None → IsWay keys s path → IsWay keys s p
way-more keys s path p e same busy may goes way =
    let es = events_of path in
    let count : busy_ticks s (es ++ e ∷ []) ≡ path.busy + busy_in (run s es).state e =
    (let more = busy-then s es (e ∷ []) goes in
    let counted : path.busy ≡ busy_ticks s es = way.counted in
    omega (arith, more, busy-one (run s es).state e, counted)) in
    record {
      free = subst (λ fs. IsFree keys s fs) (sym same) (free-then keys s es (e ∷ []) way.free (free-one _ _ e may));
      counted = busy ∙ sym count ∙ sym (ap (λ fs. busy_ticks s fs) same);
    }

-- one more path at the front
opens-front : (keys : List ℕ) (s : State) (todo : List Path) (path p : Path) (e : Event)
    → events_of p ≡ events_of path ++ e ∷ [] → p.busy ≡ path.busy + busy_in (run s (events_of path)).state e
    → MayCome (keys_left keys (events_of path)) (run s (events_of path)).state e
    → Opens keys s todo (p ∷ todo) path
opens-front keys s todo path p e same busy may = record {
  kept = λ b es on. inr on;
  ways = λ up goes way on. (way-more keys s path p e same busy may goes way, on);
}

-- and at the back
opens-back : (keys : List ℕ) (s : State) (todo : List Path) (path p : Path) (e : Event)
    → events_of p ≡ events_of path ++ e ∷ [] → p.busy ≡ path.busy + busy_in (run s (events_of path)).state e
    → MayCome (keys_left keys (events_of path)) (run s (events_of path)).state e
    → Opens keys s todo (todo ++ p ∷ []) path
opens-back keys s todo path p e same busy may = record {
  kept = λ b es on. one-more (λ (q : Path). ComesTo b.spin s es (events_of q)) todo (p ∷ []) on;
  ways = λ up goes way on. each-last (IsWay keys s) todo p on (way-more keys s path p e same busy may goes way);
}

pub key-busy : (keys : List ℕ) (s : State) (todo : List Path) (path : Path)
    → is_idle (run s (events_of path)).state ≡ false → OpensKey keys s todo todo path
key-busy keys s todo path busy = record {
  opens = opens-none keys s todo path;
  opened = λ spin b may. absurd (let idle : is_idle (run s (events_of path)).state ≡ true = may.1 in cc);
}

pub key-none : (keys : List ℕ) (s : State) (todo : List Path) (path : Path)
    → length keys ≤ typed_in path.pieces.items → OpensKey keys s todo todo path
key-none keys s todo path all = record {
  opens = opens-none keys s todo path;
  opened = λ spin b may. absurd (subst (λ ks. IsNext ks b) (none-left keys path all) may.0);
}

pub key-opened : (keys : List ℕ) (s : State) (todo : List Path) (path p : Path) (b : ℕ)
    → typed_in path.pieces.items < length keys → b ≡ get_or keys (typed_in path.pieces.items) b
    → is_idle (run s (events_of path)).state ≡ true
    → events_of p ≡ events_of path ++ Key b ∷ [] → p.busy ≡ path.busy → OpensKey keys s todo (p ∷ todo) path
key-opened keys s todo path p b within at idle same busy =
    let next = next-of keys path b within at in
    record {
      opens = opens-front keys s todo path p (Key b) same (omega (arith, busy))
          (subst (λ ks. IsNext ks b) (sym next) refl, idle);
      opened = λ spin c may. inl (comes-none spin s (events_of path ++ Key c ∷ []) (events_of p)
          (same ∙ ap (λ d. events_of path ++ Key d ∷ []) (sym (subst (λ ks. IsNext ks c) next may.0))));
    }

pub step-opened : (keys : List ℕ) (s : State) (todo : List Path) (path p : Path)
    → events_of p ≡ events_of path ++ Step ∷ [] → p.busy ≡ path.busy → OpensStep keys s todo (p ∷ todo) path
step-opened keys s todo path p same busy = record {
  opens = opens-front keys s todo path p Step same (omega (arith, busy)) tt;
  opened = λ spin. inl (comes-none spin s (events_of path ++ Step ∷ []) (events_of p) same);
}

-- ---- timer interrupts

pub none-some : {X : Type 0} (o : Option X) → is_some o ≡ false → o ≡ None
none-some None h = refl
none-some (Some i) h = absurd cc

pub late-is : (s : State) → running s ≡ None → is_anyone_asleep s ≡ true → is_time_awaited s ≡ false
    → is_late s ≡ true
late-is s none asleep over =
    ap (λ (o : Option ℕ). is_none o && (is_anyone_asleep s && not (is_time_awaited s))) none
    ∙ ap (λ b. b && not (is_time_awaited s)) asleep ∙ ap not over

module _ (b : Bounds) (keys : List ℕ) (s : State) (todo : List Path) (m : Missed) (path : Path) where
  pub tick-idle : IsTimeIdle (run s (events_of path)).state → OpensTick b keys s todo todo m m path
  tick-idle idle = record {
    opens = opens-none keys s todo path;
    missed = missed-same m;
    opened = λ tries. inr (inl idle);
  }

  pub tick-back : IsTurnBack (run s (events_of path)).state → OpensTick b keys s todo todo m m path
  tick-back turns = record {
    opens = opens-none keys s todo path;
    missed = missed-same m;
    opened = λ tries. inr (inr turns);
  }

  -- a late one
  pub tick-late : is_late (run s (events_of path)).state ≡ true
      → OpensTick b keys s todo todo m (record m { late = true }) path
  tick-late late = record {
    opens = opens-none keys s todo path;
    missed = record { ticks = λ on. on; late = λ on. refl; alone = λ on. on };
    opened = λ tries. absurd (
        let prompt : is_late (run s (events_of path)).state ≡ false = tries.prompt refl in cc);
  }

  -- one beyond the bound
  pub tick-beyond : is_some (running (run s (events_of path)).state) ≡ true → IsAtBound b path.busy
      → OpensTick b keys s todo todo m (record m { ticks = true }) path
  tick-beyond runs bound = record {
    opens = opens-none keys s todo path;
    missed = record { ticks = λ on. refl; late = λ on. on; alone = λ on. on };
    opened = λ tries. absurd (
        let few = tries.few refl bound.0 bound.1 in
        let one : busy_in (run s (events_of path)).state Tick ≡ 1 = ap (λ (c : Bool). if c then 1 else 0) runs in
        omega (arith, few, one, bound.2));
  }

  pub tick-opened : (p : Path) → events_of p ≡ events_of path ++ Tick ∷ []
      → p.busy ≡ path.busy + (if is_some (running (run s (events_of path)).state) then 1 else 0)
      → OpensTick b keys s todo (todo ++ p ∷ []) m m path
  tick-opened p same busy = record {
    opens = opens-back keys s todo path p Tick same busy tt;
    missed = missed-same m;
    opened = λ tries. inl (one-last (λ (q : Path). ComesTo b.spin s (events_of path ++ Tick ∷ []) (events_of q)) todo p
        (comes-none b.spin s (events_of path ++ Tick ∷ []) (events_of p) same));
  }
