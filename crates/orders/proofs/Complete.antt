-- Where all that was looked at is cared for and nothing is open, what coarse lists of events show is told, and in none
-- of their events a process asks for the time.
use Rattle.std.proofs.Common.{[], ap, append_assoc, append-nil, arith, false, inl, inr, List, None, Option, refl}
use Rattle.std.proofs.Common.{Some, subst, suc, sym, true, zero, ℕ, ℤ, ◌^◌, ◌<◌, ◌+◌, ◌++◌, ◌∙◌, ◌∷◌, ◌≡◌, ◌≤◌}
use Rattle.std.specs.Prelude.{is_none, is_some, ◌&&◌}
use Rattle.orders.proofs.Alike.{BothAlike, alike-back, alike-itself, alike-then, asleep-alike, both-after, clock-alike}
use Rattle.orders.proofs.Alike.{halted-alike, idle-alike}
use Rattle.orders.proofs.Free.{TriedFrom, busy-alike, busy-none, busy-one, busy-steps, busy-then}
use Rattle.orders.proofs.Free.{free-first, free-goes}
use Rattle.orders.proofs.Free.{left-steps}
use Rattle.orders.proofs.Free.{left-then, may-come, tried-first, tried-goes, tries-alike}
use Rattle.orders.proofs.Lists.{both-of}
use Rattle.orders.proofs.Plain.{after-alike, comes-halted, comes-run, goes-quietly, plain-alike}
use Rattle.orders.proofs.Plain.{quiet-time, who-computes}
use Rattle.orders.proofs.Runs.{run-goes, run-more, run-none, run-stops}
use Rattle.orders.proofs.Shows.{same-alike, told-same}
use Rattle.orders.proofs.Turning.{due-alike, none-asks, none-asleep}
use Rattle.orders.specs.declared.bounds.Bounds.{Bounds}
use Rattle.orders.specs.declared.bounds.Missed.{Missed}
use Rattle.orders.specs.declared.paths.Path.{Path}
use Rattle.orders.specs.declared.told.Outcome.{Outcome}
use Rattle.orders.specs.Ends.{AllWait, IsOver}
use Rattle.orders.specs.Free.{IsFree, is_idle, keys_after, keys_left}
use Rattle.orders.specs.Looked.{ComesAlike, EndsTold, IsCaredAfter, IsCaredHere, IsDue, IsLookedAt, IsPlain, IsWhole}
use Rattle.orders.specs.Looked.{stepped_on}
use Rattle.orders.specs.Paths.{events_of, steps}
use Rattle.orders.specs.Told.{IsTold}
use Rattle.orders.specs.Tried.{busy_in, busy_ticks}
use Rattle.renumbering.proofs.Clocks.{asks-alike}
use Rattle.renumbering.proofs.Starts.{names-stay}
use Rattle.renumbering.specs.Alike.{AlikeUpToNumbers, AreAlikeUpToNumbers, EventKeepsNumbersAlike}
use Rattle.renumbering.specs.Renumbered.{NamesAreThere}
use Rattle.schedules.specs.Alike.{HasClock, IdleTickChangesNothing, NeverAsksTime, asks_time}
use Rattle.schedules.specs.Coarse.{IsCoarse, IsPlaced}
use Rattle.schedules.specs.Schedules.{ComputesFor, after_steps, computes}
use Rattle.unixmodel.specs.declared.event.Event.{Event}
use Rattle.unixmodel.specs.declared.event.Event.TheVariants.{Key, Step, Tick}
use Rattle.unixmodel.specs.Calls.{After, quiet}
use Rattle.unixmodel.specs.Next.{next}
use Rattle.unixmodel.specs.Run.{UnlessHalted, after_bytes, run}
use Rattle.unixmodel.specs.State.{State}
use Rattle.unixmodel.specs.Turn.{turn}

-- only a step asks for the time
pub asks-none : (s : State) (e : Event) → asks_time s Step ≡ false → asks_time s e ≡ false
unfolding asks_time
asks-none s Step quiet = quiet
asks-none s Tick quiet = refl
asks-none s (Key b) quiet = refl

wait-alike : (keys : List ℕ) (s t : State) → BothAlike s t → AllWait keys s → AllWait keys t
wait-alike keys s t both h = record {
  idle = sym (idle-alike s t both) ∙ h.idle;
  awake = sym (asleep-alike s t both.alike) ∙ h.awake;
  typed = h.typed;
}

-- where a process computes, it isn't idle
busy-idle : (s : State) → computes s ≡ true → is_idle s ≡ true → ⊥
busy-idle s done idle =
    let who = who-computes s done in
    let busy : is_idle s ≡ false = ap (λ (o : Option ℕ). is_none o && is_none (turn s)) who.1 in
    absurd cc

-- ---- what is left of a list

-- its events may come from there, are tried, and come before calls and faults
record Rest (b : Bounds) (m : Missed) (keys : List ℕ) (count : ℕ) (s : State) (es : List Event) : Type 0 where
  free : IsFree keys s es
  tried : TriedFrom b m count s es
  coarse : IsCoarse (ComputesFor b.spin) s es

coarse-first : (Endless : State → Type 0) (s : State) (e : Event) (es : List Event) → IsCoarse Endless s (e ∷ es)
    → IsPlaced Endless s e
unfolding IsCoarse
coarse-first Endless s e es h = h.0

coarse-goes : (Endless : State → Type 0) (s : State) (e : Event) (es : List Event) → (next s e).state.halted ≡ None
    → IsCoarse Endless s (e ∷ es) → IsCoarse Endless (next s e).state es
unfolding IsCoarse
coarse-goes Endless s e es goes h =
    subst (UnlessHalted (next s e).state (λ t. IsCoarse Endless t es)) goes h.1

rest-goes : (b : Bounds) (m : Missed) (keys : List ℕ) (count : ℕ) (s : State) (e : Event) (es : List Event)
    → (next s e).state.halted ≡ None → Rest b m keys count s (e ∷ es)
    → Rest b m (keys_after keys e) (count + busy_in s e) (next s e).state es
rest-goes b m keys count s e es goes h = record {
  free = free-goes keys s e es goes h.free;
  tried = tried-goes b m count s e es goes h.tried;
  coarse = coarse-goes (ComputesFor b.spin) s e es goes h.coarse;
}

-- after an event that ends process 1 nothing else is
ends-free : (t : State) (Rest : State → Type 0) (h : Option ℤ) → is_some h ≡ true → UnlessHalted t Rest h
ends-free t Rest None ended = absurd cc
ends-free t Rest (Some status) ended = tt

module _ (b : Bounds) (m : Missed) (keys : List ℕ) (s : State) (seen : List Path) (told : List Outcome)
    (law : EventKeepsNumbersAlike) (idle : IdleTickChangesNothing) (up : s.halted ≡ None) (names : NamesAreThere s)
    (whole : IsWhole b m keys s seen [] told) where
  -- n computing steps before what is alike to what was looked at
  record Near (n count : ℕ) (t : State) (x : List Event) : Type 0 where
    looked : IsLookedAt b m keys s seen [] told x
    plain : IsPlain b.spin t n
    both : BothAlike (after_steps n t) (run s x).state
    clock : HasClock t
    goes : t.halted ≡ None
    fewer : busy_ticks s x ≤ count

  -- what a list shows, after bytes that were printed, is told if it is over at its end, and in none of its events a
  -- process asks for the time
  record Follows (bytes ks : List ℕ) (t : State) (es : List Event) : Type 0 where
    shows : IsOver (keys_left ks es) (run t es).state → IsTold s told (after_bytes bytes (run t es))
    quiet : NeverAsksTime t es

  -- so does the rest of a list
  abbrev Further : List Event → Type 0
  Further es = (n count : ℕ) (t : State) (x : List Event) → Near n count t x → Rest b m (keys_left keys x) count t es
      → Follows (run s x).bytes (keys_left keys x) t es

  -- and from a state on that is alike to what another list leads to, if what comes of that after n turns is cared for
  abbrev Caring : List Event → Type 0
  Caring es = (n count : ℕ) (t : State) (z : List Event) → BothAlike t (run s z).state → t.halted ≡ None
      → busy_ticks s z ≤ count → IsCaredAfter n b keys s seen [] told z → Rest b m (keys_left keys z) count t es
      → Follows (run s z).bytes (keys_left keys z) t es

  record Onward (es : List Event) : Type 0 where
    further : Further es
    caring : Caring es

  -- where process 1 goes on and not all wait it isn't over
  not-over : (ks : List ℕ) (t : State) → t.halted ≡ None → (is_idle t ≡ true → ⊥) → IsOver ks t → ⊥
  not-over ks t goes busy (inl ended) = let no : is_some t.halted ≡ false = ap is_some goes in cc
  not-over ks t goes busy (inr wait) = busy wait.idle

  not-ended : (z : List Event) → (run s z).state.halted ≡ None → EndsTold s told z → ⊥
  not-ended z goes ends =
      let no : is_some (run s z).state.halted ≡ false = ap is_some goes in
      let yes : is_some (run s z).state.halted ≡ true = ends.ended in cc

  -- where process 1 has ended, what is cared for is an outcome
  ends-told : (n : ℕ) (z : List Event) {status : ℤ} → (run s z).state.halted ≡ Some status
      → IsCaredAfter n b keys s seen [] told z → EndsTold s told z
  unfolding IsCaredAfter
  ends-told zero z ended (inl ends) = ends
  ends-told zero z ended (inr (inl one)) =
      let found = both-of (λ (p : Path). IsLookedAt b m keys s seen [] told (events_of p))
      (λ (p : Path). ComesAlike b.spin keys s z (events_of p)) seen whole.looked one in
      let y = events_of found.0 in
      let c : ComesAlike b.spin keys s z y = found.2 in
      let known : IsLookedAt b m keys s seen [] told y = found.1 in
      let goes : (run s z).state.halted ≡ None = sym (comes-halted s up b.spin z c.there c.comes)
      ∙ halted-alike (run s c.there).state (run s y).state c.leads.like.alike ∙ known.goes in
      absurd cc
  ends-told zero z ended (inr (inr none)) = absurd none
  ends-told (suc n) z ended h = absurd (let goes : (run s z).state.halted ≡ None = h.0.goes in cc)

  -- ---- an event more

  -- one that doesn't end process 1
  follows-on : (bytes ks : List ℕ) (t : State) (e : Event) (es : List Event) → asks_time t e ≡ false
      → (next t e).state.halted ≡ None
      → Follows (bytes ++ (next t e).bytes) (keys_after ks e) (next t e).state es → Follows bytes ks t (e ∷ es)
  unfolding NeverAsksTime
  follows-on bytes ks t e es quiet goes later =
      let on = run-goes t e es goes in
      let rest = run (next t e).state es in
      let all : after_bytes (bytes ++ (next t e).bytes) rest ≡ after_bytes bytes (after_bytes (next t e).bytes rest) =
      ap (λ bs. let q : After = record { state = rest.state; bytes = bs } in q)
      (append_assoc bytes (next t e).bytes rest.bytes) in
      record {
        shows = λ over. subst (λ (a : After). IsTold s told (after_bytes bytes a)) (sym on)
            (subst (λ (a : After). IsTold s told a) all
            (later.shows (subst (λ (a : After). IsOver (keys_left ks (e ∷ es)) a.state) on over)));
        quiet = (quiet, subst (UnlessHalted (next t e).state (λ u. NeverAsksTime u es)) (sym goes) later.quiet);
      }

  -- nor prints anything
  follows-silently : (bytes ks : List ℕ) (t : State) (e : Event) (es : List Event) → asks_time t e ≡ false
      → (next t e).state.halted ≡ None → (next t e).bytes ≡ []
      → Follows bytes (keys_after ks e) (next t e).state es → Follows bytes ks t (e ∷ es)
  follows-silently bytes ks t e es quiet goes silent later =
      follows-on bytes ks t e es quiet goes
      (subst (λ bs. Follows bs (keys_after ks e) (next t e).state es)
      (sym (ap (λ bs. bytes ++ bs) silent ∙ append-nil bytes)) later)

  -- one that does
  follows-last : (bytes ks : List ℕ) (t : State) (e : Event) (es : List Event) → asks_time t e ≡ false
      → is_some (next t e).state.halted ≡ true → IsTold s told (after_bytes bytes (next t e))
      → Follows bytes ks t (e ∷ es)
  unfolding NeverAsksTime
  follows-last bytes ks t e es quiet ended shown = record {
    shows = λ over. subst (λ a. IsTold s told (after_bytes bytes a)) (sym (run-stops t e es ended)) shown;
    quiet = (quiet, ends-free (next t e).state (λ u. NeverAsksTime u es) (next t e).state.halted ended);
  }

  -- no more events
  follows-none : (bytes ks : List ℕ) (t : State) → (IsOver ks t → IsTold s told (after_bytes bytes (quiet t)))
      → Follows bytes ks t []
  unfolding NeverAsksTime
  follows-none bytes ks t ends = record {
    shows = λ over. subst (λ a. IsTold s told (after_bytes bytes a)) (sym (run-none t))
        (ends (subst (λ (a : After). IsOver ks a.state) (run-none t) over));
    quiet = tt;
  }

  -- ---- where computing steps come first

  plain-first : (n : ℕ) (t : State) → IsPlain b.spin t (suc n) → computes t ≡ true
  unfolding IsPlain
  plain-first n t plain = plain.0

  near-step : (n count : ℕ) (t : State) (x : List Event) → Near (suc n) count t x
      → Near n (count + busy_in t Step) (next t Step).state x
  unfolding IsPlain after_steps
  near-step n count t x near =
      let quietly = goes-quietly t (near.plain.0) in
      record {
        looked = near.looked;
        plain = near.plain.2;
        both = near.both;
        clock = subst (λ k. k < 2 ^ 32) (sym quietly.ticks) near.clock;
        goes = quietly.halted ∙ near.goes;
        fewer = omega (arith, near.fewer);
      }

  at-plain : (e : Event) (es : List Event) → Further es → (n count : ℕ) (t : State) (x : List Event)
      → Near (suc n) count t x → Rest b m (keys_left keys x) count t (e ∷ es)
      → Follows (run s x).bytes (keys_left keys x) t (e ∷ es)
  unfolding IsPlain
  at-plain Step es further n count t x near rest =
      let quietly = goes-quietly t near.plain.0 in
      let goes : (next t Step).state.halted ≡ None = quietly.halted ∙ near.goes in
      follows-silently (run s x).bytes (keys_left keys x) t Step es (quiet-time t near.plain.0) goes quietly.bytes
      (further n (count + busy_in t Step) (next t Step).state x (near-step n count t x near)
      (rest-goes b m (keys_left keys x) count t Step es goes rest))
  at-plain Tick es further n count t x near rest = placed (coarse-first (ComputesFor b.spin) t Tick es rest.coarse)
    where
      placed : {G : Type 0} → IsPlaced (ComputesFor b.spin) t Tick → G
      placed (inl stops) = absurd (let done : computes t ≡ true = near.plain.0 in cc)
      placed (inr endless) = absurd (near.plain.1 endless)
  at-plain (Key k) es further n count t x near rest =
      absurd (busy-idle t near.plain.0 (free-first (keys_left keys x) t (Key k) es rest.free).1)

  -- ---- one event

  -- an event in a state that is alike to what a list leads to
  module _ (t : State) (z : List Event) (e : Event) (es : List Event) (up-there : (run s z).state.halted ≡ None)
      (alike : AreAlikeUpToNumbers (next (run s z).state e) (next t e)) (quiet : asks_time t e ≡ false) where
    more : run s (z ++ e ∷ []) ≡ after_bytes (run s z).bytes (next (run s z).state e)
    more = run-more z e s up up-there

    both : BothAlike (next t e).state (run s (z ++ e ∷ [])).state
    both = subst (λ (a : After). BothAlike (next t e).state a.state) (sym more)
        (both-after (next t e) (next (run s z).state e) alike)

    bytes-more : (run s (z ++ e ∷ [])).bytes ≡ (run s z).bytes ++ (next t e).bytes
    bytes-more = ap (λ (a : After). a.bytes) more ∙ ap (λ bs. (run s z).bytes ++ bs) alike.bytes

    -- it ends process 1
    at-first : EndsTold s told (z ++ e ∷ []) → Follows (run s z).bytes (keys_left keys z) t (e ∷ es)
    at-first ends =
        let ended : is_some (next t e).state.halted ≡ true =
        ap is_some (halted-alike (next t e).state (run s (z ++ e ∷ [])).state both.alike) ∙ ends.ended in
        follows-last (run s z).bytes (keys_left keys z) t e es quiet ended
        (told-same s told (after_bytes (run s z).bytes (next t e)) (run s (z ++ e ∷ []))
        (same-alike (after_bytes (run s z).bytes (next t e)) (run s (z ++ e ∷ [])) (sym bytes-more) both.alike)
        ends.shown)

    -- it doesn't
    told-on : (next t e).state.halted ≡ None
        → Follows (run s (z ++ e ∷ [])).bytes (keys_left keys (z ++ e ∷ [])) (next t e).state es
        → Follows (run s z).bytes (keys_left keys z) t (e ∷ es)
    told-on goes later = follows-on (run s z).bytes (keys_left keys z) t e es quiet goes
        (subst (λ bs. Follows bs (keys_after (keys_left keys z) e) (next t e).state es) bytes-more
        (subst (λ ks. Follows (run s (z ++ e ∷ [])).bytes ks (next t e).state es) (left-then keys z (e ∷ [])) later))

    -- what it leads to is cared for
    module _ (n count : ℕ) (fewer : busy_ticks s (z ++ e ∷ []) ≤ count + busy_in t e) (caring : Caring es)
        (rest : Rest b m (keys_left keys z) count t (e ∷ es)) where
      goes-on : IsCaredAfter n b keys s seen [] told (z ++ e ∷ []) → (next t e).state.halted ≡ None
          → Follows (run s z).bytes (keys_left keys z) t (e ∷ es)
      goes-on cared goes = told-on goes
          (caring n (count + busy_in t e) (next t e).state (z ++ e ∷ []) both goes fewer cared
          (subst (λ ks. Rest b m ks (count + busy_in t e) (next t e).state es) (sym (left-then keys z (e ∷ [])))
          (rest-goes b m (keys_left keys z) count t e es goes rest)))

      at-event : IsCaredAfter n b keys s seen [] told (z ++ e ∷ [])
          → Follows (run s z).bytes (keys_left keys z) t (e ∷ es)
      at-event cared = by (next t e).state.halted refl
        where
          by : (o : Option ℤ) → (next t e).state.halted ≡ o
              → Follows (run s z).bytes (keys_left keys z) t (e ∷ es)
          by None goes = goes-on cared goes
          by (Some status) ended = at-first (ends-told n (z ++ e ∷ [])
              (sym (halted-alike (next t e).state (run s (z ++ e ∷ [])).state both.alike) ∙ ended) cared)

  -- ---- where what is alike was looked at

  module _ (count : ℕ) (t : State) (x : List Event) (near : Near 0 count t x) where
    level : BothAlike t (run s x).state
    unfolding after_steps
    level = near.both

    at-end : Follows (run s x).bytes (keys_left keys x) t []
    at-end = follows-none (run s x).bytes (keys_left keys x) t over-at
      where
        ends : AllWait (keys_left keys x) t → IsTold s told (after_bytes (run s x).bytes (quiet t))
        ends wait =
            told-same s told (after_bytes (run s x).bytes (quiet t)) (run s x)
            (same-alike (after_bytes (run s x).bytes (quiet t)) (run s x) (append-nil (run s x).bytes) level.alike)
            (near.looked.over (wait-alike (keys_left keys x) t (run s x).state level wait))

        over-at : IsOver (keys_left keys x) t → IsTold s told (after_bytes (run s x).bytes (quiet t))
        over-at (inl ended) = absurd (let no : is_some t.halted ≡ false = ap is_some near.goes in cc)
        over-at (inr wait) = ends wait

    at-next : (e : Event) (es : List Event) → Onward es → Rest b m (keys_left keys x) count t (e ∷ es)
        → Follows (run s x).bytes (keys_left keys x) t (e ∷ es)
    at-next e es onward rest =
        let back : BothAlike t (run s x).state = level in
        let free = free-first (keys_left keys x) t e es rest.free in
        let tries = tries-alike b m count (busy_ticks s x) t (run s x).state e back near.fewer
        (tried-first b m count t e es rest.tried) in
        let quiet = asks-none (run s x).state e near.looked.quiet in
        let flip = alike-back t (run s x).state back.alike in
        let alike = law (run s x).state t e back.second back.first back.names flip quiet in
        let one = busy-then s x (e ∷ []) near.looked.goes in
        let last = busy-one (run s x).state e in
        let same = busy-alike t (run s x).state e back in
        let cared = near.looked.further e (may-come (keys_left keys x) t (run s x).state e back free) tries in
        at-event t x e es near.looked.goes alike (asks-alike (run s x).state t e flip quiet) cared.turns count
        (omega (arith, one, last, same, near.fewer))
        onward.caring rest cared.cared

  -- a list that ends among computing steps isn't over
  at-stop : (n count : ℕ) (t : State) (x : List Event) → Near (suc n) count t x
      → Follows (run s x).bytes (keys_left keys x) t []
  unfolding IsPlain
  at-stop n count t x near = follows-none (run s x).bytes (keys_left keys x) t
      (λ over. absurd (not-over (keys_left keys x) t near.goes (busy-idle t near.plain.0) over))

  further-none : Further []
  further-none zero count t x near rest = at-end count t x near
  further-none (suc n) count t x near rest = at-stop n count t x near

  further-more : (e : Event) (es : List Event) → Onward es → Further (e ∷ es)
  further-more e es onward zero count t x near rest = at-next count t x near e es onward rest
  further-more e es onward (suc n) count t x near rest = at-plain e es onward.further n count t x near rest

  -- ---- where what is alike is cared for

  module _ (es : List Event) (count : ℕ) (t : State) (z : List Event) (level : BothAlike t (run s z).state)
      (goes : t.halted ≡ None) (fewer : busy_ticks s z ≤ count) where
    there-goes : (run s z).state.halted ≡ None
    there-goes = sym (halted-alike t (run s z).state level.alike) ∙ goes

    -- after computing steps it is alike to what was looked at
    module _ (further : Further es) (rest : Rest b m (keys_left keys z) count t es) (y : List Event)
        (known : IsLookedAt b m keys s seen [] told y) (c : ComesAlike b.spin keys s z y) where
      there : run s c.there ≡ stepped_on c.comes.count (run s z)
      there = comes-run s up b.spin z c.there c.comes there-goes

      busy-there : busy_ticks s c.there ≡ busy_ticks s z
      busy-there =
          let more-steps = busy-then s z (steps c.comes.count) there-goes in
          ap (λ fs. busy_ticks s fs) c.comes.same
          ∙ omega (arith, more-steps, busy-steps (run s z).state c.comes.count)

      near-known : Near c.comes.count count t y
      near-known =
          let plain = plain-alike law b.spin c.comes.count t (run s z).state level c.comes.plain in
          let after = after-alike law b.spin c.comes.count t (run s z).state level plain in
          record {
            looked = known;
            plain = plain;
            both = record {
              alike = alike-then (after_steps c.comes.count t) (after_steps c.comes.count (run s z).state)
                  (run s y).state after.alike
                  (subst (λ (a : After). AlikeUpToNumbers a.state (run s y).state) there c.leads.like.alike);
              names = names-stay.stays s y names;
              first = after.first;
              second = known.clock;
            };
            clock = level.first;
            goes = goes;
            fewer = omega (arith, c.leads.fewer, busy-there, fewer);
          }

      typed : keys_left keys z ≡ keys_left keys y
      typed = sym (ap (λ fs. keys_left keys fs) c.comes.same ∙ left-then keys z (steps c.comes.count)
          ∙ left-steps _ c.comes.count) ∙ c.leads.typed

      at-known : Follows (run s z).bytes (keys_left keys z) t es
      at-known =
          subst (λ ks. Follows (run s z).bytes ks t es) (sym typed)
          (subst (λ bs. Follows bs (keys_left keys y) t es)
          (sym c.leads.like.bytes ∙ ap (λ (a : After). a.bytes) there)
          (further c.comes.count count t y near-known (subst (λ ks. Rest b m ks count t es) typed rest)))

    at-here : Further es → Rest b m (keys_left keys z) count t es → IsCaredHere b keys s seen [] told z
        → Follows (run s z).bytes (keys_left keys z) t es
    at-here further rest (inl ends) = absurd (not-ended z there-goes ends)
    at-here further rest (inr (inl one)) =
        let found = both-of (λ (p : Path). IsLookedAt b m keys s seen [] told (events_of p))
        (λ (p : Path). ComesAlike b.spin keys s z (events_of p)) seen whole.looked one in
        at-known further rest (events_of found.0) found.1 found.2
    at-here further rest (inr (inr none)) = absurd none

  -- ---- where a turn is due

  module _ (n count : ℕ) (t : State) (z : List Event) (level : BothAlike t (run s z).state)
      (fewer : busy_ticks s z ≤ count) (due : IsDue (run s z).state)
      (cared : IsCaredAfter n b keys s seen [] told (z ++ Step ∷ [])) where
    due-here : IsDue t
    due-here = due-alike t (run s z).state level due

    waits : is_idle t ≡ true → ⊥
    waits idles = let busy : is_idle t ≡ false = due-here.due in cc

    due-step : (es : List Event) → Caring es → Rest b m (keys_left keys z) count t (Step ∷ es)
        → Follows (run s z).bytes (keys_left keys z) t (Step ∷ es)
    due-step es caring rest =
        let one = busy-then s z (Step ∷ []) due.goes in
        let last = busy-one (run s z).state Step in
        at-event t z Step es due.goes
        (law (run s z).state t Step level.second level.first level.names (alike-back t (run s z).state level.alike)
        (none-asks (run s z).state due.none))
        (none-asks t due-here.none) n count (omega (arith, one, last, fewer)) caring rest cared

    -- a tick changes nothing but the clock
    due-tick : (es : List Event) → Caring es → Rest b m (keys_left keys z) count t (Tick ∷ es)
        → Follows (run s z).bytes (keys_left keys z) t (Tick ∷ es)
    unfolding IsCaredAfter
    due-tick es caring rest =
        let ticks = idle t level.first due-here.none (none-asleep t.places due-here.awake) in
        let goes : (next t Tick).state.halted ≡ None =
        sym (halted-alike t (next t Tick).state (clock-alike t (next t Tick).state ticks.alike)) ∙ due-here.goes in
        let silent = asks-none t Tick (none-asks t due-here.none) in
        follows-silently (run s z).bytes (keys_left keys z) t Tick es silent goes (sym ticks.bytes)
        (caring (suc n) (count + busy_in t Tick) (next t Tick).state z
        (record {
          alike = alike-then (next t Tick).state t (run s z).state (clock-alike _ _ (sym ticks.alike)) level.alike;
          names = level.names;
          first = ticks.second;
          second = level.second;
        })
        goes (omega (arith, fewer)) (due, cared)
        (rest-goes b m (keys_left keys z) count t Tick es goes rest))

    at-due : (e : Event) (es : List Event) → Caring es → Rest b m (keys_left keys z) count t (e ∷ es)
        → Follows (run s z).bytes (keys_left keys z) t (e ∷ es)
    at-due Step es caring rest = due-step es caring rest
    at-due Tick es caring rest = due-tick es caring rest
    at-due (Key k) es caring rest = absurd (waits (free-first (keys_left keys z) t (Key k) es rest.free).1)

    due-none : Follows (run s z).bytes (keys_left keys z) t []
    due-none = follows-none (run s z).bytes (keys_left keys z) t
        (λ over. absurd (not-over (keys_left keys z) t due-here.goes waits over))

  -- ---- all lists

  caring-none : Caring []
  unfolding IsCaredAfter
  caring-none zero count t z level goes fewer cared rest = at-here [] count t z level goes fewer further-none rest cared
  caring-none (suc n) count t z level goes fewer cared rest = due-none n count t z level fewer cared.0 cared.1

  caring-more : (e : Event) (es : List Event) → Onward es → Caring (e ∷ es)
  unfolding IsCaredAfter
  caring-more e es onward zero count t z level goes fewer cared rest =
      at-here (e ∷ es) count t z level goes fewer (further-more e es onward) rest cared
  caring-more e es onward (suc n) count t z level goes fewer cared rest =
      at-due n count t z level fewer cared.0 cared.1 e es onward.caring rest

  onward : (es : List Event) → Onward es
  onward [] = record { further = further-none; caring = caring-none }
  onward (e ∷ es) = record { further = further-more e es (onward es); caring = caring-more e es (onward es) }

  module _ (clock : HasClock s) (es : List Event) (free : IsFree keys s es) (tried : TriedFrom b m 0 s es)
      (coarse : IsCoarse (ComputesFor b.spin) s es) where
    all-follows : Follows [] keys s es
    all-follows =
        let begun : BothAlike s (run s []).state =
        subst (λ (a : After). BothAlike s a.state) (sym (run-none s))
        (record { alike = alike-itself s; names = names; first = clock; second = clock }) in
        let none : (run s []).bytes ≡ [] = ap (λ (a : After). a.bytes) (run-none s) in
        subst (λ bs. Follows bs keys s es) none
        ((onward es).caring whole.begun.turns 0 s [] begun up (omega (arith, busy-none s)) whole.begun.cared
        (record { free = free; tried = tried; coarse = coarse }))

    -- what a coarse list shows is told
    pub coarse-told : IsOver (keys_left keys es) (run s es).state → IsTold s told (run s es)
    coarse-told over = all-follows.shows over

    -- in none of its events a process asks for the time
    pub coarse-quiet : NeverAsksTime s es
    coarse-quiet = all-follows.quiet
