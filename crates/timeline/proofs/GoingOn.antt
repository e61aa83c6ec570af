-- How the states along a line follow one another.
use Rattle.std.proofs.Common.{ap, append_assoc, arith, below_more, drop, Err, false, inl, inr, List}
use Rattle.std.proofs.Common.{None, Ok, Option, refl, replicate, Result, Some, subst, sym, take}
use Rattle.std.proofs.Common.{true, ℕ, ℤ, ◌+◌, ◌++◌, ◌-◌, ◌<◌, ◌∙◌, ◌≡◌, ◌≤◌}
use Rattle.std.proofs.lemmas.List.{drop-drop, drop_at, length-replicate, replicate-append-replicate}
use Rattle.calls.proofs.Pieces.{run-append, then_runs}
use Rattle.calls.specs.Computing.{Computes, after_steps, computes}
use Rattle.calls.specs.declared.halt.Halt.{Halt}
use Rattle.calls.specs.declared.halt.Halt.TheVariants.{Console, Device, Halted, InitEnded}
use Rattle.machine.specs.Gives.{RunGives}
use Rattle.machine.specs.View.{IsUp, View}
use Rattle.std.specs.Prelude.{Bool, is_ok, is_some, not, ◌⊎◌}
use Rattle.stretches.proofs.Ahead.{ahead-take}
use Rattle.stretches.specs.Stretches.{IsAhead}
use Rattle.timeline.proofs.Beside.{beside_steps, none-yet}
use Rattle.timeline.specs.Inside.{IsAt}
use Rattle.timeline.specs.Line.{IsStride, Line, Passes, StopsOnlyAt, go_on, go_on_from, state_at}
use Rattle.unixmodel.specs.Calls.{After}
use Rattle.unixmodel.specs.declared.event.Event.{Event}
use Rattle.unixmodel.specs.declared.event.Event.TheVariants.{Step}
use Rattle.unixmodel.specs.Run.{run}
use Rattle.unixmodel.specs.State.{State}

-- ---- what a machine returns whose disk and console never fail

-- what it is then: the events are done, or it had halted and nothing changed
pub record Gave (old new : View) (events : List Event) (r : Result (Unit {0}) Halt) : Type 0 where
  pub state : new.state ≡ go_on old.state events
  pub sound : new.failed ≡ false
  pub over : is_ok r ≡ false → is_some new.state.halted ≡ true

none-some : (o : Option ℤ) → (o ≡ None → ⊥) → is_some o ≡ true
none-some None not = absurd (not refl)
none-some (Some status) not = refl

stays : (s : State) (events : List Event) (o : Option ℤ) → is_some o ≡ true → go_on_from s events o ≡ s
stays s events None some = absurd cc
stays s events (Some status) some = refl

pub gave : (old new : View) (events : List Event) (before after : Option (List ℕ)) (rises : Type 0)
    (r : Result (Unit {0}) Halt)
    → old.failed ≡ false → new.failures ≡ 0 → (rises → ⊥) → RunGives old new events before after rises r
    → Gave old new events r
gave old new events before after rises (Ok u) sound zero never k = record {
  state = k.1.state ∙ sym (ap (go_on_from old.state events) k.0.goes);
  sound = k.1.sound;
  over = λ no. absurd cc;
}
gave old new events before after rises (Err (InitEnded status)) sound zero never k = record {
  state = k.1.state ∙ sym (ap (go_on_from old.state events) k.0.goes);
  sound = k.1.sound;
  over = λ no. ap is_some (ap (λ (s : State). s.halted) k.1.state ∙ k.1.halts);
}
gave old new events before after rises (Err Device) sound zero never k =
    absurd (let rose = k.1.fails.rises in omega (arith, rose, zero))
gave old new events before after rises (Err Console) sound zero never k = absurd (never k.1.rises)
gave old new events before after rises (Err Halted) sound zero never k =
    let over : is_some old.state.halted ≡ true =
    none-some old.state.halted (λ goes. k.stopped (record { sound = sound; goes = goes })) in
    record {
      state = ap (λ (m : View). m.state) k.same ∙ sym (stays old.state events old.state.halted over);
      sound = ap (λ (m : View). m.failed) k.same ∙ sound;
      over = λ no. ap (λ (m : View). is_some m.state.halted) k.same ∙ over;
    }

pub not-true : (b : Bool) → not b ≡ true → b ≡ false
not-true true is = sym is
not-true false is = refl

up-in : (m : View) → m.failed ≡ false → (o : Option ℤ) → m.state.halted ≡ o → IsUp m ⊎ (IsUp m → ⊥)
up-in m sound None goes = inl (record { sound = sound; goes = goes })
up-in m sound (Some status) over = inr (λ up. let goes = up.goes in absurd cc)

up-or : (m : View) → m.failed ≡ false → IsUp m ⊎ (IsUp m → ⊥)
up-or m sound = up-in m sound m.state.halted refl

-- at the start
pub at-start : {m b : View} (events : List Event) → m ≡ b → b.failed ≡ false → IsAt b.state events 0 m
unfolding run
at-start events is sound =
    record {
      within = omega arith;
      sound = ap (λ (v : View). v.failed) is ∙ sound;
      state = ap (λ (v : View). v.state) is;
    }

-- ---- fewer of the events ahead

pub ahead-less : (events : List Event) (at k times : ℕ) (e : Event) → IsAhead events at (e, times) → 0 < k
    → k ≤ times → IsAhead events at (e, k)
ahead-less events at k times e ahead some few =
    let rest : List Event = drop (at + times) events in
    let more : times ≡ k + (times - k) = omega (arith, few) in
    let parts : replicate times e ≡ replicate k e ++ replicate (times - k) e =
    ap (λ n. replicate n e) more ∙ sym (replicate-append-replicate k (times - k) e) in
    let all : drop at events ≡ replicate k e ++ (replicate (times - k) e ++ rest) =
    ahead.next ∙ ap (λ es. es ++ rest) parts ∙ append_assoc (replicate k e) (replicate (times - k) e) rest in
    let after : drop (at + k) events ≡ replicate (times - k) e ++ rest =
    sym (drop-drop k at events) ∙ ap (drop k) all
    ∙ drop_at (replicate k e) (replicate (times - k) e ++ rest) k (length-replicate k e) in
    record {
      some = some;
      within = let w = ahead.within in omega (arith, w, few);
      next = all ∙ ap (λ es. replicate k e ++ es) (sym after);
    }

-- one of the events ahead, after k others
pub ahead-at : (events : List Event) (at k times : ℕ) (e : Event) → IsAhead events at (e, times) → k < times
    → IsAhead events (at + k) (e, 1)
ahead-at events at k times e ahead less =
    let rest : List Event = drop (at + times) events in
    let more : times ≡ k + (1 + (times - (k + 1))) = omega (arith, less) in
    let parts : replicate times e ≡ replicate k e ++ replicate (1 + (times - (k + 1))) e =
    ap (λ n. replicate n e) more ∙ sym (replicate-append-replicate k (1 + (times - (k + 1))) e) in
    let all : drop at events ≡ replicate k e ++ (replicate (1 + (times - (k + 1))) e ++ rest) =
    ahead.next ∙ ap (λ es. es ++ rest) parts
    ∙ append_assoc (replicate k e) (replicate (1 + (times - (k + 1))) e) rest in
    let after : drop (at + k) events ≡ replicate (1 + (times - (k + 1))) e ++ rest =
    sym (drop-drop k at events) ∙ ap (drop k) all
    ∙ drop_at (replicate k e) (replicate (1 + (times - (k + 1))) e ++ rest) k (length-replicate k e) in
    let end : at + times ≡ (at + k) + (1 + (times - (k + 1))) = omega (arith, less) in
    ahead-less events (at + k) 1 (1 + (times - (k + 1))) e
    (record {
      some = omega arith;
      within = let w = ahead.within in omega (arith, w, less);
      next = after ∙ ap (λ n. replicate (1 + (times - (k + 1))) e ++ drop n events) end;
    }) (omega arith) (omega arith)

-- what is so of all times after one, so far, and of this one
pub one-more : (P : ℕ → Type 0) (from at : ℕ) → ((n : ℕ) → from < n → n < at → P n) → (from < at → P at)
    → (n : ℕ) → from < n → n < at + 1 → P n
one-more P from at so here n past before =
    below_more (λ k. from < k → P k) at (λ k less later. so k later less) here n before past

-- ---- instruction by instruction: after k of them

pub crept : {old l new : Line} {times k : ℕ} (stops : State → Bool) → l ≡ record old { at = l.at }
    → l.at ≡ old.at + k → k ≤ times
    → ((n : ℕ) → old.at < n → n < l.at → Passes stops (state_at old.start old.events n)) → new ≡ l
    → IsStride stops old new times
crept {old} {l} {new} {times} {k} stops same at few so still =
    subst (λ (x : Line). IsStride stops old x times) (sym still)
    (record { same = same; later = omega (arith, at); within = omega (arith, at, few); between = so })

-- one more is done
pub crept-on : {old l new : Line} {times k : ℕ} (stops : State → Bool) → l ≡ record old { at = l.at }
    → l.at ≡ old.at + k → k < times
    → ((n : ℕ) → old.at < n → n < l.at → Passes stops (state_at old.start old.events n))
    → (old.at < l.at → computes (state_at old.start old.events l.at) ≡ true
    → Passes stops (state_at old.start old.events l.at))
    → new ≡ record l { at = l.at + 1 } → computes (state_at l.start l.events l.at) ≡ true
    → IsStride stops old new times
crept-on {old} {l} {new} {times} {k} stops same at less so here on done =
    let now : new ≡ record old { at = l.at + 1 } = on ∙ ap (λ (x : Line). record x { at = l.at + 1 }) same in
    subst (λ (x : Line). IsStride stops old x times) (sym now)
    (record {
      same = refl;
      later = omega (arith, at);
      within = omega (arith, at, less);
      between = one-more (λ n. Passes stops (state_at old.start old.events n)) old.at l.at so
          (λ past. here past (subst (λ (x : Line). computes (state_at x.start x.events l.at) ≡ true) same done));
    })

-- a line that did not move
pub stayed : {old new : Line} {e : Event} {times : ℕ} → new ≡ record old { at = new.at } → old.at ≤ new.at
    → new.at ≤ old.at → IsAhead old.events old.at (e, times) → IsAhead new.events new.at (e, times)
stayed {old} {new} {e} {times} same later earlier ahead =
    let still : old.at ≡ new.at = omega (arith, later, earlier) in
    subst (λ (l : Line). IsAhead l.events l.at (e, times)) (sym same)
    (subst (λ n. IsAhead old.events n (e, times)) still ahead)

-- ---- along the line

module _ (start : State) (events : List Event) (goes : start.halted ≡ None) where
  then-on : (ys : List Event) (a : After) (r : Option ℤ) → (then_runs ys a r).state ≡ go_on_from a.state ys r
  then-on ys a None = refl
  then-on ys a (Some status) = refl

  -- more events after the first n
  pub on-by : (n m : ℕ) (more : List Event) → take m events ≡ take n events ++ more
      → state_at start events m ≡ go_on (state_at start events n) more
  on-by n m more is =
      ap (λ es. (run start es).state) is ∙ ap (λ (a : After). a.state) (run-append (take n events) more start goes)
      ∙ then-on more (run start (take n events)) (run start (take n events)).state.halted

  pub ahead-on : (at k times : ℕ) (e : Event) → IsAhead events at (e, times) → k ≤ times
      → state_at start events (at + k) ≡ go_on (state_at start events at) (replicate k e)
  ahead-on at k times e ahead few = on-by at (at + k) (replicate k e) (ahead-take events at k times e ahead few)

  -- k events on
  pub is-at-on : {m n : View} (at k times : ℕ) (e : Event) → IsAt start events at m → IsAhead events at (e, times)
      → k ≤ times
      → n.failed ≡ false → n.state ≡ go_on m.state (replicate k e) → IsAt start events (at + k) n
  is-at-on at k times e h ahead few sound gives = record {
    within = let w = ahead.within in omega (arith, w, few);
    sound = sound;
    state = gives ∙ ap (λ s. go_on s (replicate k e)) h.state ∙ sym (ahead-on at k times e ahead few);
  }

  -- instructions that are computed: the state after some of them
  pub after-some : {m : View} (at k count times most : ℕ) (stops : List ℕ) → IsAt start events at m
      → m.state.halted ≡ None → IsAhead events at (Step, times)
      → count ≤ times → k ≤ count → state_at start events (at + k) ≡ after_steps m.state k
  after-some {m} at k count times most stops h up ahead few within =
      ahead-on at k times Step ahead (omega (arith, few, within)) ∙ ap (λ s. go_on s (replicate k Step)) (sym h.state)
      ∙ ap (go_on_from m.state (replicate k Step)) up

  -- all of them
  pub computed-on : {m n : View} (at count times most : ℕ) (stops : List ℕ) → IsAt start events at m → IsUp m
      → IsAhead events at (Step, times)
      → most ≤ times → n.failed ≡ m.failed → Computes m.state n.state stops most count
      → IsAt start events (at + count) n
  computed-on {m} {n} at count times most stops h up ahead few same c =
      let inside = c.within in
      is-at-on at count times Step h ahead (omega (arith, inside, few)) (same ∙ h.sound)
      (sym (ap (λ (a : After). a.state) c.steps) ∙ sym (ap (go_on_from m.state (replicate count Step)) up.goes))

  -- none strictly between has a reason to stop
  pub none-between : {m : View} (n : State) (stops : State → Bool) (at count times most : ℕ) (addresses : List ℕ)
      → StopsOnlyAt stops m.state addresses → IsAt start events at m → IsUp m
      → IsAhead events at (Step, times) → most ≤ times → Computes m.state n addresses most count
      → (j : ℕ) → at < j → j < at + count → Passes stops (state_at start events j)
  none-between {m} n stops at count times most addresses only h up ahead few c j past before =
      let inside = c.within in
      let back : at + (j - at) ≡ j = omega (arith, past) in
      let is : state_at start events j ≡ after_steps m.state (j - at) =
      ap (state_at start events) (sym back)
      ∙ after-some at (j - at) count times most addresses h up.goes ahead (omega (arith, inside, few))
      (omega (arith, past, before)) in
      subst (Passes stops) (sym is)
      (only (after_steps m.state (j - at))
      (beside_steps (j - at) m.state up.goes (λ k less. c.computing k (omega (arith, less, past, before))))
      (c.computing (j - at) (omega (arith, past, before)))
      (c.none_between (j - at) (omega (arith, past)) (omega (arith, past, before))))

  -- instructions that are computed, if any are
  pub record Strode (stops : State → Bool) (at count times : ℕ) (n : View) : Type 0 where
    pub here : IsAt start events (at + count) n
    pub within : count ≤ times
    pub between : (j : ℕ) → at < j → j < at + count → Passes stops (state_at start events j)
    pub computes : 0 < count → computes (state_at start events at) ≡ true

  pub strode : {m n : View} (stops : State → Bool) (at count times : ℕ) (addresses : List ℕ)
      → StopsOnlyAt stops (state_at start events at) addresses → IsAt start events at m
      → IsAhead events at (Step, times) → (IsUp m → Computes m.state n.state addresses times count)
      → ((IsUp m → ⊥) → (count ≡ 0) × (n ≡ m))
      → n ≡ record m { state = n.state } → Strode stops at count times n
  strode {m} {n} stops at count times addresses only h ahead computed stopped same = elim (up-or m h.sound) [
    | inl up ↦
        let c = computed up in
        record {
          here = computed-on at count times times addresses h up ahead (omega arith)
              (ap (λ (v : View). v.failed) same) c;
          within = c.within;
          between = none-between n.state stops at count times times addresses
              (subst (λ (s : State). StopsOnlyAt stops s addresses) (sym h.state) only) h up ahead (omega arith) c;
          computes = λ some. subst (λ (s : State). computes s ≡ true) (none-yet m.state ∙ h.state)
              (c.computing 0 some);
        }
    | inr not ↦
        let e = stopped not in
        let none = e.0 in
        let still : at ≡ at + count = omega (arith, none) in
        record {
          here = subst (λ (v : View). IsAt start events (at + count) v) (sym e.1)
              (subst (λ k. IsAt start events k m) still h);
          within = omega (arith, none);
          between = λ j past before. absurd (omega (arith, none, past, before));
          computes = λ some. absurd (omega (arith, none, some));
        }
  ]

  -- the one instruction that was to be computed, if it was
  pub strode-one : {n : View} (stops : State → Bool) (at count : ℕ) → Strode stops at count 1 n → (count ≡ 0 → ⊥)
      → IsAt start events (at + 1) n
  strode-one {n} stops at count s some =
      let few = s.within in subst (λ k. IsAt start events (at + k) n) (omega (arith, few, some)) s.here

  pub strode-none : {n : View} (stops : State → Bool) (at count : ℕ) → Strode stops at count 1 n → count ≡ 0
      → IsAt start events at n
  strode-none {n} stops at count s none =
      subst (λ k. IsAt start events k n) (omega (arith, none)) s.here
