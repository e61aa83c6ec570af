-- How a session goes on, and how it ends.
use Rattle.std.proofs.Common.{[], ap, append-nil, append_assoc, arith, Err, false, inl, inr, length, length-append}
use Rattle.std.proofs.Common.{List, map, None, Ok, Option, OnErr, refl, replicate, Result, Some, subst, suc, sym, true}
use Rattle.std.proofs.Common.{zero, ℕ, ◌+◌, ◌++◌, ◌-◌, ◌<◌, ◌∙◌, ◌∷◌, ◌≡◌, ◌≤◌}
use Rattle.std.proofs.Math.Nat.{zero-add}
use Rattle.std.proofs.lemmas.List.{replicate-append-replicate, replicate_more}
use Rattle.std.proofs.lemmas.List.Sums.{fold-append}
use Rattle.std.specs.Io.KnownBytes.{Keeps}
use Rattle.std.specs.Prelude.{option_map, ◌⊎◌}
use Rattle.std.specs.Result.{is_err}
use Rattle.calls.proofs.Pieces.{run-more}
use Rattle.calls.specs.Steps.{IsBusyFor}
use Rattle.calls.specs.declared.halt.Halt.{Halt}
use Rattle.driver.proofs.Pacing.{off-stays, paced-off}
use Rattle.driver.proofs.Scripting.{begins-then, follows-then}
use Rattle.driver.proofs.Walking.{IsSoFar, far-all, far-flushed, far-gives, far-kept, far-none, far-state, far-then}
use Rattle.driver.specs.Driven.{Printed, Serves, halts, spot_at}
use Rattle.driver.specs.Goals.{GoesOn, IsOver}
use Rattle.driver.specs.Sessions.{GaveFirst, IsGivenAll, IsSession, answered, goes_on_with, is_end, mood_of, moved}
use Rattle.driver.specs.Sessions.{session, steps, steps_after, work}
use Rattle.driver.specs.Walks.{At}
use Rattle.driver.specs.declared.terminal.Given.{Given}
use Rattle.driver.specs.declared.terminal.Given.TheVariants as given
use Rattle.driver.specs.declared.terminal.Mood.{Mood}
use Rattle.driver.specs.declared.terminal.Mood.TheVariants as mood
use Rattle.driver.specs.declared.wanted.Walked.{Walked}
use Rattle.driver.specs.declared.wanted.Wanted.TheVariants.{Keys, Steps, Ticks}
use Rattle.events.specs.Paced.{Begins, paced}
use Rattle.events.specs.Records.{Kept, Records}
use Rattle.kernel.specs.Idle.{is_idle}
use Rattle.machine.proofs.RunLemmas.{Rises-later}
use Rattle.machine.specs.View.{IsUp, View}
use Rattle.events.specs.Clocks.{passed_by}
use Rattle.events.specs.declared.clock.Clock.{Clock}
use Rattle.events.specs.declared.clock.Clock.TheVariants.{Off}
use Rattle.events.specs.declared.grammar.Goal.TheVariants.{Idle}
use Rattle.unixmodel.specs.Calls.{After}
use Rattle.unixmodel.specs.Failures.{Rises}
use Rattle.unixmodel.specs.Next.{next}
use Rattle.unixmodel.specs.Run.{after_bytes, run}
use Rattle.unixmodel.specs.State.{State}
use Rattle.unixmodel.specs.declared.event.Event.{Event}
use Rattle.unixmodel.specs.declared.event.Event.TheVariants.{Key, Step, Tick}

-- ---- all events that are given

module _ {all : List Event} {old now : View} {from mid : Printed} {kept keeps : Option Kept} {clock : Clock} where
  -- the machine takes more
  pub all-far : {u : Unit {0}} → IsGivenAll all old now from mid kept keeps clock (Ok u)
      → IsSoFar all old now from mid kept keeps
  all-far h = subst (λ (es : List Event). IsSoFar es old now from mid kept keeps) h.driven.wanted
      (far-gives h.driven.gives)

  -- what is given next
  pub all-then : {u : Unit {0}} {more : List Event} {new : View} {to : Printed} {last : Option Kept} {after : Clock}
      {r : Result (Unit {0}) Halt} → IsGivenAll all old now from mid kept keeps clock (Ok u)
      → IsGivenAll more now new mid to keeps last after r
      → IsGivenAll (all ++ more) old new from to kept last after r
  all-then {more = more} {r = r} h k = record {
    driven = record {
      events = h.driven.events ++ k.driven.events;
      wanted = follows-then all more h.driven.events k.driven.events r h.driven.wanted k.driven.wanted;
      gives = far-then (far-gives h.driven.gives) k.driven.gives;
    };
    off = k.off;
  }

  -- after a halt nothing more is
  pub all-ends : (more : List Event) {why : Halt} → IsGivenAll all old now from mid kept keeps clock (Err why)
      → IsGivenAll (all ++ more) old now from mid kept keeps clock (Err why)
  all-ends more h = record {
    driven = record {
      events = h.driven.events;
      wanted = begins-then all more h.driven.events h.driven.wanted;
      gives = h.driven.gives;
    };
    off = tt;
  }

-- nothing is given
pub all-none : {old : View} {from : Printed} {kept : Option Kept} {clock : Clock} {u : Unit {0}} → IsUp old
    → clock ≡ Off → IsGivenAll [] old old from from kept kept clock (Ok u)
all-none {u = u} up off =
    record { driven = record { events = []; wanted = refl; gives = far-all (far-none up) u }; off = off }

module _ {old new : View} {from to : Printed} {kept keeps : Option Kept} {before after : Clock} (off : before ≡ Off)
  where
    pub all-ticks : {times : ℕ} {r : Result Walked Halt}
        → Serves (Ticks times) None [] old new from to kept keeps before after r
        → IsGivenAll (replicate times Tick) old new from to kept keeps after (halts r)
    all-ticks {r = Ok w} h = record {
      driven = record { events = h.events; wanted = h.serves.0; gives = h.gives };
      off = h.serves.1 ∙ off;
    }
    all-ticks {r = Err why} h =
        record { driven = record { events = h.events; wanted = h.serves; gives = h.gives }; off = tt }

    pub all-keys : {keys : List ℕ} {r : Result Walked Halt}
        → Serves Keys None keys old new from to kept keeps before after r
        → IsGivenAll (map Key keys) old new from to kept keeps after (halts r)
    all-keys {r = Ok w} h = record {
      driven = record { events = h.events; wanted = h.serves.0; gives = h.gives };
      off = h.serves.1 ∙ off;
    }
    all-keys {r = Err why} h =
        record { driven = record { events = h.events; wanted = h.serves; gives = h.gives }; off = tt }

-- ---- a quantum

-- one step more
work-more : (n : ℕ) (s t : State) → is_idle s ≡ false → (next s Step).state ≡ t → work (suc n) s ≡ 1 + work n t
unfolding work
work-more n s t busy is = rw (busy, is) refl

work-none : (n : ℕ) (s : State) → is_idle s ≡ true → work n s ≡ 0
unfolding work
work-none zero s idle = refl
work-none (suc n) s idle = rw idle refl

work-zero : (s : State) → work 0 s ≡ 0
unfolding work
work-zero s = refl

-- of them as many as are done while a process runs or is ready
worked : (n count : ℕ) (s : State) → IsBusyFor s count → count ≤ n
    → work n s ≡ count + work (n - count) (run s (replicate count Step)).state
unfolding run
worked n zero s busy within = let none : n - 0 ≡ n = omega arith in rw none (sym (zero-add (work n s)))
worked n (suc count) s busy within =
    let t = (run s (replicate count Step)).state in
    let first = busy 0 (omega arith) in
    let last = busy count (omega arith) in
    let w = worked n count s (λ done less. busy done (omega (arith, less))) (omega (arith, within)) in
    let one : n - count ≡ suc (n - suc count) = omega (arith, within) in
    let more = ap (λ k. work k t) one ∙ work-more (n - suc count) t (next t Step).state last.busy refl in
    let next_one : suc count ≡ count + 1 = omega arith in
    let on : run s (replicate (suc count) Step) ≡ after_bytes (run s (replicate count Step)).bytes (next t Step) =
    ap (λ k. run s (replicate k Step)) next_one ∙ ap (run s) (sym (replicate_more count Step))
    ∙ run-more (replicate count Step) Step s first.goes last.goes in
    let e = ap (λ (a : After). work (n - suc count) a.state) on in
    omega (arith, w, more, e)

paced-steps : (c : Clock) (n : ℕ) → c ≡ Off → paced n c ≡ replicate n Step
paced-steps c n off = ap (paced n) off ∙ paced-off n

module _ (old : View) (from : Printed) (before : Clock) (off : before ≡ Off) where
  -- where it isn't over, a process runs or is ready
  busy-for : (made : ℕ) → ((n : ℕ) → n < made → At (spot_at old from before) n (GoesOn (Some Idle) before))
      → IsBusyFor old.state made
  busy-for made least done less =
      let on = least done less in
      let same = ap (λ es. (run old.state es).state) (paced-steps before done off) in
      record {
        goes = subst (λ (s : State). s.halted ≡ None) same on.2;
        busy = subst (λ (s : State). is_idle s ≡ false) same on.0;
      }

  -- where it is over, nobody is
  idle-at : (made : ℕ) → At (spot_at old from before) made (IsOver (Some Idle) before)
      → is_idle (run old.state (replicate made Step)).state ≡ true
  idle-at made over =
      let idle : is_idle (run old.state (paced made before)).state ≡ true = elim over [
        | inl there ↦ there
        | inr never ↦ never.1
      ] in subst (λ (es : List Event). is_idle (run old.state es).state ≡ true) (paced-steps before made off) idle

  made-all : (most made : ℕ)
      → ((n : ℕ) → n < made → At (spot_at old from before) n (GoesOn (Some Idle) before)) → made ≤ most
      → (made ≡ most) ⊎ At (spot_at old from before) made (IsOver (Some Idle) before)
      → made ≡ work most old.state
  made-all most made least within (inl all) =
      let w = worked most made old.state (busy-for made least) within in
      let none : most - made ≡ 0 = omega (arith, all) in
      let z = ap (λ n. work n (run old.state (replicate made Step)).state) none ∙ work-zero _ in omega (arith, w, z)
  made-all most made least within (inr over) =
      let w = worked most made old.state (busy-for made least) within in
      let z = work-none (most - made) (run old.state (replicate made Step)).state (idle-at made over) in
      omega (arith, w, z)

-- the steps of a wait for nobody to be ready
pub all-steps : {most : ℕ} {old new : View} {from to : Printed} {kept keeps : Option Kept} {before after : Clock}
    {r : Result Walked Halt} → before ≡ Off
    → Serves (Steps most) (Some Idle) [] old new from to kept keeps before after r
    → IsGivenAll (steps most old.state) old new from to kept keeps after (halts r)
all-steps {most} {old} {new} {from} {before = before} {r = Ok w} off h =
    let wait = h.serves.0 in
    let made = made-all old from before off most w.made wait.least wait.within wait.over in
    record {
      driven = record {
        events = h.events;
        wanted = h.serves.1 ∙ paced-steps before w.made off ∙ ap (λ n. replicate n Step) made;
        gives = h.gives;
      };
      off = h.serves.2 ∙ ap (passed_by w.made) off ∙ off-stays w.made;
    }
all-steps {most} {old} {new} {from} {before = before} {r = Err why} off h =
    let made = h.serves.made in
    let more = work (most - made) (run old.state (replicate made Step)).state in
    let all = worked most made old.state (busy-for old from before off made h.serves.least) h.serves.within in
    record {
      driven = record {
        events = h.events;
        wanted = subst (λ (es : List Event). Begins h.events es)
            (replicate-append-replicate made more Step ∙ ap (λ n. replicate n Step) (sym all))
            (begins-then (replicate made Step) (replicate more Step) h.events
            (h.serves.begins.0, h.serves.begins.1 ∙ paced-steps before made off));
        gives = h.gives;
      };
      off = tt;
    }

-- ---- an answer of the keyboard

module _ (quantum : ℕ) (g : Given) {first now : View} {from mid : Printed} {kept keeps : Option Kept} {clock : Clock}
  where
    -- what the keyboard gave, and the quantum after it
    pub all-moved : {new : View} {to : Printed} {last : Option Kept} {after : Clock} {u : Unit {0}}
        {r : Result (Unit {0}) Halt} → is_end g ≡ false
        → IsGivenAll (answered (mood_of first.state) g) first now from mid kept keeps clock (Ok u)
        → IsGivenAll (steps quantum now.state) now new mid to keeps last after r
        → IsGivenAll (moved quantum first.state g) first new from to kept last after r
    all-moved {new} {to} {last} {after} {u} {r} more h k =
        let e : steps quantum now.state
        ≡ steps_after quantum g (run first.state (answered (mood_of first.state) g)).state =
        rw more (ap (steps quantum) (far-state (all-far h))) in
        subst (λ (es : List Event).
        IsGivenAll (answered (mood_of first.state) g ++ es) first new from to kept last after r) e (all-then h k)

    -- the machine halts at an answer
    pub moved-ends : {why : Halt}
        → IsGivenAll (answered (mood_of first.state) g) first now from mid kept keeps clock (Err why)
        → IsGivenAll (moved quantum first.state g) first now from mid kept keeps clock (Err why)
    moved-ends h = all-ends (steps_after quantum g (run first.state (answered (mood_of first.state) g)).state) h

-- ---- a session

gave-more : (gives mid later : Option (List Given)) (gave : List Given) (g : Given) → GaveFirst gives gave mid
    → mid ≡ option_map (λ rest. g ∷ rest) later → GaveFirst gives (gave ++ g ∷ []) later
gave-more gives mid None gave g first next' = rw (first, next') refl
gave-more gives mid (Some rest) gave g first next' = rw (first, next') (ap Some (sym (append_assoc gave (g ∷ []) rest)))

gave-none : (gives : Option (List Given)) → GaveFirst gives [] gives
gave-none None = refl
gave-none (Some rest) = refl

session-more : (quantum : ℕ) (s : State) (gave : List Given) (g : Given)
    → session quantum s (gave ++ g ∷ []) ≡ session quantum s gave
    ++ moved quantum (run s (session quantum s gave)).state g
session-more quantum s gave g = fold-append (goes_on_with quantum s) (steps quantum s) gave (g ∷ [])

-- an end comes to no event
end-ticks : (m : Mood) (g : Given) → is_end g ≡ true → answered m g ≡ []
end-ticks mood.Busy given.End e = refl
end-ticks mood.Asleep given.End e = refl
end-ticks mood.Idle given.End e = refl
end-ticks m _ e = absurd (cc)

moved-end : (quantum : ℕ) (s : State) (g : Given) → is_end g ≡ true → moved quantum s g ≡ []
moved-end quantum s g e = rw (end-ticks (mood_of s) g e, e) refl

only-end : (g : Given) → is_end g ≡ true → g ≡ given.End
only-end given.End e = refl
only-end _ e = absurd (cc)

rises-where : {E P : Type 0} (r : Result (Unit {0}) E) → OnErr r P → is_err r ≡ true → P
rises-where (Ok u) cause fails = absurd (cc)
rises-where (Err e) cause fails = cause

-- a session goes on after it was given something `moves` times
pub record Sits (quantum : ℕ) (gives later : Option (List Given)) (old now : View) (from to : Printed)
    (kept keeps : Option Kept) (clock : Clock) (moves : ℕ) : Type 0 where
  pub gave : List Given
  pub first : GaveFirst gives gave later
  pub far : IsSoFar (session quantum old.state gave) old now from to kept keeps
  pub off : clock ≡ Off
  pub count : length gave ≡ moves

module _ {quantum : ℕ} {first now : View} {from mid : Printed} {kept keeps : Option Kept}
    {gives begun : Option (List Given)} {clock : Clock} (same : begun ≡ gives) where
  pub sits-begins : {u : Unit {0}} → IsGivenAll (steps quantum first.state) first now from mid kept keeps clock (Ok u)
      → Sits quantum gives begun first now from mid kept keeps clock 0
  sits-begins h =
      record { gave = []; first = rw same (gave-none gives); far = all-far h; off = h.off; count = refl }

  -- the machine halts in the first quantum
  pub session-halts-first : {why : Halt}
      → IsGivenAll (steps quantum first.state) first now from mid kept keeps clock (Err why)
      → IsSession quantum gives begun first now from mid kept keeps (Err why)
  session-halts-first h = record { gave = []; first = rw same (gave-none gives); given = h.driven; ends = tt }

module _ {quantum : ℕ} {first now : View} {from mid : Printed} {kept keeps : Option Kept}
    {gives later : Option (List Given)} {clock : Clock} {moves : ℕ}
    (h : Sits quantum gives later first now from mid kept keeps clock moves) where
  -- the bytes are written out
  pub sits-flushed : {same_now : View} {to : Printed} {same_later : Option (List Given)} {same_keeps : Option Kept}
      {same_clock : Clock} → same_now ≡ now → same_later ≡ later → same_keeps ≡ keeps → same_clock ≡ clock
      → Keeps mid.contents to.contents → mid.failed ≤ to.failed
      → Sits quantum gives same_later first same_now from to kept same_keeps same_clock moves
  sits-flushed a b c d keep less = rw (a, b, c, d) (record {
    gave = h.gave;
    first = h.first;
    far = far-flushed h.far keep less;
    off = h.off;
    count = h.count;
  })

  -- the keyboard is asked
  pub sits-asked : {last : Option Kept} → Records keeps last []
      → Sits quantum gives later first now from mid kept last clock moves
  sits-asked {last} asked =
      record { gave = h.gave; first = h.first; far = far-kept h.far asked; off = h.off; count = h.count }

  sits-ends : (from.failed ≤ mid.failed → Rises from.failed mid.failed)
      → IsSession quantum gives later first now from mid kept keeps (Ok tt)
  sits-ends rises = record {
    gave = h.gave;
    first = h.first;
    given = record { events = session quantum first.state h.gave; wanted = refl; gives = far-all h.far tt };
    ends = inr (inl (rises h.far.later));
  }

  -- it was asked as often as can be
  pub session-tires : 0xffff_ffff_ffff_ffff ≤ moves → moves ≤ 0xffff_ffff_ffff_ffff
      → IsSession quantum gives later first now from mid kept keeps (Ok tt)
  session-tires low high = record {
    gave = h.gave;
    first = h.first;
    given = record { events = session quantum first.state h.gave; wanted = refl; gives = far-all h.far tt };
    ends = inr (inr (let c = h.count in omega (arith, c, low, high)));
  }

  goes-on : (g : Given) {new : View} {to : Printed} {last : Option Kept} {after : Clock} {r : Result (Unit {0}) Halt}
      → IsGivenAll (moved quantum now.state g) now new mid to keeps last after r
      → IsGivenAll (session quantum first.state (h.gave ++ g ∷ [])) first new from to kept last after r
  goes-on g {new} {to} {last} {after} {r} k =
      let so_far : IsGivenAll (session quantum first.state h.gave) first now from mid kept keeps clock (Ok tt) =
      record {
        driven = record { events = session quantum first.state h.gave; wanted = refl; gives = far-all h.far tt };
        off = h.off;
      } in
      subst (λ (es : List Event). IsGivenAll es first new from to kept last after r)
      (ap (λ s. session quantum first.state h.gave ++ moved quantum s g) (far-state h.far)
      ∙ sym (session-more quantum first.state h.gave g))
      (all-then so_far k)

  module _ {rest : Option (List Given)} (g : Given) (asked : later ≡ option_map (λ rest. g ∷ rest) rest) where
    -- the keyboard gave its end
    pub session-ends : is_end g ≡ true → IsSession quantum gives rest first now from mid kept keeps (Ok tt)
    session-ends e = record {
      gave = h.gave ++ g ∷ [];
      first = gave-more gives later rest h.gave g h.first asked;
      given = record {
        events = session quantum first.state h.gave;
        wanted = sym (session-more quantum first.state h.gave g
            ∙ ap (λ es. session quantum first.state h.gave ++ es) (moved-end quantum _ g e) ∙ append-nil _);
        gives = far-all h.far tt;
      };
      ends = inl (h.gave, ap (λ g. h.gave ++ g ∷ []) (only-end g e));
    }

    module _ {new : View} {to : Printed} {last : Option Kept} {after : Clock} where
      -- the machine halts at what it gave
      pub session-halts : {why : Halt}
          → IsGivenAll (moved quantum now.state g) now new mid to keeps last after (Err why)
          → IsSession quantum gives rest first new from to kept last (Err why)
      session-halts k = record {
        gave = h.gave ++ g ∷ [];
        first = gave-more gives later rest h.gave g h.first asked;
        given = (goes-on g k).driven;
        ends = tt;
      }

      -- the keyboard gave something else
      pub session-goes-on : {u : Unit {0}}
          → IsGivenAll (moved quantum now.state g) now new mid to keeps last after (Ok u)
          → Sits quantum gives rest first new from to kept last after (moves + 1)
      session-goes-on k = record {
        gave = h.gave ++ g ∷ [];
        first = gave-more gives later rest h.gave g h.first asked;
        far = all-far (goes-on g k);
        off = k.off;
        count = length-append h.gave (g ∷ []) ∙ ap (λ n. n + 1) h.count;
      }

-- the bytes could not be written out
pub session-lost : {E : Type 0} {quantum : ℕ} {first now same_now : View} {from mid to : Printed}
    {kept keeps same_keeps : Option Kept} {gives later same_later : Option (List Given)} {clock : Clock} {moves : ℕ}
    → Sits quantum gives later first now from mid kept keeps clock moves → same_now ≡ now → same_later ≡ later
    → same_keeps ≡ keeps → Keeps mid.contents to.contents → mid.failed ≤ to.failed
    → (flushed : Result (Unit {0}) E) → OnErr flushed (Rises mid.failed to.failed) → is_err flushed ≡ true
    → IsSession quantum gives same_later first same_now from to kept same_keeps (Ok tt)
session-lost {from = from} {mid = mid} {to = to} h a b c keep less flushed cause fails =
    sits-ends (sits-flushed h a b c refl keep less)
    (λ later. Rises-later from.failed mid.failed to.failed h.far.later (rises-where flushed cause fails) less)
