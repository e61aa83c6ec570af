-- What a machine is given, piece by piece.
use Rattle.std.proofs.Common.{[], ap, append-nil, append_assoc, arith, Err, false, inl, inr, le_trans, List, None, Ok}
use Rattle.std.proofs.Common.{Option, refl, replicate, Result, Some, subst, sym, true, ℕ, ◌+◌, ◌++◌, ◌-◌, ◌<◌, ◌∙◌, ◌∷◌}
use Rattle.std.proofs.Common.{◌≡◌, ◌≤◌}
use Rattle.std.proofs.lemmas.Bool.{cases_lt}
use Rattle.std.specs.Io.KnownBytes.{Appends, Keeps, append_known}
use Rattle.std.specs.Prelude.{Bool, OnOk, is_some, option_map, suc, zero, ◌⊎◌}
use Rattle.std.specs.Result.{IsErrAnd}
use Rattle.calls.specs.Steps.{IsBusy}
use Rattle.calls.specs.declared.halt.Halt.{Halt}
use Rattle.driver.proofs.Pacing.{off-passed, paced-more, paced-none, paced-one, paced-quiet, passed-more, passed-none}
use Rattle.driver.proofs.Pacing.{paced-off, passed-one}
use Rattle.driver.proofs.Tails.{shown-appends}
use Rattle.driver.specs.Driven.{Gives, Goes, Printed, Serves, shown_by, spot_at}
use Rattle.driver.specs.Goals.{GoesOn, IsFound, IsOver, IsReached, IsUnreached}
use Rattle.driver.specs.Pacing.{Follows}
use Rattle.events.specs.Paced.{paced, ticks_of}
use Rattle.driver.specs.Strides.{HasStayed, IsStill}
use Rattle.driver.specs.Walks.{At, walked_to}
use Rattle.driver.specs.declared.wanted.Walked.{Walked}
use Rattle.driver.specs.declared.wanted.Wanted.TheVariants.{Steps}
use Rattle.events.proofs.Recording.{records-none, records-then}
use Rattle.events.specs.Records.{Kept, Records}
use Rattle.kernel.specs.Idle.{is_idle}
use Rattle.machine.proofs.RunLemmas.{Rises-later, SoFar, both, runs_on, so-far-kept, so_far_at_first, up_now}
use Rattle.machine.specs.Gives.{IsDone, RunGives}
use Rattle.machine.specs.View.{IsUp, View}
use Rattle.events.specs.Clocks.{is_off, passed, passed_by, quiet, strikes}
use Rattle.events.specs.declared.clock.Clock.{Clock}
use Rattle.events.specs.declared.clock.Clock.TheVariants.{Off}
use Rattle.events.specs.declared.grammar.Goal.{Goal}
use Rattle.events.specs.declared.grammar.Goal.TheVariants as goal
use Rattle.unixmodel.specs.Calls.{After}
use Rattle.unixmodel.specs.Failures.{Rises}
use Rattle.unixmodel.specs.Run.{after_bytes, run}
use Rattle.unixmodel.specs.State.{State}
use Rattle.unixmodel.specs.declared.event.Event.{Event}
use Rattle.unixmodel.specs.declared.event.Event.TheVariants.{Step, Tick}

-- ---- what is given one after the other

-- events so far, of which the machine goes on
pub record IsSoFar (events : List Event) (old now : View) (from to : Printed) (kept keeps : Option Kept)
    : Type 0 where
  pub so_far : SoFar old now events from.contents to.contents
  pub records : Records kept keeps events
  pub later : from.failed ≤ to.failed

pub far-none : {old : View} {from : Printed} {kept : Option Kept} → IsUp old
    → IsSoFar [] old old from from kept kept
far-none {old} {from} {kept} up = record {
  so_far = so_far_at_first old from.contents up;
  records = records-none kept;
  later = omega arith;
}

pub far-gives : {events : List Event} {old now : View} {from to : Printed} {kept keeps : Option Kept}
    {u : Unit {0}} → Gives events old now from to kept keeps (Ok u) → IsSoFar events old now from to kept keeps
far-gives g = record { so_far = record { began = g.runs.0; done = g.runs.1 }; records = g.records; later = g.later }

module _ {xs : List Event} {old now : View} {from mid : Printed} {kept keeps : Option Kept}
    (h : IsSoFar xs old now from mid kept keeps) where
  pub far-up : IsUp now
  far-up = up_now old now xs from.contents mid.contents h.so_far

  pub far-state : now.state ≡ (run old.state xs).state
  far-state = h.so_far.done.state

  -- the bytes are written out
  pub far-flushed : {to : Printed} → Keeps mid.contents to.contents → mid.failed ≤ to.failed
      → IsSoFar xs old now from to kept keeps
  far-flushed keeps later = record {
    so_far = so-far-kept h.so_far keeps;
    records = h.records;
    later = le_trans h.later later;
  }

  -- the same, under other names
  pub far-through : {same_now : View} {to : Printed} {same_keeps : Option Kept} → same_now ≡ now
      → same_keeps ≡ keeps → Keeps mid.contents to.contents → mid.failed ≤ to.failed
      → IsSoFar xs old same_now from to kept same_keeps
  far-through a b keep later = rw (a, b) (far-flushed keep later)

  -- the record is written out
  pub far-kept : {last : Option Kept} → Records keeps last [] → IsSoFar xs old now from mid kept last
  far-kept {last} asked = record {
    so_far = h.so_far;
    records = subst (λ es. Records kept last es) (append-nil xs)
        (records-then kept keeps last xs [] h.records asked);
    later = h.later;
  }

  -- these are all
  pub far-all : (u : Unit {0}) → Gives xs old now from mid kept keeps (Ok u)
  far-all u = record { records = h.records; runs = (h.so_far.began, h.so_far.done); later = h.later }

  pub far-then : {ys : List Event} {new : View} {to : Printed} {last : Option Kept} {r : Result (Unit {0}) Halt}
      → Gives ys now new mid to keeps last r → Gives (xs ++ ys) old new from to kept last r
  far-then {ys} {new} {to} {last} {r} g = record {
    records = records-then kept keeps last xs ys h.records g.records;
    runs = runs_on old now new xs ys from.contents mid.contents to.contents (Rises mid.failed to.failed)
        (Rises from.failed to.failed) r h.so_far
        (λ rises. Rises-later from.failed mid.failed to.failed h.later rises g.later) g.runs;
    later = le_trans h.later g.later;
  }

  -- the state and the bytes after some of the events that follow
  pub far-both : (ys : List Event) → run old.state (xs ++ ys) ≡ after_bytes (run old.state xs).bytes (run now.state ys)
  far-both ys = both old now xs ys from.contents mid.contents h.so_far

-- ---- what is known of the console's bytes

known-of : (before after : Option (List ℕ)) (bytes : List ℕ) → Appends before after bytes
    → Keeps (append_known before bytes) after
known-of None after bytes appends = tt
known-of (Some xs) None bytes appends = absurd appends
known-of (Some xs) (Some ys) bytes appends = appends

-- a goal is looked for in what is known
reached-known : (g : Goal) (s : State) (known shown : Option (List ℕ)) → Keeps known shown → IsReached g s shown
    → IsReached g s known
reached-known (goal.Shown text) s None shown keeps there = tt
reached-known (goal.Shown text) s (Some xs) None keeps there = absurd keeps
reached-known (goal.Shown text) s (Some xs) (Some ys) keeps there = rw (← keeps) there
reached-known goal.Idle s known shown keeps there = there
reached-known goal.Prompt s known shown keeps there = there
reached-known goal.Quiet s known shown keeps there = there
reached-known goal.Halt s known shown keeps there = there

unreached-known : (g : Goal) (s : State) (known shown : Option (List ℕ)) → Keeps known shown → IsUnreached g s shown
    → IsUnreached g s known
unreached-known (goal.Shown text) s None shown keeps there = tt
unreached-known (goal.Shown text) s (Some xs) None keeps there = absurd keeps
unreached-known (goal.Shown text) s (Some xs) (Some ys) keeps there = rw (← keeps) there
unreached-known goal.Idle s known shown keeps there = there
unreached-known goal.Prompt s known shown keeps there = there
unreached-known goal.Quiet s known shown keeps there = there
unreached-known goal.Halt s known shown keeps there = there

over-known : (g : Option Goal) (c : Clock) (s : State) (known shown : Option (List ℕ)) → Keeps known shown
    → IsOver g c s shown → IsOver g c s known
over-known None c s known shown keeps over = over
over-known (Some g) c s known shown keeps (inl there) = inl (reached-known g s known shown keeps there)
over-known (Some g) c s known shown keeps (inr never) = inr never

found-known : (g : Option Goal) (b : Bool) (s : State) (known shown : Option (List ℕ)) → Keeps known shown
    → IsFound g b s shown → IsFound g b s known
found-known None b s known shown keeps found = found
found-known (Some g) true s known shown keeps found = reached-known g s known shown keeps found
found-known (Some g) false s known shown keeps found = unreached-known g s known shown keeps found

-- while a process runs or is ready, or nothing changes, nothing comes
unreached-still : (g : Goal) (s t : State) (shown : Option (List ℕ)) → IsUnreached g s shown
    → IsBusy t ⊎ (t ≡ s) → IsUnreached g t shown
unreached-still g s t shown there (inr same) = rw same there
unreached-still (goal.Shown text) s t shown there (inl busy) = there
unreached-still goal.Idle s t shown there (inl busy) = busy.busy
unreached-still goal.Prompt s t shown there (inl busy) = λ at. let idle = at.idle in let works = busy.busy in absurd cc
unreached-still goal.Quiet s t shown there (inl busy) = rw busy.busy refl
unreached-still goal.Halt s t shown there (inl busy) = busy.goes

busy-still : (s t : State) → is_idle s ≡ false → IsBusy t ⊎ (t ≡ s) → is_idle t ≡ false
busy-still s t busy (inl is) = is.busy
busy-still s t busy (inr same) = rw same busy

up-still : (s t : State) → s.halted ≡ None → IsBusy t ⊎ (t ≡ s) → t.halted ≡ None
up-still s t up (inl is) = is.goes
up-still s t up (inr same) = rw same up

on-still : (g : Option Goal) (c d : Clock) (s t : State) (known shown : Option (List ℕ)) → Keeps known shown
    → is_off d ≡ is_off c → GoesOn g c s shown → IsBusy t ⊎ (t ≡ s) → GoesOn g d t known
on-still None c d s t known shown keeps same on still = tt
on-still (Some g) c d s t known shown keeps same on still = (
  unreached-still g s t known (unreached-known g s known shown keeps on.0) still,
  (λ off. busy-still s t (on.1 (sym same ∙ off)) still),
  up-still s t on.2 still,
)

over-off : (g : Option Goal) (c d : Clock) (s : State) (shown : Option (List ℕ)) → is_off d ≡ is_off c
    → IsOver g c s shown → IsOver g d s shown
over-off None c d s shown same over = over
over-off (Some g) c d s shown same (inl there) = inl there
over-off (Some g) c d s shown same (inr never) = inr (same ∙ never.0, never.1)

-- ---- a wait

-- after `made` steps it is not over
pub record IsWalking (g : Option Goal) (most made : ℕ) (old now : View) (from to : Printed)
    (kept keeps : Option Kept) (before after : Clock) : Type 0 where
  pub far : IsSoFar (paced made before) old now from to kept keeps
  pub within : made ≤ most
  pub least : (n : ℕ) → n < made → At (spot_at old from before) n (GoesOn g before)
  pub clock : after ≡ passed_by made before

pub walking-begins : (g : Option Goal) (most : ℕ) {old : View} {from : Printed} {kept : Option Kept}
    {before : Clock} → IsUp old → IsWalking g most 0 old old from from kept kept before before
walking-begins g most {old} {from} {kept} {before} up = record {
  far = rw (paced-none before) (far-none up);
  within = omega arith;
  least = λ n less. absurd (omega (arith, less));
  clock = sym (passed-none before);
}

module _ {g : Option Goal} {most made : ℕ} {old now : View} {from mid : Printed} {kept keeps : Option Kept}
    {before now_clock : Clock} (h : IsWalking g most made old now from mid kept keeps before now_clock) where
  known-now : Keeps (append_known (shown_by from) (walked_to (spot_at old from before) made).bytes) (shown_by mid)
  known-now =
      known-of (shown_by from) (shown_by mid) _ (shown-appends from.contents mid.contents _ h.far.so_far.done.printed)

  off-now : is_off now_clock ≡ is_off before
  off-now = ap is_off h.clock ∙ off-passed made before

  over-now : IsOver g before now.state (shown_by mid) → At (spot_at old from before) made (IsOver g before)
  over-now ends =
      subst (λ (s : State). IsOver g before s (append_known (shown_by from) (run old.state (paced made before)).bytes))
      (far-state h.far)
      (over-known g before now.state (append_known (shown_by from) (run old.state (paced made before)).bytes)
      (shown_by mid) known-now ends)

  found-now : (b : Bool) → IsFound g b now.state (shown_by mid) → At (spot_at old from before) made (IsFound g b)
  found-now b found =
      subst (λ (s : State). IsFound g b s (append_known (shown_by from) (run old.state (paced made before)).bytes))
      (far-state h.far)
      (found-known g b now.state (append_known (shown_by from) (run old.state (paced made before)).bytes) (shown_by mid)
      known-now found)

  -- the wait ends
  pub walking-ends : (w : Walked) → w.made ≡ made
      → (made ≡ most) ⊎ IsOver g now_clock now.state (shown_by mid) → IsFound g w.is_there now.state (shown_by mid)
      → Serves (Steps most) g [] old now from mid kept keeps before now_clock (Ok w)
  walking-ends w is over found =
      record {
        events = paced w.made before;
        gives = rw is (far-all h.far tt);
        serves = (
          record {
            within = rw is h.within;
            least = rw is h.least;
            over = rw is (elim over [
              | inl all ↦ inl all
              | inr ends ↦ inr (over-now (over-off g now_clock before now.state (shown_by mid) (sym off-now) ends))
            ]);
            found = rw is (found-now w.is_there found);
          },
          refl,
          rw is h.clock,
        );
      }

  -- the events after others
  paced-after : (n : ℕ) → paced (made + n) before ≡ paced made before ++ paced n now_clock
  paced-after n = paced-more made n before ∙ ap (λ c. paced made before ++ paced n c) (sym h.clock)

  walked-after : (n : ℕ) → walked_to (spot_at old from before) (made + n)
      ≡ after_bytes (run old.state (paced made before)).bytes (run now.state (paced n now_clock))
  walked-after n = ap (run old.state) (paced-after n) ∙ far-both h.far (paced n now_clock)

  -- what is waited for doesn't come while nothing changes
  on-after : (n : ℕ) → GoesOn g now_clock now.state (shown_by mid)
      → HasStayed now.state (run now.state (paced n now_clock))
      → At (spot_at old from before) (made + n) (GoesOn g before)
  on-after n on stayed =
      let a = run now.state (paced n now_clock) in
      let first = (run old.state (paced made before)).bytes in
      let same : first ++ a.bytes ≡ first = ap (λ bs. first ++ bs) stayed.0 ∙ append-nil first in
      let keeps : Keeps (append_known (shown_by from) (first ++ a.bytes)) (shown_by mid) =
      subst (λ (bs : List ℕ). Keeps (append_known (shown_by from) bs) (shown_by mid)) (sym same) known-now in
      subst (λ (x : After). GoesOn g before x.state (append_known (shown_by from) x.bytes)) (sym (walked-after n))
      (on-still g now_clock before now.state a.state (append_known (shown_by from) (first ++ a.bytes)) (shown_by mid)
      keeps
      (sym off-now) on stayed.1)

  least-after : (more : ℕ) → GoesOn g now_clock now.state (shown_by mid)
      → ((n : ℕ) → n < more → HasStayed now.state (run now.state (paced n now_clock)))
      → (n : ℕ) → n < made + more → At (spot_at old from before) n (GoesOn g before)
  least-after more on still n less = elim (cases_lt n made) [
    | inl few ↦ h.least n few
    | inr many ↦
        let k : n ≡ made + (n - made) = omega (arith, many) in
        subst (λ m. At (spot_at old from before) m (GoesOn g before)) (sym k)
        (on-after (n - made) on (still (n - made) (omega (arith, less, many))))
  ]

-- what waits for nothing goes on in any case
least-any : (g : Option Goal) (aims : Bool) (more made most : ℕ) {old now : View} {from mid : Printed}
    {kept keeps : Option Kept} {before now_clock : Clock}
    → IsWalking g most made old now from mid kept keeps before now_clock → (is_some g ≡ aims)
    → GoesOn g now_clock now.state (shown_by mid) → (aims ≡ true → IsStill now.state now_clock more)
    → (n : ℕ) → n < made + more → At (spot_at old from before) n (GoesOn g before)
least-any None aims more made most h is on still n less = tt
least-any (Some g) aims more made most h is on still n less =
    least-after h more on (still (sym is)) n less

-- the same, under other names
pub goes-through : {aims : Bool} {most count : ℕ} {now same_now new : View} {from to : Printed}
    {keeps same_keeps last : Option Kept} {clock same_clock after : Clock} {r : Result (Unit {0}) Halt}
    → same_now ≡ now → same_keeps ≡ keeps → same_clock ≡ clock
    → Goes aims most same_now new from to same_keeps last same_clock after count r
    → Goes aims most now new from to keeps last clock after count r
goes-through a b c x = rw (← a, ← b, ← c) x

module _ {g : Option Goal} {most made : ℕ} {old now : View} {from mid out : Printed} {kept keeps : Option Kept}
    {before now_clock : Clock} (h : IsWalking g most made old now from mid kept keeps before now_clock)
    (keep : Keeps mid.contents out.contents) (later : mid.failed ≤ out.failed)
    (on : GoesOn g now_clock now.state (shown_by mid))
    {aims : Bool} (is : is_some g ≡ aims) {room more : ℕ} (few : room ≤ most - made) {new : View} {to : Printed}
    {last : Option Kept} {after : Clock} where
  -- more steps, and it is not over
  pub walking-more : (u : Unit {0}) → Goes aims room now new out to keeps last now_clock after more (Ok u)
      → IsWalking g most (made + more) old new from to kept last before after
  walking-more u x =
      let all : paced made before ++ x.events ≡ paced (made + more) before =
      ap (λ es. paced made before ++ es) x.follows ∙ sym (paced-after h more) in
      record {
        far = far-gives (subst (λ (es : List Event). Gives es old new from to kept last (Ok u)) all
            (far-then (far-flushed h.far keep later) x.gives));
        within = omega (arith, few, x.within, h.within);
        least = least-any g aims more made most h is on x.still;
        clock = x.clock ∙ ap (passed_by more) h.clock ∙ sym (passed-more made more before);
      }

  -- the machine halts
  pub walking-halts : (why : Halt) → Goes aims room now new out to keeps last now_clock after more (Err why)
      → Serves (Steps most) g [] old new from to kept last before after (Err why)
  walking-halts why x = record {
    events = paced made before ++ x.events;
    gives = far-then (far-flushed h.far keep later) x.gives;
    serves = record {
      made = made + more;
      within = omega (arith, few, x.within, h.within);
      least = least-any g aims more made most h is on x.still;
      begins = (
        x.follows.0,
        append_assoc (paced made before) x.events x.follows.0 ∙ ap (λ es. paced made before ++ es) x.follows.1
            ∙ sym (paced-after h more),
      );
    };
  }

-- ---- steps that are done in one go

still-paced : (s : State) (c : Clock) (n : ℕ) → n ≤ quiet c → IsStill s Off n → IsStill s c n
still-paced s c n few still k less =
    let same : paced k Off ≡ paced k c = paced-off k ∙ sym (paced-quiet k c (omega (arith, few, less))) in
    subst (λ (es : List Event). HasStayed s (run s es)) same (still k less)

follows-all : (all : List Event) (r : Result (Unit {0}) Halt) → Follows all r all
follows-all all (Ok u) = refl
follows-all all (Err why) = ([], append-nil all)

on-ok : (P : Type 0) (r : Result (Unit {0}) Halt) → P → OnOk r P
on-ok P (Ok u) p = p
on-ok P (Err why) p = tt

-- steps after none of which the clock strikes
pub goes-quiet : {aims : Bool} {most count : ℕ} {old new : View} {from to : Printed} {kept keeps : Option Kept}
    {before after : Clock} {r : Result (Unit {0}) Halt}
    → RunGives old new (replicate count Step) from.contents to.contents (Rises from.failed to.failed) r
    → (0 < count) × (count ≤ most) → (aims ≡ true → IsStill old.state Off count) → from.failed ≤ to.failed
    → Records kept keeps (replicate count Step) → most ≤ quiet before → after ≡ passed_by count before
    → Goes aims most old new from to kept keeps before after count r
goes-quiet {aims} {most} {count} {old} {new} {from} {to} {kept} {keeps} {before} {after} {r} runs within still later
    records few clock = record {
      events = replicate count Step;
      gives = record { records = records; runs = runs; later = later };
      follows = rw (paced-quiet count before (omega (arith, within.1, few))) (follows-all (replicate count Step) r);
      some = within.0;
      within = within.1;
      still = λ is. still-paced old.state before count (omega (arith, within.1, few)) (still is);
      clock = on-ok _ r clock;
    }

-- as many as there may be at least
pub goes-within : {aims : Bool} {few most count : ℕ} {old new : View} {from to : Printed}
    {kept keeps : Option Kept} {before after : Clock} {r : Result (Unit {0}) Halt} → few ≤ most
    → Goes aims few old new from to kept keeps before after count r
    → Goes aims most old new from to kept keeps before after count r
goes-within le x = record {
  events = x.events;
  gives = x.gives;
  follows = x.follows;
  some = x.some;
  within = le_trans x.within le;
  still = x.still;
  clock = x.clock;
}

-- a step is still, whoever waits
pub goes-aims : {aims : Bool} {most : ℕ} {old new : View} {from to : Printed} {kept keeps : Option Kept}
    {before after : Clock} {count : ℕ} {r : Result (Unit {0}) Halt}
    → Goes true most old new from to kept keeps before after count r
    → Goes aims most old new from to kept keeps before after count r
goes-aims x = record {
  events = x.events;
  gives = x.gives;
  follows = x.follows;
  some = x.some;
  within = x.within;
  still = λ is. x.still refl;
  clock = x.clock;
}

-- ---- a step, and the tick that may follow

one-still : (s : State) (c : Clock) → IsStill s c 1
unfolding run paced
one-still s c zero less = (refl, inr refl)
one-still s c (suc k) less = absurd (omega (arith, less))

module _ {old mid : View} {from between : Printed} {kept keeps : Option Kept} {before : Clock} where
  -- the machine halts at the step
  pub pace-halts : {after : Clock} {why : Halt} → Gives (Step ∷ []) old mid from between kept keeps (Err why)
      → Goes true 1 old mid from between kept keeps before after 1 (Err why)
  pace-halts g = record {
    events = Step ∷ [];
    gives = g;
    follows = (ticks_of (strikes before), sym (paced-one before));
    some = omega arith;
    within = omega arith;
    still = λ is. one-still old.state before;
    clock = tt;
  }

  -- the clock doesn't strike
  pub pace-plain : {after : Clock} {u : Unit {0}} → strikes before ≡ false → after ≡ passed before
      → Gives (Step ∷ []) old mid from between kept keeps (Ok u)
      → Goes true 1 old mid from between kept keeps before after 1 (Ok u)
  pace-plain silent clock g = record {
    events = Step ∷ [];
    gives = g;
    follows = sym (paced-one before ∙ ap (λ b. Step ∷ ticks_of b) silent);
    some = omega arith;
    within = omega arith;
    still = λ is. one-still old.state before;
    clock = clock ∙ sym (passed-one before);
  }

  -- it strikes
  pub pace-struck : {new : View} {to : Printed} {last : Option Kept} {after : Clock} {u : Unit {0}}
      {r : Result (Unit {0}) Halt} → strikes before ≡ true → after ≡ passed before
      → Gives (Step ∷ []) old mid from between kept keeps (Ok u)
      → Gives (Tick ∷ []) mid new between to keeps last r
      → Goes true 1 old new from to kept last before after 1 r
  pace-struck {r = r} struck clock g k = record {
    events = Step ∷ Tick ∷ [];
    gives = far-then (far-gives g) k;
    follows = rw (paced-one before, struck) (follows-all (Step ∷ Tick ∷ []) r);
    some = omega arith;
    within = omega arith;
    still = λ is. one-still old.state before;
    clock = on-ok _ r (clock ∙ sym (passed-one before));
  }

-- ---- exits

-- an exit by `?` returns the halt that it was given
pub lost : {X : Type 0} (r : Result X Halt) {why : Halt} → IsErrAnd r (λ halt. halt ≡ why) → r ≡ Err why
lost (Ok x) is = absurd is
lost (Err halt) is = ap Err is

-- after a run that went on the machine takes more
pub done-up : {old new : View} {a : After} {before after : Option (List ℕ)} → IsDone old new a before after None
    → IsUp new
done-up k = record { sound = k.sound; goes = ap (λ (s : State). s.halted) k.state ∙ k.halts }

-- the result is this one
pub goes-as : {aims : Bool} {most count : ℕ} {old new : View} {from to : Printed} {kept keeps : Option Kept}
    {before after : Clock} {r s : Result (Unit {0}) Halt} → r ≡ s
    → Goes aims most old new from to kept keeps before after count r
    → Goes aims most old new from to kept keeps before after count s
goes-as {aims} {most} {count} {old} {new} {from} {to} {kept} {keeps} {before} {after} is x =
    subst (λ (r : Result (Unit {0}) Halt). Goes aims most old new from to kept keeps before after count r) is x

-- whether something is waited for
pub some-same : {X Y : Type 0} (f : X → Y) (o : Option X) (b : Bool) → b ≡ is_some o → is_some (option_map f o) ≡ b
some-same f None b is = sym is
some-same f (Some x) b is = sym is
