-- What a source wants, piece by piece.
use Rattle.std.proofs.Common.{[], ap, append-nil, append_assoc, arith, Err, length, List, map, Ok, Option}
use Rattle.std.proofs.Common.{refl, replicate, Result, subst, sym, ℕ, ◌+◌, ◌++◌, ◌-◌, ◌<◌, ◌∙◌, ◌∷◌, ◌≡◌, ◌≤◌, None}
use Rattle.std.proofs.Common.{drop, get_or, take, take-append-drop}
use Rattle.std.proofs.lemmas.List.{length-map, replicate-append-replicate, take_all}
use Rattle.std.specs.Io.KnownBytes.{Keeps}
use Rattle.calls.specs.declared.halt.Halt.{Halt}
use Rattle.driver.proofs.Common.{press-next}
use Rattle.driver.proofs.Tails.{shown-appends}
use Rattle.driver.proofs.Walking.{IsSoFar, far-all, far-flushed, far-gives, far-none, far-state, far-then, far-up}
use Rattle.driver.specs.Driven.{Gives, IsDriven, IsServed, Printed, Serves, no_steps, spot_at}
use Rattle.driver.specs.Spots.{Leads, Spot}
use Rattle.driver.specs.Wanted.{Asks}
use Rattle.driver.specs.declared.wanted.Walked.{Walked}
use Rattle.driver.specs.declared.wanted.Wanted.{Wanted}
use Rattle.driver.specs.declared.wanted.Wanted.TheVariants.{End, Keys, Line, Nothing, Set, Steps, Ticks, WriteOut}
use Rattle.events.specs.Records.{Kept, Records}
use Rattle.machine.specs.Gives.{RunGives}
use Rattle.machine.specs.View.{IsUp, View}
use Rattle.events.specs.declared.clock.Clock.{Clock}
use Rattle.events.specs.declared.grammar.Goal.{Goal}
use Rattle.unixmodel.specs.Failures.{Rises}
use Rattle.unixmodel.specs.declared.event.Event.{Event}
use Rattle.unixmodel.specs.declared.event.Event.TheVariants.{Key, Tick}

-- events that a machine was given
pub gives-run : {events : List Event} {old new : View} {from to : Printed} {kept keeps : Option Kept}
    {r : Result (Unit {0}) Halt} → Records kept keeps events
    → RunGives old new events from.contents to.contents (Rises from.failed to.failed) r → from.failed ≤ to.failed
    → Gives events old new from to kept keeps r
gives-run records runs later = record { records = records; runs = runs; later = later }

-- ---- ticks

module _ {times made : ℕ} {old now : View} {from mid : Printed} {kept keeps : Option Kept}
    (h : IsSoFar (replicate made Tick) old now from mid kept keeps) (within : made ≤ times) {count : ℕ}
    (few : count ≤ times - made) {new : View} {to : Printed} {last : Option Kept} where
  ticks-then : {r : Result (Unit {0}) Halt} → Gives (replicate count Tick) now new mid to keeps last r
      → Gives (replicate (made + count) Tick) old new from to kept last r
  ticks-then {r} g = subst (λ (es : List Event). Gives es old new from to kept last r)
      (replicate-append-replicate made count Tick) (far-then h g)

  pub ticks-more : {u : Unit {0}} → Gives (replicate count Tick) now new mid to keeps last (Ok u)
      → IsSoFar (replicate (made + count) Tick) old new from to kept last
  ticks-more g = far-gives (ticks-then g)

  pub ticks-halt : {goal : Option Goal} {keys : List ℕ} {before after : Clock} {why : Halt}
      → Gives (replicate count Tick) now new mid to keeps last (Err why)
      → Serves (Ticks times) goal keys old new from to kept last before after (Err why)
  ticks-halt g =
      let rest : made + count + (times - (made + count)) ≡ times = omega (arith, few, within) in
      record {
        events = replicate (made + count) Tick;
        gives = ticks-then g;
        serves = (
          replicate (times - (made + count)) Tick,
          replicate-append-replicate (made + count) (times - (made + count)) Tick ∙ ap (λ n. replicate n Tick) rest,
        );
      }

pub ticks-end : {times made : ℕ} {old now : View} {from mid : Printed} {kept keeps : Option Kept}
    {goal : Option Goal} {keys : List ℕ} {before after : Clock} {w : Walked}
    → IsSoFar (replicate made Tick) old now from mid kept keeps → made ≤ times → times ≤ made → after ≡ before
    → Serves (Ticks times) goal keys old now from mid kept keeps before after (Ok w)
ticks-end {times} {made} h within all same =
    let is : made ≡ times = omega (arith, within, all) in
    record { events = replicate made Tick; gives = far-all h tt; serves = (ap (λ n. replicate n Tick) is, same) }

-- ---- keys

module _ (keys : List ℕ) (i : ℕ) (within : i < length keys) {old now : View} {from mid : Printed}
    {kept keeps : Option Kept} (h : IsSoFar (take i (map Key keys)) old now from mid kept keeps) {new : View}
    {to : Printed} {last : Option Kept} where
  key-then : {r : Result (Unit {0}) Halt} → Gives (Key (get_or keys i 0) ∷ []) now new mid to keeps last r
      → Gives (take (i + 1) (map Key keys)) old new from to kept last r
  key-then {r} g = subst (λ (es : List Event). Gives es old new from to kept last r) (sym (press-next keys i within))
      (far-then h g)

  pub keys-more : {u : Unit {0}} → Gives (Key (get_or keys i 0) ∷ []) now new mid to keeps last (Ok u)
      → IsSoFar (take (i + 1) (map Key keys)) old new from to kept last
  keys-more g = far-gives (key-then g)

  pub keys-halt : {goal : Option Goal} {before after : Clock} {why : Halt}
      → Gives (Key (get_or keys i 0) ∷ []) now new mid to keeps last (Err why)
      → Serves Keys goal keys old new from to kept last before after (Err why)
  keys-halt g = record {
    events = take (i + 1) (map Key keys);
    gives = key-then g;
    serves = (drop (i + 1) (map Key keys), take-append-drop (i + 1) (map Key keys));
  }

pub keys-end : (keys : List ℕ) (i : ℕ) {goal : Option Goal} {old now : View} {from mid : Printed}
    {kept keeps : Option Kept} {before after : Clock} {w : Walked}
    → IsSoFar (take i (map Key keys)) old now from mid kept keeps → length keys ≤ i → after ≡ before
    → Serves Keys goal keys old now from mid kept keeps before after (Ok w)
keys-end keys i h all same = record {
  events = take i (map Key keys);
  gives = far-all h tt;
  serves = (take_all i (map Key keys) (rw (length-map keys Key) all), same);
}

module _ {goal : Option Goal} {keys : List ℕ} {old new : View} {from to : Printed} {kept keeps : Option Kept}
    {before after : Clock} where
  -- the machine halts before the line's end
  pub line-halts : {other : Option Goal} {why : Halt}
      → Serves Keys other keys old new from to kept keeps before after (Err why)
      → Serves Line goal keys old new from to kept keeps before after (Err why)
  line-halts h = record {
    events = h.events;
    gives = h.gives;
    serves = (
      h.serves.0 ++ map Key (10 ∷ []),
      sym (append_assoc h.events h.serves.0 (map Key (10 ∷ [])))
          ∙ ap (λ es. es ++ map Key (10 ∷ [])) h.serves.1,
    );
  }

line-end : (goal another : Option Goal) (keys : List ℕ) (s mid t : Spot) (ends first : List Event)
    (r : Result Walked Halt) → first ≡ map Key keys → mid.clock ≡ s.clock
    → IsServed Keys another (10 ∷ []) mid ends t r → IsServed Line goal keys s (first ++ ends) t r
line-end goal another keys s mid t ends first (Ok w) is same x = (rw (is, x.0) refl, x.1 ∙ same)
line-end goal another keys s mid t ends first (Err why) is same x =
    (x.0, append_assoc first ends x.0 ∙ ap (λ es. first ++ es) x.1 ∙ ap (λ es. es ++ map Key (10 ∷ [])) is)

-- a line's end after its keys
pub line-then : {goal other another : Option Goal} {keys : List ℕ} {old mid new : View} {from between to : Printed}
    {kept keeps last : Option Kept} {before now after : Clock} {w : Walked} {r : Result Walked Halt}
    → Serves Keys other keys old mid from between kept keeps before now (Ok w)
    → Serves Keys another (10 ∷ []) mid new between to keeps last now after r
    → Serves Line goal keys old new from to kept last before after r
line-then {goal} {other} {another} {keys} {old} {mid} {new} {from} {between} {to} {kept} {keeps} {last} {before} {now}
    {after} {w} {r} h k = record {
      events = h.events ++ k.events;
      gives = far-then (far-gives h.gives) k.gives;
      serves = line-end goal another keys (spot_at old from before) (spot_at mid between now) (spot_at new to after)
          k.events h.events r h.serves.0 h.serves.1 k.serves;
    }

-- the machine takes more
pub served-up : {wanted : Wanted} {goal : Option Goal} {keys : List ℕ} {old new : View} {from to : Printed}
    {kept keeps : Option Kept} {before after : Clock} {w : Walked}
    → Serves wanted goal keys old new from to kept keeps before after (Ok w) → IsUp new
served-up h = far-up (far-gives h.gives)

-- ---- what gives no event

pub serves-clock : {goal : Option Goal} {keys : List ℕ} {old : View} {from : Printed} {kept : Option Kept}
    {before after : Clock} {w : Walked} → IsUp old
    → Serves (Set after) goal keys old old from from kept kept before after (Ok w)
serves-clock up = record { events = []; gives = far-all (far-none up) tt; serves = (refl, refl) }

pub serves-nothing : {goal : Option Goal} {keys : List ℕ} {old : View} {from : Printed} {kept : Option Kept}
    {before : Clock} {w : Walked} → IsUp old
    → Serves Nothing goal keys old old from from kept kept before before (Ok w)
serves-nothing up = record { events = []; gives = far-all (far-none up) tt; serves = (refl, refl) }

pub serves-flush : {goal : Option Goal} {keys : List ℕ} {old : View} {from to : Printed} {kept : Option Kept}
    {before : Clock} {w : Walked} → IsUp old → Keeps from.contents to.contents → from.failed ≤ to.failed
    → Serves WriteOut goal keys old old from to kept kept before before (Ok w)
serves-flush up keeps later = record {
  events = [];
  gives = far-all (far-flushed (far-none up) keeps later) tt;
  serves = (refl, refl);
}

-- ---- what doesn't depend on all of a source

pub walk-serves : {most : ℕ} {g goal : Option Goal} {keys : List ℕ} {old new : View} {from to : Printed}
    {kept keeps : Option Kept} {before after : Clock} {r : Result Walked Halt} → g ≡ goal
    → Serves (Steps most) g [] old new from to kept keeps before after r
    → Serves (Steps most) goal keys old new from to kept keeps before after r
walk-serves {r = Ok w} same h = rw (← same) (record { events = h.events; gives = h.gives; serves = h.serves })
walk-serves {r = Err why} same h = rw (← same) (record { events = h.events; gives = h.gives; serves = h.serves })

pub tick-serves : {times : ℕ} {goal : Option Goal} {keys : List ℕ} {old new : View} {from to : Printed}
    {kept keeps : Option Kept} {before after : Clock} {r : Result Walked Halt}
    → Serves (Ticks times) None [] old new from to kept keeps before after r
    → Serves (Ticks times) goal keys old new from to kept keeps before after r
tick-serves {r = Ok w} h = record { events = h.events; gives = h.gives; serves = h.serves }
tick-serves {r = Err why} h = record { events = h.events; gives = h.gives; serves = h.serves }

pub keys-serve : {goal : Option Goal} {keys typed : List ℕ} {old new : View} {from to : Printed}
    {kept keeps : Option Kept} {before after : Clock} {r : Result Walked Halt} → keys ≡ typed
    → Serves Keys None keys old new from to kept keeps before after r
    → Serves Keys goal typed old new from to kept keeps before after r
keys-serve {r = Ok w} same h = rw (← same) (record { events = h.events; gives = h.gives; serves = h.serves })
keys-serve {r = Err why} same h = rw (← same) (record { events = h.events; gives = h.gives; serves = h.serves })

pub line-serves : {goal : Option Goal} {keys typed : List ℕ} {old new : View} {from to : Printed}
    {kept keeps : Option Kept} {before after : Clock} {r : Result Walked Halt} → keys ≡ typed
    → Serves Line None keys old new from to kept keeps before after r
    → Serves Line goal typed old new from to kept keeps before after r
line-serves {r = Ok w} same h = rw (← same) (record { events = h.events; gives = h.gives; serves = h.serves })
line-serves {r = Err why} same h = rw (← same) (record { events = h.events; gives = h.gives; serves = h.serves })

-- ---- a source

-- what it wanted so far is given
pub record IsDriving {S : Type 0} (wants : S → Walked → Spot → S → Result (Unit {0}) Halt → List Event → Type 0)
    (first source : S) (walked : Walked) (old now : View) (from to : Printed) (kept keeps : Option Kept)
    (before after : Clock) : Type 0 where
  pub events : List Event
  pub far : IsSoFar events old now from to kept keeps
  pub closes : (last : S) (r : Result (Unit {0}) Halt) (more : List Event)
      → wants source walked (spot_at now to after) last r more
      → wants first no_steps (spot_at old from before) last r (events ++ more)

module _ {S : Type 0} {wants : S → Walked → Spot → S → Result (Unit {0}) Halt → List Event → Type 0} where
  pub driving-begins : {first : S} {old : View} {from : Printed} {kept : Option Kept} {before : Clock}
      → IsUp old → IsDriving wants first first no_steps old old from from kept kept before before
  driving-begins up = record { events = []; far = far-none up; closes = λ last r more w. w }

  module _ {first source later : S} {walked : Walked} {old now : View} {from mid : Printed}
      {kept keeps : Option Kept} {before clock : Clock}
      (h : IsDriving wants first source walked old now from mid kept keeps before clock) {wanted : Wanted}
      {goal : Option Goal} {keys : List ℕ}
      (asks : (s : Spot) → s.state ≡ now.state → Asks wants goal keys source later walked s wanted) where
    asks-here : Asks wants goal keys source later walked (spot_at now mid clock) wanted
    asks-here = asks (spot_at now mid clock) refl

    -- it is at its end
    pub driving-ends : wanted ≡ End
        → IsDriven (wants first no_steps (spot_at old from before) later) old now from mid kept keeps (Ok tt)
    driving-ends is = record {
      events = h.events;
      wanted = subst (λ es. wants first no_steps (spot_at old from before) later (Ok tt) es) (append-nil h.events)
          (h.closes later (Ok tt) [] (asks-here.ends is));
      gives = far-all h.far tt;
    }

    module _ {new : View} {to : Printed} {last : Option Kept} {after : Clock} where
      -- it goes on
      pub driving-more : {w : Walked} → Serves wanted goal keys now new mid to keeps last clock after (Ok w)
          → IsDriving wants first later w old new from to kept last before after
      driving-more {w} x =
          let next = far-gives x.gives in
          let leads : Leads (spot_at now mid clock) x.events (spot_at new to after) =
          record {
            state = far-state next;
            shown = shown-appends mid.contents to.contents _ next.so_far.done.printed;
          } in
          record {
            events = h.events ++ x.events;
            far = far-gives (far-then h.far x.gives);
            closes = λ end r more wants_more.
                subst (λ es. wants first no_steps (spot_at old from before) end r es)
                (sym (append_assoc h.events x.events more))
                (h.closes end r (x.events ++ more)
                (asks-here.goes x.events more (spot_at new to after) w end r x.serves leads wants_more));
          }

      -- the machine halts
      pub driving-halts : {why : Halt} → Serves wanted goal keys now new mid to keeps last clock after (Err why)
          → IsDriven (wants first no_steps (spot_at old from before) later) old new from to kept last (Err why)
      driving-halts {why} x = record {
        events = h.events ++ x.events;
        wanted = h.closes later (Err why) x.events (asks-here.halts x.events why x.serves);
        gives = far-then h.far x.gives;
      }

  pub driving-up : {first source : S} {walked : Walked} {old now : View} {from mid : Printed}
      {kept keeps : Option Kept} {before clock : Clock}
      → IsDriving wants first source walked old now from mid kept keeps before clock → IsUp now
  driving-up h = far-up h.far
