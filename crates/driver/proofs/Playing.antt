-- What a play wants.
use Rattle.std.proofs.Common.{[], ap, append-nil, append_assoc, arith, Err, inl, inr, length, List, map, None}
use Rattle.std.proofs.Common.{Ok, Option, refl, replicate, Result, Some, subst, suc, sym, true, zero, ℕ, ◌+◌, ◌++◌, ◌-◌}
use Rattle.std.proofs.Common.{◌∙◌, ◌∷◌, ◌≡◌}
use Rattle.std.proofs.KnownBytes.{Appends-trans}
use Rattle.std.proofs.lemmas.Bool.Decides.{nat_tests}
use Rattle.std.specs.Io.KnownBytes.{Appends}
use Rattle.std.specs.Prelude.{Bool, nat_lt, slice_get}
use Rattle.calls.specs.declared.halt.Halt.{Halt}
use Rattle.driver.proofs.Pacing.{paced-more}
use Rattle.driver.specs.Driven.{IsDriven, Printed}
use Rattle.driver.specs.Played.{IsPlayed}
use Rattle.driver.specs.Plays.{GoesOnUnless, IsWrittenOut, LineBegins, LineGives, LineIsDone}
use Rattle.driver.specs.Plays.{Plays, PlaysOn, aim_of_deed, deed_keys, gave, has_event, in_vain, noted_if, wanted_by}
use Rattle.driver.specs.Spots.{Leads, Spot}
use Rattle.driver.specs.Wanted.{Asks, IsBegun, IsGiven}
use Rattle.driver.specs.declared.play.Unreached.{Unreached}
use Rattle.driver.specs.declared.wanted.Walked.{Walked}
use Rattle.driver.specs.declared.wanted.Wanted.TheVariants.{End}
use Rattle.events.specs.Paced.{paced}
use Rattle.events.specs.Records.{Kept}
use Rattle.machine.specs.View.{View}
use Rattle.events.specs.Clocks.{passed_by}
use Rattle.events.specs.Places.{after_deed, first_place}
use Rattle.events.specs.declared.clock.Clock.{Clock}
use Rattle.events.specs.declared.grammar.Act.{Act}
use Rattle.events.specs.declared.grammar.Deed.{Deed}
use Rattle.events.specs.declared.grammar.Deed.TheVariants as deed
use Rattle.events.specs.declared.grammar.Goal.{Goal}
use Rattle.events.specs.declared.place.Place.{Place}
use Rattle.events.specs.declared.script.lines.Command.TheVariants as command
use Rattle.unixmodel.specs.Run.{run}
use Rattle.unixmodel.specs.State.{State}
use Rattle.unixmodel.specs.declared.event.Event.{Event}
use Rattle.unixmodel.specs.declared.event.Event.TheVariants.{Key, Tick}

-- ---- no event

none-state : (s : State) → (run s []).state ≡ s
unfolding run
none-state s = refl

none-bytes : (s : State) → (run s []).bytes ≡ []
unfolding run
none-bytes s = refl

leads-then : {s t u : Spot} {events : List Event} → Leads s events t → Leads t [] u → Leads s events u
leads-then {s} {t} {u} {events} first next =
    let bytes = (run s.state events).bytes in
    let nothing : Appends t.shown u.shown [] =
    subst (λ (bs : List ℕ). Appends t.shown u.shown bs) (none-bytes t.state) next.shown in
    record {
      state = next.state ∙ none-state t.state ∙ first.state;
      shown = subst (λ (bs : List ℕ). Appends s.shown u.shown bs) (append-nil bytes)
          (Appends-trans s.shown t.shown u.shown bytes [] first.shown nothing);
    }

-- ---- whether events are some

some-is : (n : ℕ) → true ≡ nat_lt 0 (suc n)
some-is n = grind (arith, nat_tests)

has-paced : (n : ℕ) (c : Clock) → has_event (paced n c) ≡ nat_lt 0 n
unfolding paced
has-paced zero c = refl
has-paced (suc n) c = some-is n

has-ticks : (n : ℕ) → has_event (replicate n Tick) ≡ nat_lt 0 n
has-ticks zero = refl
has-ticks (suc n) = some-is n

has-keys : (keys : List ℕ) → has_event (map Key keys) ≡ nat_lt 0 (length keys)
has-keys [] = refl
has-keys (key ∷ keys) = some-is (length keys)

has-line : (keys : List ℕ) → has_event (map Key keys ++ map Key (10 ∷ [])) ≡ true
has-line [] = refl
has-line (key ∷ keys) = refl

-- ---- a line

given-line : (d : Deed) (s t : Spot) (events : List Event) (w : Walked)
    → IsGiven (wanted_by d) (aim_of_deed d) (deed_keys d) s events t w → LineGives d s events t w
given-line (deed.Give (command.Step n)) s t events w given =
    let all : w.made ≡ n = elim given.0.over [ inl all ↦ all | inr never ↦ absurd never ] in
    (given.1 ∙ ap (λ k. paced k s.clock) all, given.2 ∙ ap (λ k. passed_by k s.clock) all)
given-line (deed.Give (command.Tick n)) s t events w given = given
given-line (deed.Give (command.Keys keys)) s t events w given = given
given-line (deed.Give (command.Type text)) s t events w given = given
given-line (deed.Until goal most) s t events w given = given
given-line (deed.Set c) s t events w given = given
given-line (deed.Repeat times end) s t events w given = given
given-line deed.End s t events w given = given

begun-line : (d : Deed) (s : Spot) (events : List Event)
    → IsBegun (wanted_by d) (aim_of_deed d) (deed_keys d) s events → LineBegins d s events
begun-line (deed.Give (command.Step n)) s events begun =
    let made = begun.made in
    let rest = paced (n - made) (passed_by made s.clock) in
    let all : made + (n - made) ≡ n = let within = begun.within in omega (arith, within) in (
      begun.begins.0 ++ rest,
      sym (append_assoc events begun.begins.0 rest) ∙ ap (λ es. es ++ rest) begun.begins.1
          ∙ sym (paced-more made (n - made) s.clock) ∙ ap (λ k. paced k s.clock) all,
    )
begun-line (deed.Give (command.Tick n)) s events begun = begun
begun-line (deed.Give (command.Keys keys)) s events begun = begun
begun-line (deed.Give (command.Type text)) s events begun = begun
begun-line (deed.Until goal most) s events begun = begun
begun-line (deed.Set c) s events begun = absurd begun
begun-line (deed.Repeat times end) s events begun = absurd begun
begun-line deed.End s events begun = absurd begun

gave-line : (d : Deed) (s t : Spot) (events : List Event) (w : Walked) → LineGives d s events t w
    → has_event events ≡ gave d w
gave-line (deed.Give (command.Step n)) s t events w given = ap has_event given.0 ∙ has-paced n s.clock
gave-line (deed.Give (command.Tick n)) s t events w given = ap has_event given.0 ∙ has-ticks n
gave-line (deed.Give (command.Keys keys)) s t events w given = ap has_event given.0 ∙ has-keys keys.items
gave-line (deed.Give (command.Type text)) s t events w given = ap has_event given.0 ∙ has-line text.now
gave-line (deed.Until goal most) s t events w given = ap has_event given.1 ∙ has-paced w.made s.clock
gave-line (deed.Set c) s t events w given = ap has_event given.0
gave-line (deed.Repeat times end) s t events w given = ap has_event given.0
gave-line deed.End s t events w given = ap has_event given.0

-- the clock alone is looked at where a line ends
line-at : (d : Deed) (s t u : Spot) (events : List Event) (w : Walked) → u.clock ≡ t.clock
    → LineGives d s events t w → LineGives d s events u w
line-at (deed.Give (command.Step n)) s t u events w same given = (given.0, same ∙ given.1)
line-at (deed.Give (command.Tick n)) s t u events w same given = (given.0, same ∙ given.1)
line-at (deed.Give (command.Keys keys)) s t u events w same given = (given.0, same ∙ given.1)
line-at (deed.Give (command.Type text)) s t u events w same given = (given.0, same ∙ given.1)
line-at (deed.Until goal most) s t u events w same given = (given.0, given.1, same ∙ given.2)
line-at (deed.Set c) s t u events w same given = (given.0, same ∙ given.1)
line-at (deed.Repeat times end) s t u events w same given = (given.0, same ∙ given.1)
line-at deed.End s t u events w same given = (given.0, same ∙ given.1)

never-end : (d : Deed) → wanted_by d ≡ End → ⊥
never-end (deed.Give (command.Step n)) is = absurd cc
never-end (deed.Give (command.Tick n)) is = absurd cc
never-end (deed.Give (command.Keys keys)) is = absurd cc
never-end (deed.Give (command.Type text)) is = absurd cc
never-end (deed.Until goal most) is = absurd cc
never-end (deed.Set c) is = absurd cc
never-end (deed.Repeat times end) is = absurd cc
never-end deed.End is = absurd cc

-- ---- a line, and those after it

module _ (n : ℕ) (acts : List Act) (p : Place) (act : Act) (s : Spot) (vain : Option Unreached) where
  line-done : (t : Spot) (events more : List Event) (w : Walked) (r : Result (Unit {0}) Halt)
      (waited : Option Unreached) → in_vain act w ≡ waited → LineGives act.deed s events t w → Leads s events t
      → GoesOnUnless waited (IsWrittenOut (Plays n acts (noted_if (gave act.deed w) (after_deed p act.deed))) t) vain r
      more
      → LineIsDone (Plays n acts) act p s vain r (events ++ more)
  line-done t events more w r None same given leads on = record {
    first = events;
    more = more;
    parts = refl;
    spot = on.spot;
    walked = w;
    gives = line-at act.deed s t on.spot events w on.clock given;
    leads = leads-then leads on.leads;
    later = subst
        (λ (v : Option Unreached).
        GoesOnUnless v (Plays n acts (noted_if (has_event events) (after_deed p act.deed)) on.spot) vain r more)
        (sym same)
        (subst (λ (b : Bool). Plays n acts (noted_if b (after_deed p act.deed)) on.spot vain r more)
        (sym (gave-line act.deed s t events w given)) on.later);
  }
  line-done t events more w r (Some unreached) same given leads on = record {
    first = events;
    more = more;
    parts = refl;
    spot = t;
    walked = w;
    gives = given;
    leads = leads;
    later = subst
        (λ (v : Option Unreached).
        GoesOnUnless v (Plays n acts (noted_if (has_event events) (after_deed p act.deed)) t) vain r more)
        (sym same) on;
  }

  line-goes : (t : Spot) (events more : List Event) (w : Walked) (r : Result (Unit {0}) Halt)
      → slice_get acts p.at ≡ Some act → LineGives act.deed s events t w → Leads s events t
      → PlaysOn n acts (after_deed p act.deed) (Some act) w t vain r more
      → Plays (suc n) acts p s vain r (events ++ more)
  unfolding Plays
  line-goes t events more w r is given leads on =
      rw is (inl (line-done t events more w r (in_vain act w) refl given leads on))

  line-halts : (events : List Event) (why : Halt) → slice_get acts p.at ≡ Some act → vain ≡ None
      → LineBegins act.deed s events → Plays (suc n) acts p s vain (Err why) events
  unfolding Plays
  line-halts events why is none begun = rw is (inr (none, begun))

-- no line comes
pub plays-none : (n : ℕ) (acts : List Act) (p : Place) (s : Spot) {vain : Option Unreached}
    → slice_get acts p.at ≡ None → vain ≡ None → Plays n acts p s vain (Ok tt) []
unfolding Plays
plays-none zero acts p s is none = (none, refl, refl)
plays-none (suc n) acts p s is none = rw is (none, refl, refl)

-- as many came as are counted
pub plays-counted : {n : ℕ} (acts : List Act) (p : Place) (s : Spot) {vain : Option Unreached} → n ≡ 0 → vain ≡ None
    → Plays n acts p s vain (Ok tt) []
unfolding Plays
plays-counted acts p s is none = rw is (none, refl, refl)

-- ---- a source

module _ {S : Type 0} {wants : S → Walked → Spot → S → Result (Unit {0}) Halt → List Event → Type 0}
    (unreached : S → Option Unreached) {old new : S} {walked : Walked} {s : Spot} (n : ℕ) (acts : List Act) (p : Place)
  where
    -- a line comes
    asks-line : (m : ℕ) (act : Act) → slice_get acts p.at ≡ Some act → n ≡ suc m → unreached new ≡ None
        → ((last : S) (r : Result (Unit {0}) Halt) (events : List Event)
        → Plays n acts p s (unreached last) r events → wants old walked s last r events)
        → ((w : Walked) (t : Spot) (last : S) (r : Result (Unit {0}) Halt) (events : List Event)
        → wants new w t last r events
        → PlaysOn m acts (after_deed p act.deed) (Some act) w t (unreached last) r events)
        → Asks wants (aim_of_deed act.deed) (deed_keys act.deed) old new walked s (wanted_by act.deed)
    asks-line m act is more none begins on = record {
      goes = λ events later t w last r given leads comes.
          begins last r (events ++ later)
          (subst (λ (k : ℕ). Plays k acts p s (unreached last) r (events ++ later)) (sym more)
          (line-goes m acts p act s (unreached last) t events later w r is (given-line act.deed s t events w given)
          leads (on w t last r later comes)));
      halts = λ events why begun.
          begins new (Err why) events
          (subst (λ (k : ℕ). Plays k acts p s (unreached new) (Err why) events) (sym more)
          (line-halts m acts p act s (unreached new) events why is none (begun-line act.deed s events begun)));
      ends = λ ends. absurd (never-end act.deed ends);
    }

    -- it is over
    asks-over : {goal : Option Goal} {keys : List ℕ} → Plays n acts p s (unreached new) (Ok tt) []
        → (Plays n acts p s (unreached new) (Ok tt) [] → wants old walked s new (Ok tt) [])
        → Asks wants goal keys old new walked s End
    asks-over over begins = record {
      goes = λ events later t w last r given leads comes. absurd given;
      halts = λ events why begun. absurd begun;
      ends = λ ends. begins over;
    }

-- ---- the same, as the source has it

module _ {S : Type 0} {wants : S → Walked → Spot → S → Result (Unit {0}) Halt → List Event → Type 0}
    (unreached : S → Option Unreached) {old new : S} {walked : Walked} {s : Spot} (n : ℕ) (acts : List Act) (p : Place)
    {current : Option Act}
    (begins : (last : S) (r : Result (Unit {0}) Halt) (events : List Event)
    → PlaysOn n acts p current walked s (unreached last) r events → wants old walked s last r events) where
  -- no line comes
  pub over-asks : {goal : Option Goal} {keys : List ℕ} → current ≡ None → Plays n acts p s (unreached new) (Ok tt) []
      → Asks wants goal keys old new walked s End
  over-asks is over =
      asks-over unreached n acts p over
      (λ h.
      begins new (Ok tt) []
      (subst (λ (c : Option Act). PlaysOn n acts p c walked s (unreached new) (Ok tt) []) (sym is) h))

  -- one comes
  pub line-asks : {m : ℕ} {place : Place} (act : Act) → current ≡ None → slice_get acts p.at ≡ Some act → n ≡ suc m
      → unreached new ≡ None → place ≡ after_deed p act.deed
      → ((w : Walked) (t : Spot) (last : S) (r : Result (Unit {0}) Halt) (events : List Event)
      → wants new w t last r events → PlaysOn m acts place (Some act) w t (unreached last) r events)
      → Asks wants (aim_of_deed act.deed) (deed_keys act.deed) old new walked s (wanted_by act.deed)
  line-asks {m} act is line more none goes on =
      asks-line unreached n acts p m act line more none
      (λ last r events h.
      begins last r events
      (subst (λ (c : Option Act). PlaysOn n acts p c walked s (unreached last) r events) (sym is) h))
      (λ w t last r events h.
      subst (λ (q : Place). PlaysOn m acts q (Some act) w t (unreached last) r events) goes (on w t last r events h))

-- ---- a play

module _ {all acts : List Act} {s : Spot} {old new : View} {from to : Printed} {kept keeps : Option Kept}
    {n : ℕ} {p : Place} {current : Option Act} (w : Walked) (vain : Option Unreached) {r : Result (Unit {0}) Halt}
    (same : all ≡ acts) (counted : n ≡ 0xffff_ffff_ffff_ffff) (first : p ≡ first_place) (none : current ≡ None)
    (x : IsDriven (PlaysOn n all p current w s vain) old new from to kept keeps r) where
  -- it came to its end
  pub played-ok : {u : Unit {0}} → r ≡ Ok u → IsPlayed acts s old new from to kept keeps (Ok vain)
  played-ok ends =
      let y = rw (same, counted, first, none, ends) at x in
      record {
        vain = vain;
        driven = record { events = y.events; wanted = y.wanted; gives = y.gives };
        told = refl;
      }

  -- the machine halted
  pub played-err : {why : Halt} → r ≡ Err why → IsPlayed acts s old new from to kept keeps (Err why)
  played-err halts =
      let y = rw (same, counted, first, none, halts) at x in
      record { vain = vain; driven = record { events = y.events; wanted = y.wanted; gives = y.gives }; told = tt }
