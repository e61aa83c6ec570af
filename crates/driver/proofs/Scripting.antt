-- What a script wants.
use Rattle.std.proofs.Common.{[], ap, append_assoc, arith, Err, inl, inr, List, None, Ok, refl, replicate, Result}
use Rattle.std.proofs.Common.{drop, length, Option, Some, suc, sym, zero, ℕ, ◌+◌, ◌++◌, ◌-◌, ◌<◌, ◌∙◌, ◌∷◌, ◌≡◌}
use Rattle.std.specs.Prelude.{slice_get}
use Rattle.std.proofs.lemmas.List.{replicate-append-replicate}
use Rattle.calls.specs.declared.halt.Halt.{Halt}
use Rattle.driver.proofs.Pacing.{off-stays, paced-off}
use Rattle.driver.specs.Commands.{keys_of, WantsScript, wanted_of}
use Rattle.driver.specs.Driven.{IsDriven, Printed, spot_at}
use Rattle.driver.specs.Pacing.{Follows}
use Rattle.driver.specs.Spots.{Spot}
use Rattle.driver.specs.Wanted.{Asks, IsBegun, IsGiven}
use Rattle.driver.specs.declared.wanted.Walked.{Walked}
use Rattle.driver.specs.declared.wanted.Wanted.TheVariants.{End}
use Rattle.events.specs.Paced.{Begins, paced}
use Rattle.events.specs.Records.{Kept}
use Rattle.events.specs.Scripts.{command_events, script_events}
use Rattle.machine.specs.View.{View}
use Rattle.events.specs.Clocks.{passed_by}
use Rattle.events.specs.declared.clock.Clock.{Clock}
use Rattle.events.specs.declared.clock.Clock.TheVariants.{Off}
use Rattle.events.specs.declared.grammar.Goal.{Goal}
use Rattle.events.specs.declared.script.lines.Command.{Command}
use Rattle.events.specs.declared.script.lines.Command.TheVariants as command
use Rattle.unixmodel.specs.declared.event.Event.{Event}
use Rattle.unixmodel.specs.declared.event.Event.TheVariants.{Step}

-- ---- a command

-- its events, and no clock runs afterwards
given-command : (c : Command) (s t : Spot) (events : List Event) (walked : Walked) → s.clock ≡ Off
    → IsGiven (wanted_of c) None (keys_of (Some c)) s events t walked → (events ≡ command_events c) × (t.clock ≡ Off)
given-command (command.Step n) s t events walked off given =
    let all : walked.made ≡ n = elim given.0.over [ inl all ↦ all | inr never ↦ absurd never ] in (
      given.1 ∙ ap (λ c. paced walked.made c) off ∙ paced-off walked.made ∙ ap (λ k. replicate k Step) all,
      given.2 ∙ ap (passed_by walked.made) off ∙ off-stays walked.made,
    )
given-command (command.Tick n) s t events walked off given = (given.0, given.1 ∙ off)
given-command (command.Keys keys) s t events walked off given = (given.0, given.1 ∙ off)
given-command (command.Type text) s t events walked off given = (given.0, given.1 ∙ off)

begun-command : (c : Command) (s : Spot) (events : List Event) → s.clock ≡ Off
    → IsBegun (wanted_of c) None (keys_of (Some c)) s events → Begins events (command_events c)
begun-command (command.Step n) s events off begun =
    let made = begun.made in
    let rest : made + (n - made) ≡ n = let within = begun.within in omega (arith, within) in (
      begun.begins.0 ++ replicate (n - made) Step,
      sym (append_assoc events begun.begins.0 (replicate (n - made) Step))
          ∙ ap (λ es. es ++ replicate (n - made) Step) (begun.begins.1 ∙ ap (λ c. paced made c) off ∙ paced-off made)
          ∙ replicate-append-replicate made (n - made) Step ∙ ap (λ k. replicate k Step) rest,
    )
begun-command (command.Tick n) s events off begun = begun
begun-command (command.Keys keys) s events off begun = begun
begun-command (command.Type text) s events off begun = begun

never-ends : (c : Command) → wanted_of c ≡ End → ⊥
never-ends (command.Step n) is = absurd cc
never-ends (command.Tick n) is = absurd cc
never-ends (command.Keys keys) is = absurd cc
never-ends (command.Type text) is = absurd cc

-- ---- others after it

pub follows-then : (a b ea eb : List Event) (r : Result (Unit {0}) Halt) → ea ≡ a → Follows b r eb
    → Follows (a ++ b) r (ea ++ eb)
follows-then a b ea eb (Ok u) same f = rw (same, f) refl
follows-then a b ea eb (Err why) same f =
    (f.0, append_assoc ea eb f.0 ∙ ap (λ es. ea ++ es) f.1 ∙ ap (λ es. es ++ b) same)

pub begins-then : (a b events : List Event) → Begins events a → Begins events (a ++ b)
begins-then a b events f = (f.0 ++ b, sym (append_assoc events f.0 b) ∙ ap (λ es. es ++ b) f.1)

-- ---- a script

pub drop-at : (xs : List Command) (i : ℕ) (c : Command) → Some c ≡ slice_get xs i → drop i xs ≡ c ∷ drop (i + 1) xs
drop-at [] i c is = absurd cc
drop-at (x ∷ xs) zero c is = let same : x ≡ c = cc in ap (λ y. y ∷ xs) same
drop-at (x ∷ xs) (suc i) c is =
    let on : suc (i + 1) ≡ suc i + 1 = omega arith in
    drop-at xs i c is ∙ ap (λ k. c ∷ drop k (x ∷ xs)) on

pub drop-none : (xs : List Command) (i : ℕ) → None ≡ slice_get xs i → drop i xs ≡ []
drop-none [] zero is = refl
drop-none [] (suc i) is = refl
drop-none (x ∷ xs) zero is = absurd cc
drop-none (x ∷ xs) (suc i) is = drop-none xs i is

pub at-within : (xs : List Command) (i : ℕ) (c : Command) → Some c ≡ slice_get xs i → i < length xs
at-within [] i c is = absurd cc
at-within (x ∷ xs) zero c is = omega arith
at-within (x ∷ xs) (suc i) c is = let within = at-within xs i c is in omega (arith, within)

module _ {S : Type 0} {wants : S → Walked → Spot → S → Result (Unit {0}) Halt → List Event → Type 0} {old new : S}
    {walked : Walked} {s : Spot} where
  pub asks-command : (c : Command) (rest : List Command)
      → ((last : S) (r : Result (Unit {0}) Halt) (events : List Event) → WantsScript (c ∷ rest) s r events
      → wants old walked s last r events)
      → ((w : Walked) (t : Spot) (last : S) (r : Result (Unit {0}) Halt) (events : List Event)
      → wants new w t last r events → WantsScript rest t r events)
      → Asks wants None (keys_of (Some c)) old new walked s (wanted_of c)
  asks-command c rest begins goes_on = record {
    goes = λ events more t w last r given leads later.
        begins last r (events ++ more)
        (λ off.
        let h = given-command c s t events w off given in
        follows-then (command_events c) (script_events rest) events more r h.0 (goes_on w t last r more later h.1));
    halts = λ events why begun.
        begins new (Err why) events
        (λ off.
        begins-then (command_events c) (script_events rest) events (begun-command c s events off begun));
    ends = λ ends. absurd (never-ends c ends);
  }

  pub asks-end : {goal : Option Goal} {keys : List ℕ}
      → (WantsScript [] s (Ok tt) [] → wants old walked s new (Ok tt) []) → Asks wants goal keys old new walked s End
  asks-end begins = record {
    goes = λ events more t w last r given leads later. absurd given;
    halts = λ events why begun. absurd begun;
    ends = λ ends. begins (λ off. refl);
  }

-- no clock runs
pub runs-script : (script : List Command) {old new : View} {from to : Printed} {kept keeps : Option Kept}
    {r : Result (Unit {0}) Halt} (before : Clock) → before ≡ Off
    → IsDriven (λ result events. WantsScript script (spot_at old from before) result events) old new from to kept
    keeps r
    → IsDriven (Follows (script_events script)) old new from to kept keeps r
runs-script script before off h = record { events = h.events; wanted = h.wanted off; gives = h.gives }
