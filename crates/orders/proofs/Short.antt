-- Where late timer interrupts alone were left out, what all lists with few timer interrupts show is told.
use Rattle.std.proofs.Common.{[], ap, arith, Bool, false, inl, inr, List, None, refl, subst, sym, true}
use Rattle.std.proofs.Common.{ℕ, ◌+◌, ◌<◌, ◌^◌, ◌∙◌, ◌∷◌, ◌≡◌}
use Rattle.std.specs.Prelude.{is_some, not, ◌||◌}
use Rattle.lateness.proofs.Laws.{late-files, late-halted}
use Rattle.lateness.specs.Late.{AreLateAlike, EventKeepsLateAlike, GoLateAlike, LateTickChangesNothing, ticks_in}
use Rattle.orders.proofs.Complete.{coarse-quiet, coarse-told}
use Rattle.orders.proofs.Late.{Prompted, asleep-same, awake-within, idle-same, prompts}
use Rattle.orders.proofs.Reducing.{FreeBy, by-free, free-by, left-interrupts, over-shown, show-same}
use Rattle.orders.proofs.Shows.{told-same}
use Rattle.orders.specs.declared.bounds.Bounds.{Bounds}
use Rattle.orders.specs.declared.bounds.Missed.{Missed}
use Rattle.orders.specs.declared.paths.Path.{Path}
use Rattle.orders.specs.declared.told.Outcome.{Outcome}
use Rattle.orders.specs.Ends.{IsOver, ShowSame, is_anyone_asleep, saved_as}
use Rattle.orders.specs.Free.{IsFree, keys_left}
use Rattle.orders.specs.Looked.{IsGoing, IsWhole}
use Rattle.orders.specs.Missed.{is_late_alone, is_ticks_alone}
use Rattle.orders.specs.Told.{IsCompleteIfShort, IsTold}
use Rattle.renumbering.specs.Alike.{EventKeepsNumbersAlike}
use Rattle.renumbering.specs.Renumbered.{NamesAreThere}
use Rattle.schedules.specs.Alike.{HasClock, IdleTickChangesNothing}
use Rattle.schedules.specs.Coarse.{InterruptsWithinSuffice, Reduced, interrupts}
use Rattle.schedules.specs.Schedules.{ComputesFor}
use Rattle.unixmodel.specs.declared.event.Event.{Event}
use Rattle.unixmodel.specs.declared.event.Event.TheVariants.{Key, Step, Tick}
use Rattle.unixmodel.specs.Calls.{After}
use Rattle.unixmodel.specs.Files.{Files, slot}
use Rattle.unixmodel.specs.Run.{run}
use Rattle.unixmodel.specs.State.{State}

ticks-interrupts : (es : List Event) → ticks_in es ≡ ticks_in (interrupts es)
unfolding interrupts
ticks-interrupts [] = refl
ticks-interrupts (Step ∷ es) = let same = ticks-interrupts es in omega (arith, same)
ticks-interrupts (Tick ∷ es) = let same = ticks-interrupts es in omega (arith, same)
ticks-interrupts (Key b ∷ es) = let same = ticks-interrupts es in omega (arith, same)

-- what states that are alike but late show
over-late : {n : ℕ} (keys : List ℕ) (s t : State) → AreLateAlike n s t → IsOver keys t → IsOver keys s
over-late keys s t h (inl ended) = inl (ap is_some (late-halted s t h.alike) ∙ ended)
over-late keys s t h (inr wait) = inr (record {
  idle = idle-same h ∙ wait.idle;
  awake = asleep-same h ∙ wait.awake;
  typed = wait.typed;
})

show-late : {n : ℕ} (a b : After) → GoLateAlike n a b → ShowSame b a
show-late a b h = record {
  bytes = sym h.bytes;
  status = sym (late-halted a.state b.state h.states.alike);
  files = λ n within. ap (λ (f : Files). saved_as (slot f n)) (sym (late-files a.state b.state h.states.alike));
}

module _ (b : Bounds) (m : Missed) (keys : List ℕ) (s : State) (seen : List Path) (told : List Outcome)
    (law : EventKeepsNumbersAlike) (idle : IdleTickChangesNothing) (up : s.halted ≡ None) (names : NamesAreThere s)
    (whole : IsWhole b m keys s seen [] told) (clock : HasClock s) (all_ticks : m.ticks ≡ false)
    (go_late : EventKeepsLateAlike) (late : LateTickChangesNothing) (awake : is_anyone_asleep s ≡ false) where
  itself : AreLateAlike 0 s s
  itself = record {
    alike = refl;
    first = clock;
    second = clock;
    within = awake-within s awake;
    other_within = awake-within s awake;
  }

  -- what a coarse list shows
  module _ (es : List Event) (free : IsFree keys s es) (few : ticks_in es < 2 ^ 32)
      (r : Reduced (ComputesFor b.spin) s es) (over : IsOver (keys_left keys es) (run s es).state) where
    coarse-few : 0 + ticks_in r.coarse < 2 ^ 32
    coarse-few =
        let same : ticks_in r.coarse ≡ ticks_in es =
        ticks-interrupts r.coarse ∙ ap ticks_in r.same ∙ sym (ticks-interrupts es) in
        omega (arith, same, few)

    prompted : Prompted b.spin keys (0 + ticks_in r.coarse) s s r.coarse
    prompted = prompts b.spin go_late late r.coarse keys 0 s s itself coarse-few up
        (λ fs free coarse prompt. coarse-quiet b m keys s seen told law idle up names whole clock fs free
        (record { few = λ on. absurd (let off = all_ticks in cc); prompt = λ on. prompt }) coarse)
        (by-free keys s r.coarse (subst (FreeBy keys) (sym r.meet) (free-by keys s es free))) r.placed

    left-same : keys_left keys prompted.prompt ≡ keys_left keys es
    left-same = prompted.left ∙ left-interrupts keys r.coarse ∙ ap (λ is. keys_left keys is) r.same
        ∙ sym (left-interrupts keys es)

    over-prompt : IsOver (keys_left keys prompted.prompt) (run s prompted.prompt).state
    over-prompt = subst (λ ks. IsOver ks (run s prompted.prompt).state) (sym left-same)
        (over-late (keys_left keys es) (run s prompted.prompt).state (run s r.coarse).state prompted.shows.states
        (over-shown (keys_left keys es) (run s es).state (run s r.coarse).state (sym r.shows.state) over))

    short-told : IsTold s told (run s es)
    short-told =
        told-same s told (run s es) (run s r.coarse) (show-same (run s r.coarse) (run s es) r.shows)
        (told-same s told (run s r.coarse) (run s prompted.prompt)
        (show-late (run s prompted.prompt) (run s r.coarse) prompted.shows)
        (coarse-told b m keys s seen told law idle up names whole clock prompted.prompt prompted.free
        (record {
          few = λ on. absurd (let off = all_ticks in cc);
          prompt = λ on. prompted.never_late;
        })
        prompted.coarse over-prompt))

record LateAlone (m : Missed) : Type 0 where
  ticks : m.ticks ≡ false
  alone : is_ticks_alone m ≡ true

late-of : (t s u p : Bool) → not (t || s || u || p) ≡ true → (t ≡ false) × (not (s || u || p) ≡ true)
late-of true s u p h = absurd cc
late-of false true u p h = absurd cc
late-of false false true p h = absurd cc
late-of false false false true h = absurd cc
late-of false false false false h = (refl, refl)

late-alone : (m : Missed) → is_late_alone m ≡ true → LateAlone m
late-alone m h =
    let parts = late-of m.ticks m.states m.uptime m.stopped h in
    record { ticks = parts.0; alone = parts.1 }

-- the search is at its end
pub all-short : (b : Bounds) (keys : List ℕ) (s : State) (seen todo : List Path) (told : List Outcome) (m n : Missed)
    → EventKeepsNumbersAlike → IdleTickChangesNothing → InterruptsWithinSuffice → s.halted ≡ None → HasClock s
    → NamesAreThere s → EventKeepsLateAlike → LateTickChangesNothing
    → IsGoing b keys s seen todo told m → (is_ticks_alone n ≡ true → todo ≡ []) → (is_ticks_alone n ≡ true → n ≡ m)
    → is_late_alone n ≡ true → IsCompleteIfShort keys s told
all-short b keys s seen todo told m n law idle suffice up clock names go_late late h none same only awake es ending
    few =
    let alone = late-alone n only in
    let kept = same alone.alone in
    short-told b m keys s seen told law idle up names
    (subst (λ ps. IsWhole b m keys s seen ps told) (none alone.alone)
    (h.whole (subst (λ (k : Missed). is_ticks_alone k ≡ true) kept alone.alone)))
    clock (ap (λ (k : Missed). k.ticks) (sym kept) ∙ alone.ticks) go_late late awake es ending.free few
    (suffice b.spin s es up) ending.over
