-- A state with other numbers of open files and pipes goes on as the state does, and what is named stays there.
use Rattle.std.proofs.Common.{[], ap, List, None, Option, refl, Some, subst, sym, ℕ, ℤ, ◌++◌, ◌∙◌, ◌∷◌}
use Rattle.std.proofs.Common.{◌≡◌}
use Rattle.renumbering.proofs.Slots.{each-map, map-itself, map-some, map-then}
use Rattle.renumbering.proofs.Tables.{moved-back, moved-from, moved-itself, moved-then, moved-there, one_then}
use Rattle.renumbering.proofs.Tables.{same_numbers, way_back}
use Rattle.renumbering.proofs.Going.{SeenAfter}
use Rattle.renumbering.proofs.States.{Fits, Seen, View, state_in}
use Rattle.renumbering.proofs.Turns.{computes-in, event-in, ready-in, runs-in, turn-in}
use Rattle.renumbering.specs.Renumbered.{AreRenumbered, EventKeepsRenumbered, IsRenumbered, NamesAreThere}
use Rattle.renumbering.specs.Renumbered.{AreOpen, EachTaken, IsMoved, IsOnPipeThere, Renumbering}
use Rattle.renumbering.specs.Renumbered.{RenumberedIsEquivalence, RenumberedTakeTurnsAlike, RunKeepsRenumbered}
use Rattle.renumbering.specs.Renumbered.{TurnsAreSame}
use Rattle.renumbering.specs.Renumbered.{file_moved, places_moved, process_moved, target_moved}
use Rattle.unixmodel.specs.Calls.{After}
use Rattle.unixmodel.specs.Files.{slot}
use Rattle.unixmodel.specs.Next.{next}
use Rattle.unixmodel.specs.Process.{Process}
use Rattle.unixmodel.specs.OpenFiles.{OpenFile, Target}
use Rattle.unixmodel.specs.OpenFiles.Target.{OnNode, OnPipe}
use Rattle.unixmodel.specs.Run.{after_bytes, followed_by, run}
use Rattle.unixmodel.specs.State.{State}

-- ---- the view of a state that is alike

seen-alike : {s t : State} → NamesAreThere s → IsRenumbered s t → Seen s t
unfolding state_in
seen-alike {s} {t} there alike = record {
  view = record { files = alike.files; pipes = alike.pipes; opens = t.opens; held = t.pipes };
  fits = record { opens = alike.opens_moved; held = alike.pipes_moved; there = there };
  is = alike.rest;
}

alike-in : {v : View} {s : State} → Fits v s → IsRenumbered s (state_in v s)
unfolding state_in
alike-in {v} fits = record {
  files = v.files;
  pipes = v.pipes;
  opens_moved = fits.opens;
  pipes_moved = fits.held;
  rest = refl;
}

alike-seen : {s t : State} → Seen s t → IsRenumbered s t
alike-seen {s} seen = subst (IsRenumbered s) (sym seen.is) (alike-in seen.fits)

after-alike : {a b : After} → SeenAfter a b → AreRenumbered a b
after-alike seen = record { bytes = sym seen.bytes; state = alike-seen seen.state; there = seen.state.fits.there }

-- ---- the same numbers, the way back, and one after the other

same-target : (t : Target) → target_moved same_numbers t ≡ t
same-target (OnNode n offset) = refl
same-target (OnPipe q end) = refl

same-file : (f : OpenFile) → file_moved same_numbers f ≡ f
same-file f = ap (λ (t : Target). record f { target = t }) (same-target f.target)

same-process : (p : Process) → process_moved same_numbers p ≡ p
same-process p = ap (λ (ds : List (Option ℕ)). record p { descriptors = ds })
    (map-itself same_numbers.there (λ k. refl) p.descriptors)

itself : (s : State) → IsRenumbered s s
itself s = record {
  files = same_numbers;
  pipes = same_numbers;
  opens_moved = moved-itself (file_moved same_numbers) same-file s.opens;
  pipes_moved = moved-itself (λ bytes. bytes) (λ bytes. refl) s.pipes;
  rest = ap (λ (ps : List (Option Process)). record s { places = ps })
      (sym (map-itself (process_moved same_numbers) same-process s.places));
}

back-target : (r : Renumbering) (t : Target) → target_moved (way_back r) (target_moved r t) ≡ t
back-target r (OnNode n offset) = refl
back-target r (OnPipe q end) = ap (λ n. OnPipe n end) (r.back_there q)

back-file : (r : Renumbering) (f : OpenFile) → file_moved (way_back r) (file_moved r f) ≡ f
back-file r f = ap (λ (t : Target). record f { target = t }) (back-target r f.target)

back-process : (r : Renumbering) (p : Process) → process_moved (way_back r) (process_moved r p) ≡ p
back-process r p = ap (λ (ds : List (Option ℕ)). record p { descriptors = ds })
    (map-then r.there r.back (λ k. k) r.back_there p.descriptors
    ∙ map-itself (λ k. k) (λ k. refl) p.descriptors)

back-places : (r : Renumbering) (ps : List (Option Process)) → places_moved (way_back r) (places_moved r ps) ≡ ps
back-places r ps = map-then (process_moved r) (process_moved (way_back r)) (λ p. p) (back-process r) ps
    ∙ map-itself (λ p. p) (λ p. refl) ps

back : (s t : State) → IsRenumbered s t → IsRenumbered t s
back s t alike = record {
  files = way_back alike.files;
  pipes = way_back alike.pipes;
  opens_moved = moved-back alike.opens_moved (file_moved (way_back alike.pipes)) (back-file alike.pipes);
  pipes_moved = moved-back alike.pipes_moved (λ bytes. bytes) (λ bytes. refl);
  rest = sym (
      ap (λ (u : State). record u {
        places = places_moved (way_back alike.files) u.places;
        opens = s.opens;
        pipes = s.pipes;
      }) alike.rest
      ∙ ap (λ (ps : List (Option Process)). record s { places = ps }) (back-places alike.files s.places));
}

then-target : (r q : Renumbering) (t : Target) → target_moved q (target_moved r t) ≡ target_moved (one_then r q) t
then-target r q (OnNode n offset) = refl
then-target r q (OnPipe u end) = refl

then-file : (r q : Renumbering) (f : OpenFile) → file_moved q (file_moved r f) ≡ file_moved (one_then r q) f
then-file r q f = ap (λ (t : Target). record f { target = t }) (then-target r q f.target)

then-process : (r q : Renumbering) (p : Process)
    → process_moved q (process_moved r p) ≡ process_moved (one_then r q) p
then-process r q p = ap (λ (ds : List (Option ℕ)). record p { descriptors = ds })
    (map-then r.there q.there (one_then r q).there (λ k. refl) p.descriptors)

both : (s t u : State) → IsRenumbered s t → IsRenumbered t u → IsRenumbered s u
both s t u one two = record {
  files = one_then one.files two.files;
  pipes = one_then one.pipes two.pipes;
  opens_moved = moved-then one.opens_moved two.opens_moved (file_moved (one_then one.pipes two.pipes))
      (then-file one.pipes two.pipes);
  pipes_moved = moved-then one.pipes_moved two.pipes_moved (λ bytes. bytes) (λ bytes. refl);
  rest = two.rest
      ∙ ap (λ (t : State). record t {
        places = places_moved two.files t.places;
        opens = u.opens;
        pipes = u.pipes;
      }) one.rest
      ∙ ap (λ (ps : List (Option Process)). record s { places = ps; opens = u.opens; pipes = u.pipes })
      (map-then (process_moved one.files) (process_moved two.files) (process_moved (one_then one.files two.files))
      (then-process one.files two.files) s.places);
}

-- what is named in the one state is so in the other
on-pipe-there : {r : Renumbering} {xs ys : List (Option (List ℕ))} → IsMoved r (λ bytes. bytes) xs ys → (t : Target)
    → IsOnPipeThere xs t → IsOnPipeThere ys (target_moved r t)
on-pipe-there moved (OnNode n offset) there = tt
on-pipe-there moved (OnPipe q end) there = moved-there moved q ∙ there

there-too : (s t : State) → IsRenumbered s t → NamesAreThere s → NamesAreThere t
there-too s t alike there = record {
  descriptors = subst (EachTaken (AreOpen t.opens)) (sym (ap (λ (u : State). u.places) alike.rest))
      (each-map (process_moved alike.files) (λ p named. each-map alike.files.there
      (λ k taken. moved-there alike.opens_moved k ∙ taken) named) there.descriptors);
  pipes = record {
    at = λ l f at.
        let from = map-some (file_moved alike.pipes) (slot s.opens (alike.files.back l)) f
        (sym (moved-from alike.opens_moved l) ∙ at) in
        subst (λ (f : OpenFile). IsOnPipeThere t.pipes f.target) from.2
        (on-pipe-there alike.pipes_moved (from.0).target
        (there.pipes.at (alike.files.back l) from.0 from.1));
  };
}

pub renumbered-equivalence : RenumberedIsEquivalence
renumbered-equivalence = record {
  reflexive = itself;
  symmetric = back;
  transitive = both;
  there = there-too;
}

-- ---- turns

turns-in : {v : View} {s : State} → Fits v s → TurnsAreSame s (state_in v s)
turns-in fits = record {
  who_runs = sym (runs-in fits);
  who_is_ready = λ i. sym (ready-in fits i);
  whose_turn = sym (turn-in fits);
  who_computes = sym (computes-in fits);
}

pub turns-alike : RenumberedTakeTurnsAlike
turns-alike s t there alike =
    let seen = seen-alike there alike in
    subst (TurnsAreSame s) (sym seen.is) (turns-in seen.fits)

-- ---- the law

pub event-renumbered : EventKeepsRenumbered
event-renumbered s t e there alike =
    let seen = seen-alike there alike in
    subst (λ u. AreRenumbered (next s e) (next u e)) (sym seen.is) (after-alike (event-in seen.fits e))

halted-alike : (s t : State) → IsRenumbered s t → t.halted ≡ s.halted
halted-alike s t alike = ap (λ (u : State). u.halted) alike.rest

followed-alike : (a b : After) (rest : State → After) (h u : Option ℤ) → u ≡ h → AreRenumbered a b
    → AreRenumbered (rest a.state) (rest b.state)
    → AreRenumbered (followed_by a rest h) (followed_by b rest u)
followed-alike a b rest (Some status) u same alike later =
    subst (λ o. AreRenumbered a (followed_by b rest o)) (sym same) alike
followed-alike a b rest None u same alike later =
    subst (λ o. AreRenumbered (after_bytes a.bytes (rest a.state)) (followed_by b rest o)) (sym same) (record {
      bytes = ap (λ x. x ++ (rest a.state).bytes) alike.bytes ∙ ap (λ x. b.bytes ++ x) later.bytes;
      state = later.state;
      there = later.there;
    })

pub run-renumbered : RunKeepsRenumbered
unfolding run
run-renumbered s t [] there alike = record { bytes = refl; state = alike; there = there }
run-renumbered s t (e ∷ events) there alike =
    let one = event-renumbered s t e there alike in
    followed-alike (next s e) (next t e) (λ u. run u events) (next s e).state.halted (next t e).state.halted
    (halted-alike (next s e).state (next t e).state one.state) one
    (run-renumbered (next s e).state (next t e).state events one.there one.state)
