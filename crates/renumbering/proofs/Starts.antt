-- What is named is there at each start, and stays so.
use Rattle.std.proofs.Common.{List, None, Option, refl, Some, subst, suc, zero, ℕ, ◌∷◌, ◌≡◌}
use Rattle.std.proofs.lemmas.Option.{cond_some}
use Rattle.std.specs.Prelude.{nat_le, option_and_then}
use Rattle.renumbering.proofs.Going.{each-none}
use Rattle.renumbering.proofs.Laws.{renumbered-equivalence, run-renumbered}
use Rattle.renumbering.specs.Renumbered.{AreOpen, EachTaken, IsOnPipeThere, IsThere, NamesAreThere, NamesStayThere}
use Rattle.unixmodel.specs.Counts.{frames_of}
use Rattle.unixmodel.specs.Files.{Files, free_slots, slot}
use Rattle.unixmodel.specs.OpenFiles.{OpenFile}
use Rattle.unixmodel.specs.Outcome.{no_descriptors}
use Rattle.unixmodel.specs.Plan.{Plan, plan_flat}
use Rattle.unixmodel.specs.Process.{Process, descriptor_limit}
use Rattle.unixmodel.specs.Start.{first_process, first_state, flat_descriptors, flat_opens, if_fits, init_plan, start}
use Rattle.unixmodel.specs.Start.{start_flat}
use Rattle.unixmodel.specs.State.{State, open_limit}

-- a slot, and those after it
each-more-slot : {X : Type 0} {P : X → Type 0} {xs : List (Option X)} (x : X) → P x → EachTaken P xs
    → EachTaken P (Some x ∷ xs)
each-more-slot {X = X} {P = P} {xs = xs} x holds each = record { at = by }
  where
    by : (i : ℕ) (y : X) → slot (Some x ∷ xs) i ≡ Some y → P y
    by zero y at = subst P (let same : x ≡ y = cc in same) holds
    by (suc i) y at = each.at i y at

-- process 1 alone
first-there : (files : Files) (blocks frames : ℕ) (opens : List (Option OpenFile)) (p : Process) → AreOpen opens p
    → EachTaken (λ (f : OpenFile). IsOnPipeThere (free_slots open_limit) f.target) opens
    → NamesAreThere (first_state files blocks frames opens p)
first-there files blocks frames opens p named pipes = record {
  descriptors = each-more-slot p named (each-none (AreOpen opens) 63);
  pipes = pipes;
}

started : (make : Plan → State) (o : Option Plan) (s : State) → ((new : Plan) → NamesAreThere (make new))
    → option_and_then (λ new. if_fits (make new)) o ≡ Some s → NamesAreThere s
started make None s there is = absurd cc
started make (Some new) s there is =
    subst NamesAreThere (cond_some (nat_le (frames_of (make new)) (make new).frame_limit) (make new) s is).1 (there new)

starts : (files : Files) (blocks frames : ℕ) (s : State) → start files blocks frames ≡ Some s → NamesAreThere s
unfolding start no_descriptors
starts files blocks frames s is = started _ (init_plan files) s (λ new.
    first-there files blocks frames (free_slots open_limit) (first_process new (free_slots descriptor_limit))
    (each-none (IsThere (free_slots open_limit)) descriptor_limit)
    (each-none (λ (f : OpenFile). IsOnPipeThere (free_slots open_limit) f.target) open_limit)) is

-- descriptors 0, 1 and 2 name open file 0, the console
flat-named : EachTaken (IsThere flat_opens) flat_descriptors
unfolding flat_opens flat_descriptors
flat-named = each-more-slot 0 refl (each-more-slot 0 refl (each-more-slot 0 refl
    (each-none (IsThere flat_opens) 13)))

flat-pipes : EachTaken (λ (f : OpenFile). IsOnPipeThere (free_slots open_limit) f.target) flat_opens
unfolding flat_opens
flat-pipes = each-more-slot _ tt (each-none (λ (f : OpenFile). IsOnPipeThere (free_slots open_limit) f.target) 99)

starts-flat : (bytes : List ℕ) (frames : ℕ) (s : State) → start_flat bytes frames ≡ Some s → NamesAreThere s
unfolding start_flat
starts-flat bytes frames s is = started _ (plan_flat bytes) s
    (λ new. first-there _ _ frames flat_opens (first_process new flat_descriptors) flat-named flat-pipes) is

pub names-stay : NamesStayThere
names-stay = record {
  starts = starts;
  starts_flat = starts-flat;
  stays = λ s events there. (run-renumbered s s events there (renumbered-equivalence.reflexive s)).there;
}
