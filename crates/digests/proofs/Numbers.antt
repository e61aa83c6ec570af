-- What goes into a digest without the numbers of open files and pipes.
use Rattle.digests.specs.Digest.{bare, bare_state, by_clock, digest_but_numbers, file_mixed, files_mixed, flag}
use Rattle.digests.specs.Digest.{holder_mixed, holders_mixed, mixed, named_mixed, names_mixed, numberless_but_files}
use Rattle.digests.specs.Digest.{NumbersStayOut, each, mix, on_mixed, pipe_mixed, processes_digest}
use Rattle.renumbering.proofs.Slots.{slot-map}
use Rattle.renumbering.specs.Renumbered.{IsRenumbered, Renumbering, file_moved, places_moved, process_moved}
use Rattle.renumbering.specs.Renumbered.{target_moved}
use Rattle.schedules.specs.Alike.{process_set_back, state_set_back, timeless}
use Rattle.std.proofs.Common.{[], ap, ap₂, List, map, None, Option, refl, Some, suc, sym, zero, ℕ, ◌∙◌, ◌∷◌, ◌≡◌}
use Rattle.std.specs.Prelude.{option_map}
use Rattle.unixmodel.specs.Files.{slot}
use Rattle.unixmodel.specs.OpenFiles.{OpenFile, Target}
use Rattle.unixmodel.specs.OpenFiles.End.{ReadEnd, WriteEnd}
use Rattle.unixmodel.specs.OpenFiles.Target.{OnNode, OnPipe}
use Rattle.unixmodel.specs.Process as unix
use Rattle.unixmodel.specs.State.{State, process_at}

-- ---- steps that do the same

each-same : (step other : ℕ → ℕ → ℕ) (n digest : ℕ) → ((d i : ℕ) → step d i ≡ other d i)
    → each step n digest ≡ each other n digest
unfolding each
each-same step other zero digest same = refl
each-same step other (suc n) digest same =
    ap (λ d. step d n) (each-same step other n digest same) ∙ same (each other n digest) n

-- ---- a clock that is set back

named-timeless : (s : State) (d : ℕ) (o : Option ℕ) → named_mixed (timeless s) d o ≡ named_mixed s d o
unfolding state_set_back
named-timeless s d None = refl
named-timeless s d (Some id) = refl

names-timeless : (s : State) (d : ℕ) (os : List (Option ℕ)) → names_mixed (timeless s) d os ≡ names_mixed s d os
names-timeless s d [] = refl
names-timeless s d (o ∷ os) = names-timeless s (named_mixed (timeless s) d o) os
    ∙ ap (λ e. names_mixed s e os) (named-timeless s d o)

holder-timeless : (s : State) (d : ℕ) (o : Option unix.Process)
    → holder_mixed (timeless s) d (option_map (process_set_back s.ticks) o) ≡ holder_mixed s d o
holder-timeless s d None = refl
holder-timeless s d (Some p) = names-timeless s d p.descriptors

at-timeless : (s : State) (i : ℕ)
    → process_at (timeless s) i ≡ option_map (process_set_back s.ticks) (process_at s i)
unfolding state_set_back
at-timeless s i = slot-map (process_set_back s.ticks) s.places i

holders-timeless : (s : State) (d : ℕ) → holders_mixed (timeless s) d ≡ holders_mixed s d
unfolding holders_mixed
holders-timeless s d = each-same _ _ 64 d (λ e i.
    ap (holder_mixed (timeless s) e) (at-timeless s i) ∙ holder-timeless s e (process_at s i))

pub timeless-done : {ticks digest now : ℕ} (s : State) → ticks ≡ s.ticks
    → digest ≡ processes_digest (by_clock (Some ticks) s) → now ≡ holders_mixed s digest
    → now ≡ numberless_but_files (timeless s)
unfolding numberless_but_files
timeless-done {digest = digest} s ticks_is is told =
    told
    ∙ ap (holders_mixed s) (is ∙ ap (λ n. processes_digest (by_clock (Some n) s)) ticks_is)
    ∙ sym (holders-timeless s (processes_digest (by_clock (Some s.ticks) s)))

-- ---- other numbers

itself : (o : Option (List ℕ)) → option_map (λ bytes. bytes) o ≡ o
itself None = refl
itself (Some bytes) = refl

bare-moved : (r : Renumbering) (xs : List (Option unix.Process))
    → map (option_map bare) (places_moved r xs) ≡ map (option_map bare) xs
bare-moved r [] = refl
bare-moved r (None ∷ xs) = ap (λ (ys : List (Option unix.Process)). None ∷ ys) (bare-moved r xs)
bare-moved r (Some p ∷ xs) = ap (λ (ys : List (Option unix.Process)). Some (bare p) ∷ ys) (bare-moved r xs)

module _ (s t : State) (other : IsRenumbered s t) where
  bare-state : bare_state t ≡ bare_state s
  unfolding bare_state
  bare-state = ap bare_state other.rest
      ∙ ap (λ (ps : List (Option unix.Process)). record s { places = ps; opens = []; pipes = [] })
      (bare-moved other.files s.places)

  on-moved : (d : ℕ) (target : Target)
      → on_mixed t.pipes d (target_moved other.pipes target) ≡ on_mixed s.pipes d target
  on-moved d (OnNode n offset) = refl
  on-moved d (OnPipe q ReadEnd) =
      ap (pipe_mixed (mix d 2)) (other.pipes_moved.holds q ∙ itself (slot s.pipes q))
  on-moved d (OnPipe q WriteEnd) =
      ap (pipe_mixed (mix d 3)) (other.pipes_moved.holds q ∙ itself (slot s.pipes q))

  file-moved : (d : ℕ) (o : Option OpenFile)
      → file_mixed t.pipes d (option_map (file_moved other.pipes) o) ≡ file_mixed s.pipes d o
  file-moved d None = refl
  file-moved d (Some f) =
      ap (λ e. mixed e (flag f.readable ∷ flag f.writable ∷ [])) (on-moved d f.target)

  named-moved : (d : ℕ) (o : Option ℕ)
      → named_mixed t d (option_map other.files.there o) ≡ named_mixed s d o
  named-moved d None = refl
  named-moved d (Some id) =
      ap (file_mixed t.pipes d) (other.opens_moved.holds id) ∙ file-moved d (slot s.opens id)

  names-moved : (d : ℕ) (os : List (Option ℕ))
      → names_mixed t d (map (option_map other.files.there) os) ≡ names_mixed s d os
  names-moved d [] = refl
  names-moved d (o ∷ os) = names-moved (named_mixed t d (option_map other.files.there o)) os
      ∙ ap (λ e. names_mixed s e os) (named-moved d o)

  holder-moved : (d : ℕ) (o : Option unix.Process)
      → holder_mixed t d (option_map (process_moved other.files) o) ≡ holder_mixed s d o
  holder-moved d None = refl
  holder-moved d (Some p) = names-moved d p.descriptors

  at-moved : (i : ℕ) → process_at t i ≡ option_map (process_moved other.files) (process_at s i)
  at-moved i = ap (λ (u : State). process_at u i) other.rest
      ∙ slot-map (process_moved other.files) s.places i

  holders-moved : (d : ℕ) → holders_mixed t d ≡ holders_mixed s d
  unfolding holders_mixed
  holders-moved d = each-same _ _ 64 d (λ e i.
      ap (holder_mixed t e) (at-moved i) ∙ holder-moved e (process_at s i))

  but-numbers : digest_but_numbers s ≡ digest_but_numbers t
  unfolding digest_but_numbers numberless_but_files
  but-numbers = ap₂ (λ d files. files_mixed d files)
      (sym (holders-moved (processes_digest (bare_state s)))
      ∙ ap (λ (u : State). holders_mixed t (processes_digest u)) (sym bare-state))
      (sym (ap (λ (u : State). u.files) other.rest))

pub numbers-out : NumbersStayOut
numbers-out s t other = but-numbers s t other
