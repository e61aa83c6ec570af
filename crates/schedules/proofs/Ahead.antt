-- A state in which processes are some computing steps ahead.
use Rattle.std.proofs.Common.{[], ap, inl, List, map, None, Option, refl, Some, subst}
use Rattle.std.proofs.Common.{suc, sym, true, zero, ℕ, ◌∙◌, ◌∷◌, ◌≡◌, ◌≢◌}
use Rattle.std.specs.Prelude.{option_map, ◌⊎◌}
use Rattle.schedules.proofs.Computing.{computed-holds, effect_on, for-pages, held_for, held_next}
use Rattle.schedules.proofs.Holding.{IsAside, reworked_all, runs-else}
use Rattle.schedules.proofs.Steps.{changed}
use Rattle.schedules.proofs.Views.{map_at, slot-at}
use Rattle.schedules.specs.Coarse.{nothing, shown}
use Rattle.schedules.specs.Holding.{Held, held, holding, reworked}
use Rattle.schedules.specs.Schedules.{computed, computes, computes_as, computes_in, is_done}
use Rattle.unixmodel.specs.Next.{effect_of}
use Rattle.unixmodel.specs.Process.{Process}
use Rattle.unixmodel.specs.State.{State, change_process, process_at, running}
use Rattle.unixmodel.specs.declared.process.Mode.{Mode}
use Rattle.unixmodel.specs.declared.process.Mode.TheVariants.{Ready, Running, Waiting, Zombie}

-- ---- one process

-- each of n instructions is done
unfoldable pub Computes : ℕ → Held → Type 0
Computes zero h = Unit {0}
Computes (suc n) h = (is_done (effect_on h) ≡ true) × Computes n (held_next h)

-- and so is one more
pub computes-more : (n : ℕ) (h : Held) → Computes n h → is_done (effect_on (held_for n h)) ≡ true → Computes (suc n) h
unfolding Computes held_for
computes-more zero h all done = (done, tt)
computes-more (suc n) h all done = (all.0, computes-more n (held_next h) all.1 done)

next-last : (n : ℕ) (h : Held) → held_next (held_for n h) ≡ held_for (suc n) h
unfolding held_for
next-last zero h = refl
next-last (suc n) h = next-last n (held_next h)

-- ---- all processes: those in slot n are k n steps ahead

abbrev pub ahead : (ℕ → ℕ) → State → State
ahead k s = reworked_all (λ n. held_for (k n)) s

-- the count of a slot set
unfoldable pub with_count : ℕ → ℕ → (ℕ → ℕ) → ℕ → ℕ
with_count zero m k zero = m
with_count zero m k (suc n) = k (suc n)
with_count (suc r) m k zero = k zero
with_count (suc r) m k (suc n) = with_count r m (λ n. k (suc n)) n

pub count-here : (r m : ℕ) (k : ℕ → ℕ) → with_count r m k r ≡ m
unfolding with_count
count-here zero m k = refl
count-here (suc r) m k = count-here r m (λ n. k (suc n))

pub count-elsewhere : (r m : ℕ) (k : ℕ → ℕ) (n : ℕ) → n ≢ r → with_count r m k n ≡ k n
unfolding with_count
count-elsewhere zero m k zero apart = absurd (apart refl)
count-elsewhere zero m k (suc n) apart = refl
count-elsewhere (suc r) m k zero apart = refl
count-elsewhere (suc r) m k (suc n) apart = count-elsewhere r m (λ n. k (suc n)) n (λ e. apart (ap suc e))

-- ---- a step that is made ahead, and one that is made up for

computed-ahead : (n : ℕ) (o : Option Process)
    → option_map computed (option_map (reworked (held_for n)) o) ≡ option_map (reworked (held_for (suc n))) o
computed-ahead n None = refl
computed-ahead n (Some p) =
    ap Some (computed-holds (reworked (held_for n) p) ∙ ap (λ h. holding h p) (next-last n (held p)))

places-ahead : (k : ℕ → ℕ) (r : ℕ) (ps : List (Option Process))
    → changed computed r (map_at (λ n. reworked (held_for (k n))) ps)
    ≡ map_at (λ n. reworked (held_for (with_count r (suc (k r)) k n))) ps
unfolding with_count
places-ahead k r [] = refl
places-ahead k zero (o ∷ ps) =
    ap (λ u. u ∷ map_at (λ n. reworked (held_for (k (suc n)))) ps) (computed-ahead (k 0) o)
places-ahead k (suc r) (o ∷ ps) =
    ap (λ qs. option_map (reworked (held_for (k 0))) o ∷ qs) (places-ahead (λ n. k (suc n)) r ps)

pub goes-ahead : (k : ℕ → ℕ) (s : State) (r : ℕ)
    → change_process (ahead k s) r computed ≡ ahead (with_count r (suc (k r)) k) s
unfolding reworked_all
goes-ahead k s r = ap (λ (ps : List (Option Process)). record s { places = ps }) (places-ahead k r s.places)

made-up : (m n : ℕ) (o : Option Process) → m ≡ suc n
    → option_map (reworked (held_for m)) o ≡ option_map (reworked (held_for n)) (option_map computed o)
unfolding held_for
made-up m n None is = refl
made-up m n (Some p) is =
    ap (λ c. Some (reworked (held_for c) p)) is
    ∙ sym (ap (λ q. Some (reworked (held_for n) q)) (computed-holds p))

places-made-up : (k : ℕ → ℕ) (r m : ℕ) (ps : List (Option Process)) → k r ≡ suc m
    → map_at (λ n. reworked (held_for (k n))) ps
    ≡ map_at (λ n. reworked (held_for (with_count r m k n))) (changed computed r ps)
unfolding with_count
places-made-up k r m [] is = refl
places-made-up k zero m (o ∷ ps) is =
    ap (λ u. u ∷ map_at (λ n. reworked (held_for (k (suc n)))) ps) (made-up (k 0) m o is)
places-made-up k (suc r) m (o ∷ ps) is =
    ap (λ qs. option_map (reworked (held_for (k 0))) o ∷ qs) (places-made-up (λ n. k (suc n)) r m ps is)

pub makes-up : (k : ℕ → ℕ) (s : State) (r m : ℕ) → k r ≡ suc m
    → ahead k s ≡ ahead (with_count r m k) (change_process s r computed)
unfolding reworked_all
makes-up k s r m is = ap (λ (ps : List (Option Process)). record s { places = ps }) (places-made-up k r m s.places is)

-- ---- what is so of a state ahead

pub at-ahead : (k : ℕ → ℕ) (s : State) (n : ℕ)
    → process_at (ahead k s) n ≡ option_map (reworked (held_for (k n))) (process_at s n)
unfolding reworked_all
at-ahead k s n = slot-at (λ n. reworked (held_for (k n))) s.places n

pub halted-ahead : (k : ℕ → ℕ) (s : State) → (ahead k s).halted ≡ s.halted
unfolding reworked_all
halted-ahead k s = refl

shown-places : (change : ℕ → Held → Held) (ps : List (Option Process))
    → map (option_map (holding nothing)) (map_at (λ n. reworked (change n)) ps)
    ≡ map (option_map (holding nothing)) ps
shown-places change [] = refl
shown-places change (None ∷ ps) = ap (λ qs. None ∷ qs) (shown-places (λ n. change (suc n)) ps)
shown-places change (Some p ∷ ps) = ap (λ qs. Some (holding nothing p) ∷ qs) (shown-places (λ n. change (suc n)) ps)

pub shown-ahead : (k : ℕ → ℕ) (s : State) → shown (ahead k s) ≡ shown s
unfolding reworked_all shown
shown-ahead k s =
    ap (λ (ps : List (Option Process)). record s { places = ps }) (shown-places (λ n. held_for (k n)) s.places)

-- whether the process that runs computes
pub computes-here : (s : State) (r : ℕ) (p : Process) → running s ≡ Some r → process_at s r ≡ Some p
    → computes s ≡ is_done (effect_on (held p))
unfolding computes effect_of
computes-here s r p runs at = ap (computes_in s) runs ∙ ap computes_as at

pub computes-ahead : (k : ℕ → ℕ) (s : State) (r : ℕ) (p : Process) → running s ≡ Some r → process_at s r ≡ Some p
    → computes (ahead k s) ≡ is_done (effect_on (held_for (k r) (held p)))
computes-ahead k s r p runs at =
    computes-here (ahead k s) r (reworked (held_for (k r)) p) (runs-else (λ n. held_for (k n)) s ∙ runs)
    (at-ahead k s r ∙ ap (option_map (reworked (held_for (k r)))) at)

-- ---- who may be ahead

-- A process that is ahead by m steps is ready, or is the one that runs, or has ended.
abbrev pub MayBeAhead : ℕ → Option ℕ → ℕ → Mode → Type 0
MayBeAhead m runs n Running = (m ≡ 0) ⊎ (runs ≡ Some n)
MayBeAhead m runs n Ready = Unit {0}
MayBeAhead m runs n (Waiting w) = m ≡ 0
MayBeAhead m runs n (Zombie status) = Unit {0}

-- the steps that it is ahead by are computing steps
abbrev pub IsAheadAt : ℕ → Option ℕ → ℕ → Option Process → Type 0
IsAheadAt m runs n None = m ≡ 0
IsAheadAt m runs n (Some p) = Computes m (held p) × MayBeAhead m runs n p.mode

abbrev pub IsAhead : (ℕ → ℕ) → State → Type 0
IsAhead k s = (n : ℕ) → IsAheadAt (k n) (running s) n (process_at s n)

-- none is ahead
none-mode : (m : ℕ) (runs : Option ℕ) (n : ℕ) (mode : Mode) → m ≡ 0 → MayBeAhead m runs n mode
none-mode m runs n Running none = inl none
none-mode m runs n Ready none = tt
none-mode m runs n (Waiting w) none = none
none-mode m runs n (Zombie status) none = tt

none-computes : (m : ℕ) (h : Held) → m ≡ 0 → Computes m h
unfolding Computes
none-computes zero h none = tt
none-computes (suc m) h none = absurd cc

pub none-at : (m : ℕ) (runs : Option ℕ) (n : ℕ) (o : Option Process) → m ≡ 0 → IsAheadAt m runs n o
none-at m runs n None none = none
none-at m runs n (Some p) none = (none-computes m (held p) none, none-mode m runs n p.mode none)

pub none-ahead : (s : State) → IsAhead (λ n. 0) s
none-ahead s n = none-at 0 (running s) n (process_at s n) refl

places-level : (ps : List (Option Process)) → map_at (λ n. reworked (held_for 0)) ps ≡ ps
unfolding held_for
places-level [] = refl
places-level (None ∷ ps) = ap (λ qs. None ∷ qs) (places-level ps)
places-level (Some p ∷ ps) = ap (λ qs. Some p ∷ qs) (places-level ps)

pub level : (s : State) → ahead (λ n. 0) s ≡ s
unfolding reworked_all
level s = ap (λ (ps : List (Option Process)). record s { places = ps }) (places-level s.places)

-- who is no step ahead holds what it held
level-at : (m : ℕ) (h : Held) → m ≡ 0 → held_for m h ≡ h
unfolding held_for
level-at zero h none = refl
level-at (suc m) h none = absurd cc

pub aside-ahead : (k : ℕ → ℕ) (s : State) (acts : Option ℕ) → IsAhead k s → ((n : ℕ) → acts ≡ Some n → k n ≡ 0)
    → IsAside (λ n. held_for (k n)) s acts
aside-ahead k s acts may level = record {
  pages = λ n. for-pages (k n);
  acting = λ n is h. level-at (k n) h (level n is);
  free = λ n free h. level-at (k n) h (subst (IsAheadAt (k n) (running s) n) free (may n));
}
