-- Lists of events that may come, and how many timer interrupts they have, with more events.
use Rattle.std.proofs.Common.{[], ap, arith, List, None, Option, refl, Some, subst}
use Rattle.std.proofs.Common.{suc, sym, true, zero, ℕ, ℤ, ◌+◌, ◌++◌, ◌∙◌, ◌∷◌, ◌≡◌, ◌≤◌}
use Rattle.std.specs.Prelude.{if◌then◌else◌, is_some}
use Rattle.orders.proofs.Alike.{BothAlike, idle-alike, late-alike, runs-alike}
use Rattle.orders.proofs.Runs.{run-goes, run-none, run-stops}
use Rattle.orders.specs.declared.bounds.Bounds.{Bounds}
use Rattle.orders.specs.declared.bounds.Missed.{Missed}
use Rattle.orders.specs.Free.{IsFree, MayCome, keys_after, keys_left}
use Rattle.orders.specs.Looked.{Tries}
use Rattle.orders.specs.Paths.{steps}
use Rattle.orders.specs.Tried.{IsPrompt, IsPromptIn, busy_in, busy_ticks, zero_if_halted}
use Rattle.unixmodel.specs.declared.event.Event.{Event}
use Rattle.unixmodel.specs.declared.event.Event.TheVariants.{Key, Step, Tick}
use Rattle.unixmodel.specs.Calls.{After}
use Rattle.unixmodel.specs.Next.{next}
use Rattle.unixmodel.specs.Run.{UnlessHalted, run}
use Rattle.unixmodel.specs.State.{State}

-- ---- what is left to type

pub left-then : (keys : List ℕ) (es fs : List Event) → keys_left keys (es ++ fs) ≡ keys_left (keys_left keys es) fs
left-then keys [] fs = refl
left-then keys (e ∷ es) fs = left-then (keys_after keys e) es fs

pub left-steps : (keys : List ℕ) (n : ℕ) → keys_left keys (steps n) ≡ keys
left-steps keys zero = refl
left-steps keys (suc n) = left-steps keys n

-- ---- an event may come

-- in a state that is alike the same events may come
pub may-come : (keys : List ℕ) (s t : State) (e : Event) → BothAlike s t → MayCome keys s e → MayCome keys t e
may-come keys s t Step h may = may
may-come keys s t Tick h may = may
may-come keys s t (Key b) h may = (may.0, sym (idle-alike s t h) ∙ may.1)

pub free-first : (keys : List ℕ) (s : State) (e : Event) (es : List Event) → IsFree keys s (e ∷ es)
    → MayCome keys s e
unfolding IsFree
free-first keys s e es h = h.0

pub free-goes : (keys : List ℕ) (s : State) (e : Event) (es : List Event) → (next s e).state.halted ≡ None
    → IsFree keys s (e ∷ es) → IsFree (keys_after keys e) (next s e).state es
unfolding IsFree
free-goes keys s e es goes h =
    subst (UnlessHalted (next s e).state (λ t. IsFree (keys_after keys e) t es)) goes h.1

pub free-none : (keys : List ℕ) (s : State) → IsFree keys s []
unfolding IsFree
free-none keys s = tt

free-ends : (keys : List ℕ) (s : State) (es : List Event) (e : Event) (r : Option ℤ) → (next s e).state.halted ≡ r
    → ((next s e).state.halted ≡ None → IsFree (keys_after keys e) (next s e).state es)
    → UnlessHalted (next s e).state (λ t. IsFree (keys_after keys e) t es) r
free-ends keys s es e (Some status) is rest = tt
free-ends keys s es e None is rest = rest is

-- a list with more events
pub free-then : (keys : List ℕ) (s : State) (es fs : List Event)
    → IsFree keys s es → IsFree (keys_left keys es) (run s es).state fs → IsFree keys s (es ++ fs)
unfolding IsFree
free-then keys s [] fs free more = subst (λ (a : After). IsFree keys a.state fs) (run-none s) more
free-then keys s (d ∷ es) fs free more = (
  free.0,
  free-ends keys s (es ++ fs) d (next s d).state.halted refl (λ goes.
      free-then (keys_after keys d) (next s d).state es fs (free-goes keys s d es goes free)
      (subst (λ (a : After). IsFree (keys_left keys (d ∷ es)) a.state fs) (run-goes s d es goes) more)),
)

pub free-one : (keys : List ℕ) (s : State) (e : Event) → MayCome keys s e → IsFree keys s (e ∷ [])
unfolding IsFree
free-one keys s e may = (may, free-ends keys s [] e (next s e).state.halted refl (λ goes. tt))

pub free-steps : (keys : List ℕ) (s : State) (n : ℕ) → IsFree keys s (steps n)
unfolding IsFree
free-steps keys s zero = tt
free-steps keys s (suc n) = (
  tt,
  free-ends keys s (steps n) Step (next s Step).state.halted refl (λ goes.
      free-steps keys (next s Step).state n),
)

-- ---- how many timer interrupts come while a process runs

goes-at : (s : State) (e : Event) (es : List Event) (h : Option ℤ) → (next s e).state.halted ≡ h
    → (run s (e ∷ es)).state.halted ≡ None → (next s e).state.halted ≡ None
goes-at s e es (Some status) is goes =
    absurd (let same = run-stops s e es (ap is_some is) in
    let ended : (run s (e ∷ es)).state.halted ≡ Some status = ap (λ (a : After). a.state.halted) same ∙ is in cc)
goes-at s e es None is goes = is

pub goes-first : (s : State) (e : Event) (es : List Event) → (run s (e ∷ es)).state.halted ≡ None
    → (next s e).state.halted ≡ None
goes-first s e es goes = goes-at s e es (next s e).state.halted refl goes

busy-goes : (s : State) (e : Event) (es : List Event) → (next s e).state.halted ≡ None
    → busy_ticks s (e ∷ es) ≡ busy_in s e + busy_ticks (next s e).state es
unfolding busy_ticks
busy-goes s e es goes = ap (λ h. busy_in s e + zero_if_halted h (busy_ticks (next s e).state es)) goes

pub busy-then : (s : State) (es fs : List Event) → (run s es).state.halted ≡ None
    → busy_ticks s (es ++ fs) ≡ busy_ticks s es + busy_ticks (run s es).state fs
unfolding busy_ticks
busy-then s [] fs goes =
    let same : busy_ticks s fs ≡ busy_ticks (run s []).state fs =
    ap (λ (a : After). busy_ticks a.state fs) (sym (run-none s)) in omega (arith, same)
busy-then s (d ∷ es) fs goes =
    let first = goes-first s d es goes in
    let on = run-goes s d es first in
    let t = (next s d).state in
    let rest : busy_ticks t (es ++ fs) ≡ busy_ticks t es + busy_ticks (run s (d ∷ es)).state fs =
    busy-then t es fs (subst (λ (a : After). a.state.halted ≡ None) on goes)
    ∙ ap (λ (a : After). busy_ticks t es + busy_ticks a.state fs) (sym on) in
    omega (arith, busy-goes s d (es ++ fs) first, busy-goes s d es first, rest)

pub busy-none : (s : State) → busy_ticks s [] ≡ 0
unfolding busy_ticks
busy-none s = refl

zero-halted : (h : Option ℤ) → zero_if_halted h 0 ≡ 0
zero-halted (Some status) = refl
zero-halted None = refl

pub busy-one : (s : State) (e : Event) → busy_ticks s (e ∷ []) ≡ busy_in s e
unfolding busy_ticks
busy-one s e = omega (arith, zero-halted (next s e).state.halted)

busy-halted : (h : Option ℤ) (n : ℕ) → n ≡ 0 → zero_if_halted h n ≡ 0
busy-halted (Some status) n none = refl
busy-halted None n none = none

pub busy-steps : (s : State) (n : ℕ) → busy_ticks s (steps n) ≡ 0
unfolding busy_ticks
busy-steps s zero = refl
busy-steps s (suc n) =
    omega (arith, busy-halted (next s Step).state.halted _ (busy-steps (next s Step).state n))

-- ---- what is tried

pub record TriedFrom (b : Bounds) (m : Missed) (count : ℕ) (s : State) (es : List Event) : Type 0 where
  pub few : m.ticks ≡ true → (most : ℕ) → b.ticks ≡ Some most → count + busy_ticks s es ≤ most
  pub prompt : m.late ≡ true → IsPrompt s es

pub tried-first : (b : Bounds) (m : Missed) (count : ℕ) (s : State) (e : Event) (es : List Event)
    → TriedFrom b m count s (e ∷ es) → Tries b m count s e
unfolding busy_ticks IsPrompt
tried-first b m count s e es h = record {
  few = λ left most bound. omega (arith, h.few left most bound);
  prompt = λ left. (h.prompt left).0;
}

pub tried-goes : (b : Bounds) (m : Missed) (count : ℕ) (s : State) (e : Event) (es : List Event)
    → (next s e).state.halted ≡ None → TriedFrom b m count s (e ∷ es)
    → TriedFrom b m (count + busy_in s e) (next s e).state es
unfolding IsPrompt
tried-goes b m count s e es goes h = record {
  few = λ left most bound. omega (arith, h.few left most bound, busy-goes s e es goes);
  prompt = λ left. subst (UnlessHalted (next s e).state (λ t. IsPrompt t es)) goes (h.prompt left).1;
}

pub busy-alike : (s t : State) (e : Event) → BothAlike s t → busy_in s e ≡ busy_in t e
busy-alike s t Step h = refl
busy-alike s t Tick h = ap (λ (o : Option ℕ). if is_some o then 1 else 0) (runs-alike s t h)
busy-alike s t (Key b) h = refl

prompt-alike : (s t : State) (e : Event) → BothAlike s t → IsPromptIn s e → IsPromptIn t e
prompt-alike s t Step h prompt = tt
prompt-alike s t Tick h prompt = sym (late-alike s t h) ∙ prompt
prompt-alike s t (Key b) h prompt = tt

-- in a state that is alike, after no more
pub tries-alike : (b : Bounds) (m : Missed) (c d : ℕ) (s t : State) (e : Event) → BothAlike s t → d ≤ c
    → Tries b m c s e → Tries b m d t e
tries-alike b m c d s t e h fewer tries = record {
  few = λ left most bound. omega (arith, tries.few left most bound, busy-alike s t e h, fewer);
  prompt = λ left. prompt-alike s t e h (tries.prompt left);
}
