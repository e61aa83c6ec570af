-- A process that is ahead, and doesn't act in an event, may still be ahead after it.
use Rattle.std.proofs.Common.{[], ap, Bool, cond, false, inl, inr, length, List, map, nat_lt, None, Option}
use Rattle.std.proofs.Common.{refl}
use Rattle.std.proofs.Common.{set, Some, subst, suc, sym, true, zero, ℕ, ℤ, ◌<◌, ◌∙◌, ◌∷◌, ◌≡◌, ◌≢◌}
use Rattle.std.proofs.Common.{arith}
use Rattle.std.proofs.lemmas.Bool.{cases_eq, cases_lt, lt-ltb}
use Rattle.std.proofs.lemmas.List.{get_or-set_other, get_or-set_same, length-set}
use Rattle.std.proofs.lemmas.List.Sums.{fails_before_first, position_or_len_is}
use Rattle.std.proofs.lemmas.Option.{same_Some}
use Rattle.std.specs.List.{position_or_len}
use Rattle.std.specs.Prelude.{if◌then◌else◌, negsuc, option_map, position}
use Rattle.run_laws.proofs.Events.{event-rests}
use Rattle.run_laws.specs.Resting.{IsLeft}
use Rattle.schedules.proofs.Ahead.{Computes, IsAhead, IsAheadAt, MayBeAhead, none-at}
use Rattle.schedules.proofs.Computing.{runner}
use Rattle.schedules.proofs.Ticks.{idle-tick, interrupted, tick-interrupts, written-at}
use Rattle.schedules.specs.Holding.{acting, acts_in_step, held}
use Rattle.unixmodel.specs.Calls.{After, quiet}
use Rattle.unixmodel.specs.Files.{put, slot}
use Rattle.unixmodel.specs.Next.{next, pick, picked, picked_in, step, take_turn, tick}
use Rattle.unixmodel.specs.Outcome.{end_process, orphaned, zombie_of}
use Rattle.unixmodel.specs.Process.{Process, is_running, is_running_mode, with_mode}
use Rattle.unixmodel.specs.Reap.{reap, without_nodes, without_opens, without_pipes}
use Rattle.unixmodel.specs.Run.{picked_unless}
use Rattle.unixmodel.specs.State.{State, holds, process_at, put_process, running}
use Rattle.unixmodel.specs.Turn.{turn}
use Rattle.unixmodel.specs.declared.event.Event.TheVariants.{Step, Tick}
use Rattle.unixmodel.specs.declared.process.Mode.{Mode}
use Rattle.unixmodel.specs.declared.process.Mode.TheVariants.{Ready, Running, Waiting, Zombie}

-- ---- a slot that is written

taken-within : (ps : List (Option Process)) (n : ℕ) (p : Process) → slot ps n ≡ Some p → n < length ps
taken-within [] n p at = absurd cc
taken-within (o ∷ ps) zero p at = omega arith
taken-within (o ∷ ps) (suc n) p at = let less = taken-within ps n p at in omega (arith, less)

-- where none passes, the first that passes once slot n is written is slot n
module _ (ps : List (Option Process)) (none : position (holds is_running) ps ≡ None) where
  all-fail : (k : ℕ) → k < length ps → holds is_running (slot ps k) ≡ false
  all-fail k less = elim (cases_lt (position_or_len (holds is_running) ps) (length ps)) [
    | inl within ↦ absurd (let some : None ≡ Some (position_or_len (holds is_running) ps) = sym none
        ∙ ap (λ b. cond b (Some (position_or_len (holds is_running) ps)) None) (lt-ltb _ _ within) in cc)
    | inr beyond ↦ fails_before_first (holds is_running) ps k None (omega (arith, less, beyond))
  ]

  first-written : (n : ℕ) (p q : Process) → slot ps n ≡ Some p → is_running q ≡ true
      → position (holds is_running) (set ps n (Some q)) ≡ Some n
  first-written n p q at runs =
      let within = taken-within ps n p at in
      let short : n < length (set ps n (Some q)) = subst (λ m. n < m) (sym (length-set ps n (Some q))) within in
      let here : position_or_len (holds is_running) (set ps n (Some q)) ≡ n =
      position_or_len_is (holds is_running) (set ps n (Some q)) n None (omega (arith, short))
      (λ k less. ap (holds is_running) (get_or-set_other ps n k (Some q) None (λ e. absurd (omega (arith, less, e))))
      ∙ all-fail k (omega (arith, less, within)))
      (λ lt. ap (holds is_running) (get_or-set_same ps n (Some q) None within) ∙ runs) in
      ap (λ m. cond (nat_lt m (length (set ps n (Some q)))) (Some m) None) here
      ∙ ap (λ b. cond b (Some n) None) (lt-ltb n (length (set ps n (Some q))) short)

-- ---- a process that is picked

slot-orphaned : (ps : List (Option Process)) (pid n : ℕ) (p q : Process) → slot ps n ≡ Some p
    → slot (put (map (option_map (orphaned pid)) ps) n q) n ≡ Some q
slot-orphaned [] pid n p q at = absurd cc
slot-orphaned (o ∷ ps) pid zero p q at = refl
slot-orphaned (o ∷ ps) pid (suc n) p q at = slot-orphaned ps pid n p q at

ended-at : (s : State) (n : ℕ) (p : Process) (status : ℤ) → process_at s n ≡ Some p
    → process_at (end_process s n p status) n ≡ Some (zombie_of p status)
unfolding end_process reap without_nodes without_pipes without_opens
ended-at s n p status at = slot-orphaned s.places p.pid n p (zombie_of p status) at

-- what it holds stays, and it may be ahead
abbrev pub Stays : ℕ → State → ℕ → Process → Option Process → Type 0
Stays m t n p None = Unit {0}
Stays m t n p (Some q) = (held q ≡ held p) × MayBeAhead m (running t) n q.mode

stays-as : (m : ℕ) (t : State) (n : ℕ) (p : Process) (o : Option Process) (q : Process) → o ≡ Some q
    → (held q ≡ held p) × MayBeAhead m (running t) n q.mode → Stays m t n p o
stays-as m t n p o q is stays = subst (Stays m t n p) (sym is) stays

picked-in-stays : (m : ℕ) (s : State) (n : ℕ) (p : Process) (mode : Mode) → p.mode ≡ mode → running s ≡ None
    → process_at s n ≡ Some p → is_running_mode mode ≡ false → MayBeAhead (suc m) None n mode
    → (let t = (picked_in s n p mode).state in Stays (suc m) t n p (process_at t n))
picked-in-stays m s n p Running is none at idle may = absurd cc
picked-in-stays m s n p Ready is none at idle may =
    let t = put_process s n (with_mode Running p) in
    stays-as (suc m) t n p (process_at t n) (with_mode Running p) (written-at s.places n p (with_mode Running p) at)
    (refl, inr (first-written s.places none n p (with_mode Running p) at refl))
picked-in-stays m s n p (Waiting w) is none at idle may = absurd (let no : suc m ≡ 0 = may in cc)
picked-in-stays m s n p (Zombie status) is none at idle may = stays-as (suc m) s n p (process_at s n) p at
    (refl, subst (MayBeAhead (suc m) (running s) n) (sym is) tt)

picked-stays : (m : ℕ) (s : State) (n : ℕ) (p : Process) → running s ≡ None → process_at s n ≡ Some p
    → is_running p ≡ false → MayBeAhead (suc m) None n p.mode
    → (let t = (picked s n p).state in Stays (suc m) t n p (process_at t n))
picked-stays m s n p none at idle may = either p.killed
  where
    either : (b : Bool)
        → (let t = (if b then quiet (end_process s n p (negsuc 0)) else picked_in s n p p.mode).state in
        Stays (suc m) t n p (process_at t n))
    either true =
        let t = end_process s n p (negsuc 0) in
        stays-as (suc m) t n p (process_at t n) (zombie_of p (negsuc 0)) (ended-at s n p (negsuc 0) at) (refl, tt)
    either false = picked-in-stays m s n p p.mode refl none at idle may

turn-stays : (m : ℕ) (s : State) (n : ℕ) (p : Process) → running s ≡ None → turn s ≡ Some n → process_at s n ≡ Some p
    → is_running p ≡ false → MayBeAhead (suc m) None n p.mode
    → (let t = (next s Step).state in Stays (suc m) t n p (process_at t n))
unfolding next
turn-stays m s n p none turns at idle may =
    subst (λ (a : After). Stays (suc m) a.state n p (process_at a.state n))
    (sym (ap (step s) none ∙ ap (take_turn s) turns ∙ ap (pick s n) at))
    (picked-stays m (record s { last = n }) n p none at idle may)

-- ---- one that isn't picked

left-stays : (m : ℕ) (t : State) (n : ℕ) (p : Process) (o : Option Process) → IsLeft p o
    → is_running p ≡ false → MayBeAhead (suc m) (running t) n p.mode → Stays (suc m) t n p o
left-stays m t n p None left idle may = tt
left-stays m t n p (Some q) left idle may = (
  ap held left,
  subst (MayBeAhead (suc m) (running t) n) (sym (ap (λ (q : Process). q.mode) left)) may,
)

-- whoever runs is no matter to one that doesn't run
may-idle : (m : ℕ) (runs other : Option ℕ) (n : ℕ) (mode : Mode) → is_running_mode mode ≡ false
    → MayBeAhead m runs n mode → MayBeAhead m other n mode
may-idle m runs other n Running idle may = absurd cc
may-idle m runs other n Ready idle may = tt
may-idle m runs other n (Waiting w) idle may = may
may-idle m runs other n (Zombie status) idle may = tt

-- ---- a step in which another acts

runs-first : (s : State) (n : ℕ) (m : ℕ) (mode : Mode) → is_running_mode mode ≡ true
    → MayBeAhead (suc m) (running s) n mode → running s ≡ Some n
runs-first s n m Running runs (inl none) = absurd cc
runs-first s n m Running runs (inr first) = first
runs-first s n m Ready runs may = absurd cc
runs-first s n m (Waiting w) runs may = absurd cc
runs-first s n m (Zombie status) runs may = absurd cc

-- the count of a slot that is taken
abbrev pub count_in : Option Process → ℕ → ℕ
count_in None m = 0
count_in (Some p) m = m

idle-stays : (m : ℕ) (s : State) (n : ℕ) (p : Process) (o : Option ℕ) → running s ≡ o → process_at s n ≡ Some p
    → is_running p ≡ false → MayBeAhead (suc m) (running s) n p.mode
    → (let t = (next s Step).state in Stays (suc m) t n p (process_at t n))
idle-stays m s n p (Some r) runs at idle may =
    let t = (next s Step).state in
    left-stays m t n p (process_at t n)
    (event-rests s n p Step at idle (λ picks. absurd (let none : None ≡ Some n = sym (ap (picked_unless s) runs)
    ∙ picks in cc)))
    idle (may-idle (suc m) (running s) (running t) n p.mode idle may)
idle-stays m s n p None runs at idle may = by-turn (turn s) refl
  where
    unpicked : ((picks : turn s ≡ Some n) → ⊥)
        → Stays (suc m) (next s Step).state n p (process_at (next s Step).state n)
    unpicked apart = left-stays m (next s Step).state n p (process_at (next s Step).state n)
        (event-rests s n p Step at idle (λ picks. apart (sym (ap (picked_unless s) runs) ∙ picks)))
        idle (may-idle (suc m) (running s) (running (next s Step).state) n p.mode idle may)

    by-turn : (o : Option ℕ) → turn s ≡ o
        → Stays (suc m) (next s Step).state n p (process_at (next s Step).state n)
    by-turn None turns = unpicked (λ picks. absurd (let both : None ≡ Some n = sym turns ∙ picks in cc))
    by-turn (Some j) turns = elim (cases_eq j n) [
      | inl same ↦ turn-stays m s n p runs (turns ∙ ap Some same) at idle
          (may-idle (suc m) (running s) None n p.mode idle may)
      | inr other ↦ unpicked (λ picks. other (same_Some j n (sym turns ∙ picks)))
    ]

step-stays : (m : ℕ) (s : State) (n : ℕ) (p : Process) (b : Bool) → is_running p ≡ b → process_at s n ≡ Some p
    → MayBeAhead (suc m) (running s) n p.mode → acting s Step ≢ Some n
    → (let t = (next s Step).state in Stays (suc m) t n p (process_at t n))
unfolding acting
step-stays m s n p true runs at may apart =
    absurd (apart (ap (acts_in_step s) (runs-first s n m p.mode runs may)))
step-stays m s n p false idle at may apart = idle-stays m s n p (running s) refl at idle may

pub still-ahead : (m : ℕ) (s : State) (n : ℕ) (before after : Option Process) → process_at s n ≡ before
    → process_at (next s Step).state n ≡ after → IsAheadAt m (running s) n before
    → (acting s Step ≡ Some n → m ≡ 0)
    → IsAheadAt (count_in after m) (running (next s Step).state) n after
still-ahead m s n before None at now may level = refl
still-ahead zero s n before (Some q) at now may level = none-at 0 (running (next s Step).state) n (Some q) refl
still-ahead (suc m) s n None (Some q) at now may level = absurd (let no : suc m ≡ 0 = may in cc)
still-ahead (suc m) s n (Some p) (Some q) at now may level =
    let t = (next s Step).state in
    let stays : Stays (suc m) t n p (Some q) = subst (Stays (suc m) t n p) now
    (step-stays m s n p (is_running p) refl at may.1 (λ acts. absurd (let no : suc m ≡ 0 = level acts in cc))) in
    (subst (Computes (suc m)) (sym stays.0) may.0, stays.1)

-- ---- an interrupt

other-runs : (m r n : ℕ) (now : Option ℕ) (o : Option Process) → n ≢ r → IsAheadAt m (Some r) n o → IsAheadAt m now n o
other-runs m r n now None apart may = may
other-runs m r n now (Some p) apart may = (may.0, go p.mode may.1)
  where
    go : (mode : Mode) → MayBeAhead m (Some r) n mode → MayBeAhead m now n mode
    go Running (inl none) = inl none
    go Running (inr first) = absurd (apart (sym (same_Some r n first)))
    go Ready may = tt
    go (Waiting w) may = may
    go (Zombie status) may = tt

ready-ahead : (m : ℕ) (runs now : Option ℕ) (n : ℕ) (p : Process) → IsAheadAt m runs n (Some p)
    → IsAheadAt m now n (Some (with_mode Ready p))
ready-ahead m runs now n p may = (may.0, tt)

interrupted-ahead : (k : ℕ → ℕ) (s : State) (r : ℕ) (p : Process) → running s ≡ Some r → process_at s r ≡ Some p
    → IsAhead k s → IsAhead k (interrupted s r p)
interrupted-ahead k s r p runs at may n = elim (cases_eq n r) [
  | inl same ↦
      let now = running (interrupted s r p) in
      let here : IsAheadAt (k r) now r (Some (with_mode Ready p)) =
      ready-ahead (k r) (running s) now r p (subst (IsAheadAt (k r) (running s) r) at (may r)) in
      subst (λ n. IsAheadAt (k n) now n (process_at (interrupted s r p) n)) (sym same)
      (subst (IsAheadAt (k r) now r) (sym (written-at s.places r p (with_mode Ready p) at)) here)
  | inr other ↦
      let now = running (interrupted s r p) in
      subst (IsAheadAt (k n) now n) (sym (get_or-set_other s.places r n (Some (with_mode Ready p)) None other))
      (other-runs (k n) r n now (process_at s n) other
      (subst (λ o. IsAheadAt (k n) o n (process_at s n)) runs (may n)))
]

tick-ahead : (k : ℕ → ℕ) (s : State) (o : Option ℕ) → running s ≡ o → IsAhead k s → IsAhead k (tick s)
tick-ahead k s None none may =
    subst (λ t. IsAhead k t) (sym (idle-tick s none)) (λ n. may n)
tick-ahead k s (Some r) runs may =
    let here = runner s r runs in
    subst (λ t. IsAhead k t) (sym (tick-interrupts s r here.0 runs here.1))
    (interrupted-ahead k s r here.0 runs here.1 may)

pub after-tick : (k : ℕ → ℕ) (s : State) → IsAhead k s → IsAhead k (next s Tick).state
unfolding next
after-tick k s may = tick-ahead k s (running s) refl may
