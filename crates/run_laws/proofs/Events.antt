-- What an event leaves in the slot of a process that doesn't run, and which slot was picked last after it.
use Rattle.run_laws.proofs.Common.{cases_eq, cases_lt, range_with_len, same_Some, State, place_limit, Call, Pending}
use Rattle.run_laws.proofs.Common.{Done, Ends, Refused, Waits, Process, arg, with_answer, with_mode, change_process}
use Rattle.run_laws.proofs.Common.{process_at, put_process, position-Some, Event, Key, Step, Tick, is_running, holds}
use Rattle.run_laws.proofs.Common.{running, IsLeft}
use Rattle.std.proofs.Common.{◌%◌, ◌+◌, ◌-◌, ◌<◌, ap, arith, Bool, Err, false, inl, inr, map, None, Ok, Option, refl}
use Rattle.std.proofs.Common.{Some, subst, suc, sym, true, zero, ℕ, ℤ, ◌∙◌, ◌≡◌, ◌≢◌, ◌≤◌}
use Rattle.std.specs.Prelude.{find, if◌then◌else◌, negsuc, unwrap_or}
use Rattle.unixmodel.specs.Calls.{After, call_of, end_at, end_if_killed, entered, outcome_of, quiet, row, settle, call}
use Rattle.unixmodel.specs.Calls.{resume}
use Rattle.unixmodel.specs.Next.{acted, execute_at, is_ecall, pick, picked, picked_in, step, stopped, take_turn}
use Rattle.unixmodel.specs.Next.{trapped, effect_of, execute, next}
use Rattle.unixmodel.specs.Outcome.{Outcome, end_process}
use Rattle.unixmodel.specs.Run.{picked_by, picked_unless}
use Rattle.unixmodel.specs.Turn.{ready, is_ready, round_from, turn}
use Rattle.unixmodel.specs.declared.process.Mode.TheVariants.{Ready, Running, Waiting}
use Rattle.unixmodel.specs.Numbers.{low}
use Rattle.unixmodel.specs.declared.process.Mode.{Mode}
use Rattle.unixmodel.specs.declared.trap.Cause.{Cause}
use Rattle.unixmodel.specs.Meaning.{Effect}
use Rattle.run_laws.specs.Resting.{LeavesResting}
use Rattle.run_laws.proofs.Others.{end-spares, reap-spares, Passes, Spares, by-test, leaves-then, passed-same}
use Rattle.run_laws.proofs.Others.{same-passed, spares-all, spares-own, spares-passes, Yields, yields-limited}
use Rattle.run_laws.proofs.Table.{goes-on-yields, row-yields}

-- ---- a turn as a way round the slots: how far a slot is from another

-- how many slots a turn goes on from slot l until it comes to slot i: 1 to 64
abbrev pub distance : ℕ → ℕ → ℕ
distance i l = (i + 63 - l) % 64 + 1

-- what a search over numbers from a on finds: the first that passes
record Found (test : ℕ → Bool) (at : ℕ → ℕ) (a j : ℕ) : Type 0 where
  pub number : ℕ
  pub from : a ≤ number
  pub is : at number ≡ j
  pub passes : test (at number) ≡ true
  pub first : (k : ℕ) → a ≤ k → k < number → test (at k) ≡ false

found-here : {test : ℕ → Bool} {at : ℕ → ℕ} {j : ℕ} (a : ℕ) (b : Bool) (rest : Option ℕ) → test (at a) ≡ b
    → (if b then Some (at a) else rest) ≡ Some j → (rest ≡ Some j → Found test at (a + 1) j) → Found test at a j
found-here {at} {j} a true rest e is later =
    record {
      number = a;
      from = omega arith;
      is = same_Some (at a) j is;
      passes = e;
      first = λ k low less. absurd (omega (arith, low, less));
    }
found-here {test} {at} a false rest e is later =
    let next = later is in
    let from : a + 1 ≤ next.number = next.from in
    record {
      number = next.number;
      from = omega (arith, from);
      is = next.is;
      passes = next.passes;
      first = λ k low less. elim (cases_eq k a)
          [ inl same ↦ ap (λ x. test (at x)) same ∙ e | inr other ↦ next.first k (omega (arith, low, other)) less ];
    }

found : (test : ℕ → Bool) (at : ℕ → ℕ) (a n j : ℕ) → find test (map at (range_with_len a n)) ≡ Some j
    → Found test at a j
found test at a zero j is = absurd cc
found test at a (suc n) j is =
    found-here a (test (at a)) (find test (map at (range_with_len (a + 1) n))) refl is
    (λ rest. found test at (a + 1) n j rest)

turned : (s : State) (j : ℕ) → turn s ≡ Some j → Found (ready s) (λ k. (s.last + k) % 64) 1 j
unfolding turn round_from
turned s j picked = found (ready s) (λ k. (s.last + k) % 64) 1 64 j picked

-- The slot that is picked where another one is ready is nearer than that.
pub picked-nearer : (s : State) (i j : ℕ) → s.last < place_limit → i < place_limit → turn s ≡ Some j → ready s i ≡ true
    → j ≢ i → (distance i j < distance i s.last) × (j < place_limit)
picked-nearer s i j last place picked is other =
    let k : ℕ = distance i s.last in
    let here : (s.last + k) % 64 ≡ i = omega arith in
    let first = turned s j picked in
    let m : ℕ = first.number in
    let at : (s.last + m) % 64 ≡ j = first.is in
    let low : 1 ≤ m = first.from in
    let high : m ≤ k = elim (cases_lt k m) [
      | inl less ↦ absurd (let bad : false ≡ true = sym (first.first k (omega arith) less) ∙ ap (ready s) here
          ∙ is in cc)
      | inr le ↦ le
    ] in
    let apart : m ≢ k = λ e. other (sym at ∙ ap (λ x. (s.last + x) % 64) e ∙ here) in
    nearer s.last i m j last place low high apart at
  where
    nearer : (l i m j : ℕ) → l < 64 → i < 64 → 1 ≤ m → m ≤ distance i l → m ≢ distance i l → (l + m) % 64 ≡ j
        → (distance i j < distance i l) × (j < 64)
    nearer l i m j a b c d e f = (omega arith, omega arith)

-- the slot that is picked is ready
pub turn-ready : (s : State) (j : ℕ) → turn s ≡ Some j → ready s j ≡ true
turn-ready s j picked = let first = turned s j picked in ap (ready s) (sym first.is) ∙ first.passes

-- the slot that is picked is one of the 64
pub turn-place : (s : State) (j : ℕ) → turn s ≡ Some j → j < place_limit
turn-place s j picked =
    let first = turned s j picked in
    let at : (s.last + first.number) % 64 ≡ j = first.is in omega arith

-- ---- what a call, an end and an instruction leave in the slots of other processes

spares-refl : (r : ℕ) (s : State) → Spares r s s
spares-refl r s = spares-all refl refl

end_if_killed-spares : (r : ℕ) (s : State) (o : Option Process) → Spares r s (end_if_killed s r o)
end_if_killed-spares r s None = spares-refl r s
end_if_killed-spares r s (Some p) =
    by-test (Spares r s) p.killed _ _ (end-spares s r p (negsuc 0)) (reap-spares (spares-refl r s))

end_at-spares : (r : ℕ) (s : State) (status : ℤ) (o : Option Process) → Spares r s (end_at s r status o)
end_at-spares r s status None = spares-refl r s
end_at-spares r s status (Some p) = end-spares s r p status

changed-spares : (r : ℕ) (s : State) (change : Process → Process) → Spares r s (change_process s r change)
changed-spares r s change = spares-own _ refl refl

settle-passes : (r : ℕ) (s : State) (o : Outcome) → Yields r s o → Passes r s (settle s r o).state
settle-passes r s Refused yields = spares-passes (changed-spares r s _)
settle-passes r s (Done new answer bytes) yields =
    let done = change_process new r (with_answer answer) in
    leaves-then passed-same (leaves-then passed-same yields (changed-spares r new (with_answer answer)))
    (end_if_killed-spares r done (process_at done r))
settle-passes r s (Waits new w) yields =
    leaves-then passed-same yields (reap-spares (changed-spares r new (with_mode (Waiting w))))
settle-passes r s (Ends new status) yields =
    leaves-then passed-same yields (end_at-spares r new status (process_at new r))

outcome-yields : (s : State) (r : ℕ) (p : Process) (o : Option Call) → Yields r s (outcome_of s r p o)
outcome-yields s r p None = tt
outcome-yields s r p (Some number) = yields-limited r s (row s r p number) (row-yields s r p number)

module _ (s : State) (r : ℕ) (p : Process) where
  end-passes : (status : ℤ) → Passes r s (end_process s r p status)
  end-passes status = spares-passes (end-spares s r p status)

  settled : (begun : Process) (o : Outcome) → Yields r (put_process s r begun) o
      → Passes r s (settle (put_process s r begun) r o).state
  settled begun o yields =
      leaves-then same-passed (spares-own (Some begun) refl refl) (settle-passes r (put_process s r begun) o yields)

  call-passes : Passes r s (call s r p).state
  unfolding call
  call-passes = settled (entered p) _
      (outcome-yields (put_process s r (entered p)) r (entered p) (call_of (low (arg (entered p) 7))))

  resume-passes : (w : Pending) → Passes r s (resume s r p w).state
  unfolding resume
  resume-passes w = settled (with_mode Running p) _
      (goes-on-yields (put_process s r (with_mode Running p)) r (with_mode Running p) w w.number)

  -- ---- an instruction

  trapped-passes : (cause : Cause) → Passes r s (trapped s r p cause).state
  trapped-passes cause = by-test (λ (a : After). Passes r s a.state) (is_ecall cause) (call s r p)
      (quiet (end_process s r p (negsuc 0))) call-passes (end-passes (negsuc 0))

  acted-passes : (effect : Effect) → Passes r s (acted s r p effect).state
  acted-passes (Ok d) = spares-passes (spares-own _ refl refl)
  acted-passes (Err t) = trapped-passes t.cause

  execute-passes : Passes r s (execute s r p).state
  unfolding execute
  execute-passes = acted-passes (effect_of p)

  -- ---- a picked process

  picked-in-passes : (mode : Mode) → Passes r s (picked_in s r p mode).state
  picked-in-passes Ready = spares-passes (spares-own _ refl refl)
  picked-in-passes (Waiting w) = resume-passes w
  picked-in-passes _ = spares-passes (spares-refl r s)

  picked-passes : Passes r s (picked s r p).state
  picked-passes =
      by-test (λ (a : After). Passes r s a.state) p.killed (quiet (end_process s r p (negsuc 0)))
      (picked_in s r p p.mode) (end-passes (negsuc 0)) (picked-in-passes p.mode)

-- An event that picks this slot, or none: it is the slot picked last then.
-- Processes that don't run and aren't picked are left.
pub record Takes (s : State) (at : Option ℕ) (t : State) : Type 0 where
  pub last : t.last ≡ unwrap_or at s.last
  pub left : (i : ℕ) (p : Process) → process_at s i ≡ Some p → is_running p ≡ false → at ≢ Some i
      → IsLeft p (process_at t i)

-- nobody is picked; what changes is the process in slot r, which runs
takes-none : {s : State} {r : ℕ} {t : State} → ((p : Process) → process_at s r ≡ Some p → is_running p ≡ true)
    → Passes r s t → Takes s None t
takes-none {s} {r} runs passes = record {
  last = passes.last;
  left = λ i p here still other.
      let apart : i ≢ r = λ e. let both : true ≡ false = sym (runs p (ap (process_at s) (sym e) ∙ here))
      ∙ still in absurd (cc) in
      rw here at (passes.others i apart);
}

takes-nothing : {s t : State} → t.places ≡ s.places → t.last ≡ s.last → Takes s None t
takes-nothing {s} places last = record {
  last = last;
  left = λ i p here still other. subst (IsLeft p)
      (sym (ap (λ xs. process_at (record s { places = xs }) i) places ∙ here)) refl;
}

runs-there : (s : State) (r : ℕ) (p : Process) → running s ≡ Some r → process_at s r ≡ Some p → is_running p ≡ true
runs-there s r p runs here = sym (ap (holds is_running) here)
    ∙ (position-Some (holds is_running) s.places r None runs).1

-- ---- a step of the running process

execute_at-takes : (s : State) (r : ℕ) (o : Option Process) → running s ≡ Some r → process_at s r ≡ o
    → Takes s None (execute_at s r o).state
execute_at-takes s r None runs here = takes-nothing refl refl
execute_at-takes s r (Some p) runs here = takes-none (λ q. runs-there s r q runs) (execute-passes s r p)

-- ---- a turn

pick-takes : (s : State) (j : ℕ) (o : Option Process) → process_at s j ≡ o → ready s j ≡ true
    → Takes s (Some j) (pick s j o).state
pick-takes s j None at is = absurd (let none : false ≡ true = sym (ap (holds (is_ready s)) at) ∙ is in cc)
pick-takes s j (Some p) at is =
    let passes = picked-passes (record s { last = j }) j p in
    record {
      last = passes.last;
      left = λ i q here still other.
          let apart : i ≢ j = λ e. other (ap Some (sym e)) in
          rw here at (passes.others i apart);
    }

take_turn-takes : (s : State) (o : Option ℕ) → turn s ≡ o → Takes s o (take_turn s o).state
take_turn-takes s None is = takes-nothing refl refl
take_turn-takes s (Some j) is = pick-takes s j (process_at s j) refl (turn-ready s j is)

-- ---- the events

step-takes : (s : State) (o : Option ℕ) → running s ≡ o → Takes s (picked_unless s o) (step s o).state
step-takes s None is = take_turn-takes s (turn s) refl
step-takes s (Some r) is = execute_at-takes s r (process_at s r) is refl

stopped-takes : (s : State) (o : Option ℕ) → running s ≡ o → Takes s None (stopped s o)
stopped-takes s None is = takes-nothing refl refl
stopped-takes s (Some r) is = takes-none (λ p. runs-there s r p is) (spares-passes (spares-own _ refl refl))

ticked-takes : (s t : State) (ticks : ℕ) → Takes s None t → Takes s None (record t { ticks = ticks })
ticked-takes s t ticks takes = record { last = takes.last; left = takes.left }

pub next-takes : (s : State) (e : Event) → Takes s (picked_by s e) (next s e).state
unfolding next
next-takes s Step = step-takes s (running s) refl
next-takes s Tick = ticked-takes s (stopped s (running s)) _ (stopped-takes s (running s) refl)
next-takes s (Key k) = takes-nothing refl refl

-- what a process that rests keeps over an event
pub event-rests : LeavesResting
event-rests s i p e = (next-takes s e).left i p
