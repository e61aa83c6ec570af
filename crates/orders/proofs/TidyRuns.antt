-- A table of processes is in order at each start, and stays so over each event.
use Rattle.std.proofs.Common.{[], ap, arith, Bool, cond, Err, false, inl, inr, length, List, None, Ok, Option, refl}
use Rattle.std.proofs.Common.{Some, subst, suc, sym, true, zero, ℕ, ℤ, ◌<◌, ◌∙◌, ◌∷◌, ◌≡◌}
use Rattle.std.proofs.lemmas.Bool.{cases_lt, false≢true, lt-ltb}
use Rattle.std.proofs.lemmas.List.Sums.{fails_before_first}
use Rattle.std.proofs.lemmas.Option.{cond_some}
use Rattle.std.specs.List.{position_or_len}
use Rattle.std.specs.Prelude.{if◌then◌else◌, nat_le, negsuc, option_and_then, position, replicate}
use Rattle.orders.proofs.Tidy.{IsMild, TidyAt, end-tidy, goes-on-yields, outcome-yields, settle-tidy, tidy-all}
use Rattle.orders.proofs.Tidy.{tidy-change, tidy-own}
use Rattle.orders.specs.Looked.{IsTurnBack}
use Rattle.orders.specs.Ends.{is_anyone_asleep}
use Rattle.orders.specs.Tidy.{IsTableTidy, StaysTidy}
use Rattle.renumbering.proofs.Starts.{names-stay}
use Rattle.schedules.proofs.Computing.{ready-after, runner}
use Rattle.schedules.proofs.Ticks.{tick-interrupts, written-at}
use Rattle.unixmodel.specs.Calls.{After, call, call_of, entered, goes_on, outcome, quiet, resume}
use Rattle.unixmodel.specs.Counts.{frames_of}
use Rattle.unixmodel.specs.Files.{Files, free_slots, slot}
use Rattle.unixmodel.specs.Meaning.{Effect}
use Rattle.unixmodel.specs.Next.{acted, effect_of, execute, execute_at, is_ecall, next, pick, picked, picked_in}
use Rattle.unixmodel.specs.Next.{process_after, step, stopped, take_turn, trapped}
use Rattle.unixmodel.specs.Numbers.{low}
use Rattle.unixmodel.specs.OpenFiles.{OpenFile}
use Rattle.unixmodel.specs.Outcome.{end_process, no_descriptors}
use Rattle.unixmodel.specs.Plan.{Plan, plan_flat}
use Rattle.unixmodel.specs.Process.{Process, arg, is_running, with_mode}
use Rattle.unixmodel.specs.Run.{followed_by, picked_unless, run}
use Rattle.unixmodel.specs.Start.{first_process, first_state, if_fits, init_plan, start, start_flat}
use Rattle.unixmodel.specs.State.{State, holds, process_at, put_process, running}
use Rattle.unixmodel.specs.Turn.{turn}
use Rattle.unixmodel.specs.declared.event.Event.{Event}
use Rattle.unixmodel.specs.declared.event.Event.TheVariants.{Key, Step, Tick}
use Rattle.unixmodel.specs.declared.process.Mode.{Mode}
use Rattle.unixmodel.specs.declared.process.Mode.TheVariants.{Ready, Running, Waiting, Zombie}
use Rattle.unixmodel.specs.declared.process.Pending.{Pending}
use Rattle.unixmodel.specs.declared.trap.Cause.{Cause}

-- ---- the process in slot r acts

module _ (r : ℕ) (s : State) (p : Process) (at : process_at s r ≡ Some p) (h : TidyAt r s) where
  begun-at : (q : Process) → process_at (put_process s r q) r ≡ Some q
  begun-at q = written-at s.places r p q at

  begun-tidy : (q : Process) → q.pid ≡ p.pid → TidyAt r (put_process s r q)
  begun-tidy q same = tidy-own r s p at h q same

  call-tidy : TidyAt r (call s r p).state
  unfolding call
  call-tidy =
      let begun = begun-tidy (entered p) refl in
      settle-tidy (outcome (put_process s r (entered p)) r (entered p)) begun
      (outcome-yields r (put_process s r (entered p)) (entered p) (begun-at (entered p)) begun
      (call_of (low (arg (entered p) 7))))

  resume-tidy : (w : Pending) → TidyAt r (resume s r p w).state
  unfolding resume
  resume-tidy w =
      let begun = begun-tidy (with_mode Running p) refl in
      settle-tidy (goes_on (put_process s r (with_mode Running p)) r (with_mode Running p) w w.number) begun
      (goes-on-yields r (put_process s r (with_mode Running p)) (with_mode Running p) (begun-at (with_mode Running p))
      begun w w.number)

  ended : TidyAt r (end_process s r p (negsuc 0))
  ended = end-tidy p (negsuc 0) at h

  trapped-tidy : (c : Cause) → TidyAt r (trapped s r p c).state
  trapped-tidy c = by (is_ecall c)
    where
      by : (b : Bool) → TidyAt r (if b then call s r p else quiet (end_process s r p (negsuc 0))).state
      by true = call-tidy
      by false = ended

  acted-tidy : (effect : Effect) → TidyAt r (acted s r p effect).state
  acted-tidy (Ok d) = begun-tidy (process_after p d) refl
  acted-tidy (Err t) = trapped-tidy t.cause

  execute-tidy : TidyAt r (execute s r p).state
  unfolding execute
  execute-tidy = acted-tidy (effect_of p)

  -- ---- it is picked

  picked-in-tidy : (mode : Mode) → TidyAt r (picked_in s r p mode).state
  picked-in-tidy Running = h
  picked-in-tidy Ready = begun-tidy (with_mode Running p) refl
  picked-in-tidy (Waiting w) = resume-tidy w
  picked-in-tidy (Zombie status) = h

  picked-tidy : TidyAt r (picked s r p).state
  picked-tidy = by p.killed
    where
      by : (b : Bool)
          → TidyAt r (if b then quiet (end_process s r p (negsuc 0)) else picked_in s r p p.mode).state
      by true = ended
      by false = picked-in-tidy p.mode

-- ---- a step

execute-at-tidy : (s : State) (r : ℕ) (o : Option Process) → process_at s r ≡ o → TidyAt r s
    → TidyAt r (execute_at s r o).state
execute-at-tidy s r None at h = h
execute-at-tidy s r (Some p) at h = execute-tidy r s p at h

-- the slot in which a process runs is the one that was picked last
runs-last : (s : State) (r : ℕ) → IsTableTidy s → running s ≡ Some r → TidyAt r s
runs-last s r h runs =
    let here = runner s r runs in
    record { tidy = h; last = sym (h.runner r here.0 here.1 here.2) }

module _ (ps : List (Option Process)) (none : position (holds is_running) ps ≡ None) where
  within-idle : (i : ℕ) → i < length ps → holds is_running (slot ps i) ≡ false
  within-idle i less = elim (cases_lt (position_or_len (holds is_running) ps) (length ps)) [
    | inl within ↦ absurd (let some : None ≡ Some (position_or_len (holds is_running) ps) = sym none
        ∙ ap (λ b. cond b (Some (position_or_len (holds is_running) ps)) None) (lt-ltb _ _ within) in cc)
    | inr beyond ↦ fails_before_first (holds is_running) ps i None (omega (arith, less, beyond))
  ]

taken-within : (ps : List (Option Process)) (i : ℕ) (p : Process) → slot ps i ≡ Some p → i < length ps
taken-within [] i p at = absurd cc
taken-within (o ∷ ps) zero p at = omega arith
taken-within (o ∷ ps) (suc i) p at = let less = taken-within ps i p at in omega (arith, less)

-- where none runs, no process does
none-runs : (s : State) → running s ≡ None → (i : ℕ) (p : Process) → process_at s i ≡ Some p → is_running p ≡ false
none-runs s none i p at =
    sym (ap (holds is_running) at) ∙ within-idle s.places none i (taken-within s.places i p at)

pick-tidy : (s : State) (i : ℕ) (o : Option Process) → process_at s i ≡ o → running s ≡ None → IsTableTidy s
    → IsTableTidy (pick s i o).state
pick-tidy s i None at none h = h
pick-tidy s i (Some p) at none h =
    (picked-tidy i (record s { last = i }) p at (record {
      tidy = record {
        apart = h.apart;
        below = h.below;
        runner = λ j q there on. absurd (false≢true (sym (none-runs s none j q there) ∙ on));
      };
      last = refl;
    })).tidy

turn-tidy : (s : State) (o : Option ℕ) → running s ≡ None → IsTableTidy s → IsTableTidy (take_turn s o).state
turn-tidy s None none h = h
turn-tidy s (Some i) none h = pick-tidy s i (process_at s i) refl none h

step-tidy : (s : State) (o : Option ℕ) → running s ≡ o → IsTableTidy s → IsTableTidy (step s o).state
step-tidy s None none h = turn-tidy s (turn s) none h
step-tidy s (Some r) runs h = (execute-at-tidy s r (process_at s r) refl (runs-last s r h runs)).tidy

-- ---- the events

ready-mild : (r i : ℕ) → IsMild r i (with_mode Ready)
ready-mild r i = record { pid = λ p. refl; runs = λ p on. absurd cc }

stopped-tidy : (s : State) (o : Option ℕ) → IsTableTidy s → TidyAt s.last (stopped s o)
stopped-tidy s None h = record { tidy = h; last = refl }
stopped-tidy s (Some r) h =
    tidy-change r (with_mode Ready) (ready-mild s.last r) (record { tidy = h; last = refl })

pub next-tidy : (s : State) (e : Event) → IsTableTidy s → IsTableTidy (next s e).state
unfolding next
next-tidy s Step h = step-tidy s (running s) refl h
next-tidy s Tick h = (tidy-all _ (stopped-tidy s (running s) h) refl refl refl).tidy
next-tidy s (Key k) h = (tidy-all _ (record { tidy = h; last = refl }) refl refl refl).tidy

followed-tidy : (a : After) (rest : State → After) (o : Option ℤ) → IsTableTidy a.state
    → IsTableTidy (rest a.state).state
    → IsTableTidy (followed_by a rest o).state
followed-tidy a rest (Some status) here later = here
followed-tidy a rest None here later = later

run-tidy : (s : State) (events : List Event) → IsTableTidy s → IsTableTidy (run s events).state
unfolding run
run-tidy s [] h = h
run-tidy s (e ∷ events) h =
    let here = next-tidy s e h in
    followed-tidy (next s e) (λ t. run t events) (next s e).state.halted here
    (run-tidy (next s e).state events here)

-- ---- the start

none-free : (n i : ℕ) (q : Process) → slot (replicate n None) i ≡ Some q → ⊥
none-free zero i q at = absurd cc
none-free (suc n) zero q at = absurd cc
none-free (suc n) (suc i) q at = none-free n i q at

-- process 1 alone is there
first-alone : (p : Process) (i : ℕ) (q : Process) → slot (Some p ∷ free_slots 63) i ≡ Some q → (i ≡ 0) × (p ≡ q)
unfolding free_slots
first-alone p zero q at = (refl, cc)
first-alone p (suc i) q at = absurd (none-free 63 i q at)

first-tidy : (files : Files) (blocks frames : ℕ) (opens : List (Option OpenFile)) (new : Plan)
    (descriptors : List (Option ℕ))
    → IsTableTidy (first_state files blocks frames opens (first_process new descriptors))
first-tidy files blocks frames opens new descriptors =
    let p = first_process new descriptors in
    record {
      apart = λ i j q u at there same. (first-alone p i q at).0 ∙ sym (first-alone p j u there).0;
      below = λ i q at.
          (let pid : 1 ≡ q.pid = ap (λ (v : Process). v.pid) (first-alone p i q at).1 in omega (arith, pid));
      runner = λ i q at on. absurd (
          let runs : is_running p ≡ true = ap is_running (first-alone p i q at).1 ∙ on in cc);
    }

started : (make : Plan → State) (o : Option Plan) (s : State) → ((new : Plan) → IsTableTidy (make new))
    → option_and_then (λ new. if_fits (make new)) o ≡ Some s → IsTableTidy s
started make None s tidy is = absurd cc
started make (Some new) s tidy is =
    subst IsTableTidy (cond_some (nat_le (frames_of (make new)) (make new).frame_limit) (make new) s is).1 (tidy new)

start-tidy : (files : Files) (blocks frames : ℕ) (s : State) → start files blocks frames ≡ Some s → IsTableTidy s
unfolding start
start-tidy files blocks frames s is =
    started _ (init_plan files) s (λ new. first-tidy files blocks frames _ new no_descriptors) is

start-flat-tidy : (bytes : List ℕ) (frames : ℕ) (s : State) → start_flat bytes frames ≡ Some s → IsTableTidy s
unfolding start_flat
start-flat-tidy bytes frames s is = started _ (plan_flat bytes) s (λ new. first-tidy _ _ frames _ new _) is

pub stays-tidy : StaysTidy
stays-tidy = record {
  starts = λ files blocks frames s is. record {
    table = start-tidy files blocks frames s is;
    names = names-stay.starts files blocks frames s is;
  };
  starts_flat = λ bytes frames s is. record {
    table = start-flat-tidy bytes frames s is;
    names = names-stay.starts_flat bytes frames s is;
  };
  stays = λ s events h. record {
    table = run-tidy s events h.table;
    names = names-stay.stays s events h.names;
  };
}

-- ---- a turn that is given back

module _ (s : State) (h : IsTableTidy s) (i : ℕ) (p : Process) (runs : running s ≡ Some i)
    (at : process_at s i ≡ Some p) where
  last : s.last ≡ i
  last = (runs-last s i h runs).last

  ready : process_at (next s Tick).state i ≡ Some (with_mode Ready p)
  ready = ready-after s i p runs at

  after : IsTableTidy (next s Tick).state
  after = next-tidy s Tick h

  last-after : (next s Tick).state.last ≡ i
  unfolding next
  last-after = ap (λ (t : State). t.last) (tick-interrupts s i p runs at) ∙ last

  -- after the tick nobody runs
  none-after : running (next s Tick).state ≡ None
  none-after = by (running (next s Tick).state) refl
    where
      by : (o : Option ℕ) → running (next s Tick).state ≡ o → o ≡ None
      by None is = refl
      by (Some k) is =
          let who = runner (next s Tick).state k is in
          let here : k ≡ i = after.runner k who.0 who.1 who.2 ∙ last-after in
          let same : Some (with_mode Ready p) ≡ Some who.0 =
          sym ready ∙ ap (process_at (next s Tick).state) (sym here) ∙ who.1 in
          let on : is_running (with_mode Ready p) ≡ is_running who.0 =
          ap (holds is_running) same in
          absurd (false≢true (on ∙ who.2))

  -- where the pid of the process that is picked is that of the one that ran
  pub given-back : p.killed ≡ false → is_anyone_asleep s ≡ false → (j : ℕ) (q : Process)
      → turn (next s Tick).state ≡ Some j → process_at (next s Tick).state j ≡ Some q → q.pid ≡ p.pid
      → IsTurnBack s
  given-back alive awake j q turns there same = record {
    place = i;
    process = p;
    runs = runs;
    there = at;
    alive = alive;
    last = last;
    awake = awake;
    again = ap (picked_unless (next s Tick).state) none-after ∙ turns
        ∙ ap Some (after.apart j i q (with_mode Ready p) there ready same);
  }
