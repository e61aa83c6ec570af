-- A turn, a step, an interrupt and a typed byte, with other numbers of open files and pipes.
use Rattle.std.proofs.Common.{[], ap, Bool, cond, Err, false, length, List, nat_lt, None, Ok, Option, refl, Some}
use Rattle.std.proofs.Common.{subst, sym, true, ℕ, ◌%◌, ◌+◌, ◌^◌, ◌∙◌, ◌∷◌, ◌≡◌}
use Rattle.std.specs.Prelude.{find, if◌then◌else◌, is_some, negsuc, not, option_and_then, option_map, unwrap_or, ◌&&◌}
use Rattle.std.specs.Prelude.{◌||◌}
use Rattle.renumbering.proofs.Slots.{slot-map}
use Rattle.renumbering.proofs.Going.{SeenAfter, after-quiet, call-in, end-in, resume-in}
use Rattle.renumbering.proofs.States.{Fits, Seen, View, at-in, change-is, fits-change, fits-last, fits-put, has-end-in}
use Rattle.renumbering.proofs.States.{put-is, seen-files, seen-places, seen-refl, state_in, where-in}
use Rattle.renumbering.specs.Renumbered.{AreOpen, file_moved, places_moved, process_moved, target_moved}
use Rattle.schedules.specs.Schedules.{computes, computes_as, computes_in}
use Rattle.unixmodel.specs.Calls.{call, quiet}
use Rattle.unixmodel.specs.Console.{Keyed, key}
use Rattle.unixmodel.specs.FileCalls.{descriptor}
use Rattle.unixmodel.specs.Files.{slot}
use Rattle.unixmodel.specs.Meaning.{Effect}
use Rattle.unixmodel.specs.Next.{acted, effect_of, execute, execute_at, is_ecall, next, pick, picked, picked_in}
use Rattle.unixmodel.specs.Next.{process_after, step, stopped, take_turn, tick, typed}
use Rattle.unixmodel.specs.Numbers.{low}
use Rattle.unixmodel.specs.OpenFiles.{OpenFile, Target, pipe_room}
use Rattle.unixmodel.specs.OpenFiles.End.{ReadEnd, WriteEnd}
use Rattle.unixmodel.specs.OpenFiles.Target.{OnNode, OnPipe}
use Rattle.unixmodel.specs.Outcome.{end_process, pending_arg}
use Rattle.unixmodel.specs.Process.{Process, is_running, with_mode}
use Rattle.unixmodel.specs.Process.{is_child_of, is_zombie}
use Rattle.unixmodel.specs.State.{State, has_end, holds, process_at, put_process, running}
use Rattle.unixmodel.specs.Turn.{can_go_on, can_read_from, can_write_to, holds_of, is_empty, is_ready, is_ready_in}
use Rattle.unixmodel.specs.Turn.{pending_file, ready, round_from, turn}
use Rattle.unixmodel.specs.declared.call.Call.{Call}
use Rattle.unixmodel.specs.declared.call.Call.TheVariants.{Read, Sleep, Wait, Write}
use Rattle.unixmodel.specs.declared.event.Event.{Event}
use Rattle.unixmodel.specs.declared.event.Event.TheVariants.{Key, Step, Tick}
use Rattle.unixmodel.specs.declared.process.Mode.{Mode}
use Rattle.unixmodel.specs.declared.process.Mode.TheVariants.{Ready, Running, Waiting, Zombie}
use Rattle.unixmodel.specs.declared.process.Pending.{Pending}

same-bytes : {X : Type 0} (o : Option X) → option_map (λ x. x) o ≡ o
same-bytes None = refl
same-bytes (Some x) = refl

find-same : (test other : ℕ → Bool) → ((n : ℕ) → other n ≡ test n) → (ns : List ℕ) → find other ns ≡ find test ns
find-same test other same [] = refl
find-same test other same (n ∷ ns) = ap (λ b. cond b (Some n) (find other ns)) (same n)
    ∙ ap (λ o. cond (test n) (Some n) o) (find-same test other same ns)

module _ {v : View} {s : State} (fits : Fits v s) where
  abbrev t : State
  t = state_in v s

  -- ---- who is ready

  -- what a pipe holds
  bytes-in : (r : ℕ) → slot v.held (v.pipes.there r) ≡ slot s.pipes r
  bytes-in r = fits.held.holds r ∙ same-bytes (slot s.pipes r)

  can-read-in : (target : Target) → can_read_from t (target_moved v.pipes target) ≡ can_read_from s target
  unfolding state_in
  can-read-in (OnNode n offset) = refl
  can-read-in (OnPipe r end) =
      ap (λ o. not (is_empty (unwrap_or o [])) || not (has_end t (v.pipes.there r) WriteEnd)) (bytes-in r)
      ∙ ap (λ b. not (is_empty (unwrap_or (slot s.pipes r) [])) || not b) (has-end-in fits r WriteEnd)

  can-write-in : (target : Target) → can_write_to t (target_moved v.pipes target) ≡ can_write_to s target
  unfolding state_in
  can-write-in (OnNode n offset) = refl
  can-write-in (OnPipe r end) =
      ap (λ o. nat_lt (length (unwrap_or o [])) pipe_room || not (has_end t (v.pipes.there r) ReadEnd)) (bytes-in r)
      ∙ ap (λ b. nat_lt (length (unwrap_or (slot s.pipes r) [])) pipe_room || not b) (has-end-in fits r ReadEnd)

  open-in : (o : Option ℕ) → option_and_then (slot v.opens) (option_map v.files.there o)
      ≡ option_map (file_moved v.pipes) (option_and_then (slot s.opens) o)
  open-in None = refl
  open-in (Some k) = fits.opens.holds k

  pending-in : (p : Process) (w : Pending)
      → pending_file t (process_moved v.files p) w ≡ option_map (file_moved v.pipes) (pending_file s p w)
  unfolding state_in
  pending-in p w =
      ap (option_and_then (slot v.opens)) (slot-map v.files.there p.descriptors (low (pending_arg w 0)))
      ∙ open-in (descriptor p (pending_arg w 0))

  holds-in : (test other : Target → Bool) → ((u : Target) → other (target_moved v.pipes u) ≡ test u)
      → (o : Option OpenFile) → holds_of other (option_map (file_moved v.pipes) o) ≡ holds_of test o
  holds-in test other same None = refl
  holds-in test other same (Some f) = same f.target

  go-on-in : (p : Process) (w : Pending) (number : Call)
      → can_go_on t (process_moved v.files p) w number ≡ can_go_on s p w number
  unfolding state_in
  go-on-in p w Wait = ap is_some
      (where-in v.files (λ u. is_child_of p.pid u && is_zombie u) (λ p. refl) s.places)
  go-on-in p w Read = ap (holds_of (can_read_from t)) (pending-in p w)
      ∙ holds-in (can_read_from s) (can_read_from t) can-read-in (pending_file s p w)
  go-on-in p w Write = ap (holds_of (can_write_to t)) (pending-in p w)
      ∙ holds-in (can_write_to s) (can_write_to t) can-write-in (pending_file s p w)
  go-on-in p w Sleep = refl
  go-on-in p w _ = refl

  ready-in-in : (p : Process) (m : Mode) → is_ready_in t (process_moved v.files p) m ≡ is_ready_in s p m
  ready-in-in p Running = refl
  ready-in-in p Ready = refl
  ready-in-in p (Waiting w) = ap (λ b. b || p.killed) (go-on-in p w w.number)
  ready-in-in p (Zombie status) = refl

  pub ready-in : (i : ℕ) → ready t i ≡ ready s i
  unfolding is_ready
  ready-in i = ap (holds (is_ready t)) (at-in fits i) ∙ held (process_at s i)
    where
      held : (o : Option Process) → holds (is_ready t) (option_map (process_moved v.files) o) ≡ holds (is_ready s) o
      held None = refl
      held (Some p) = ready-in-in p p.mode

  pub turn-in : turn t ≡ turn s
  unfolding turn state_in
  turn-in = find-same (ready s) (ready t) ready-in (round_from s.last)

  pub runs-in : running t ≡ running s
  unfolding state_in
  runs-in = where-in v.files is_running (λ p. refl) s.places

  -- ---- whose next step computes

  done-in : (o : Option Process) → computes_as (option_map (process_moved v.files) o) ≡ computes_as o
  unfolding effect_of
  done-in None = refl
  done-in (Some p) = refl

  computes-at : (o : Option ℕ) → computes_in t o ≡ computes_in s o
  computes-at None = refl
  computes-at (Some i) = ap computes_as (at-in fits i) ∙ done-in (process_at s i)

  pub computes-in : computes t ≡ computes s
  unfolding computes
  computes-in = ap (computes_in t) runs-in ∙ computes-at (running s)

  -- ---- a turn

  put-seen : (i : ℕ) (q : Process) → AreOpen s.opens q
      → Seen (put_process s i q) (put_process t i (process_moved v.files q))
  put-seen i q named = record { view = v; fits = fits-put fits i q named; is = put-is fits i q }

  picked-in-in : (i : ℕ) (p : Process) (m : Mode) → AreOpen s.opens p
      → SeenAfter (picked_in s i p m) (picked_in t i (process_moved v.files p) m)
  picked-in-in i p Running named = after-quiet (seen-refl fits)
  picked-in-in i p Ready named = after-quiet (put-seen i (with_mode Running p) named)
  picked-in-in i p (Waiting w) named = resume-in fits i p named w
  picked-in-in i p (Zombie status) named = after-quiet (seen-refl fits)

  picked-seen : (i : ℕ) (p : Process) → AreOpen s.opens p
      → SeenAfter (picked s i p) (picked t i (process_moved v.files p))
  picked-seen i p named = by p.killed
    where
      by : (b : Bool) → SeenAfter (if b then quiet (end_process s i p (negsuc 0)) else picked_in s i p p.mode)
          (if b then quiet (end_process t i (process_moved v.files p) (negsuc 0))
          else picked_in t i (process_moved v.files p) p.mode)
      by true = after-quiet (end-in fits i p (negsuc 0))
      by false = picked-in-in i p p.mode named

  -- ---- an instruction

  trapped-in : (i : ℕ) (p : Process) (b : Bool) → AreOpen s.opens p
      → SeenAfter (if b then call s i p else quiet (end_process s i p (negsuc 0)))
      (if b then call t i (process_moved v.files p) else quiet (end_process t i (process_moved v.files p) (negsuc 0)))
  trapped-in i p true named = call-in fits i p named
  trapped-in i p false named = after-quiet (end-in fits i p (negsuc 0))

  acted-in : (i : ℕ) (p : Process) (d : Effect) → AreOpen s.opens p
      → SeenAfter (acted s i p d) (acted t i (process_moved v.files p) d)
  acted-in i p (Ok d) named = after-quiet (put-seen i (process_after p d) named)
  acted-in i p (Err trap) named = trapped-in i p (is_ecall trap.cause) named

  execute-in : (i : ℕ) (o : Option Process) → process_at s i ≡ o
      → SeenAfter (execute_at s i o) (execute_at t i (option_map (process_moved v.files) o))
  unfolding execute effect_of
  execute-in i None at = after-quiet (seen-refl fits)
  execute-in i (Some p) at = acted-in i p (effect_of p) (fits.there.descriptors.at i p at)

pick-in : {v : View} {s : State} → Fits v s → (i : ℕ) (o : Option Process) → process_at s i ≡ o
    → SeenAfter (pick s i o) (pick (state_in v s) i (option_map (process_moved v.files) o))
unfolding state_in
pick-in fits i None at = after-quiet (seen-refl fits)
pick-in fits i (Some p) at = picked-seen (fits-last fits i) i p (fits.there.descriptors.at i p at)

take-in : {v : View} {s : State} → Fits v s → (o : Option ℕ) → SeenAfter (take_turn s o) (take_turn (state_in v s) o)
take-in fits None = after-quiet (seen-refl fits)
take-in {v} {s} fits (Some i) =
    subst (λ o. SeenAfter (pick s i (process_at s i)) (pick (state_in v s) i o)) (sym (at-in fits i))
    (pick-in fits i (process_at s i) refl)

step-in : {v : View} {s : State} → Fits v s → (o : Option ℕ) → SeenAfter (step s o) (step (state_in v s) o)
step-in {v} {s} fits None =
    subst (λ o. SeenAfter (take_turn s (turn s)) (take_turn (state_in v s) o)) (sym (turn-in fits))
    (take-in fits (turn s))
step-in {v} {s} fits (Some i) =
    subst (λ o. SeenAfter (execute_at s i (process_at s i)) (execute_at (state_in v s) i o)) (sym (at-in fits i))
    (execute-in fits i (process_at s i) refl)

-- ---- the events

ticked : {v : View} {s : State} → Fits v s → (n : ℕ)
    → Seen (record s { ticks = n }) (record (state_in v s) { ticks = n })
unfolding state_in
ticked {v} {s} fits n = seen-places fits s.places (places_moved v.files s.places) s.files s.console n s.next_pid s.last
    s.halted refl fits.there.descriptors

tick-in : {v : View} {s : State} → Fits v s → (o : Option ℕ) (n : ℕ)
    → Seen (record (stopped s o) { ticks = n }) (record (stopped (state_in v s) o) { ticks = n })
tick-in fits None n = ticked fits n
tick-in {v} {s} fits (Some i) n =
    subst (λ t. Seen (record (stopped s (Some i)) { ticks = n }) (record t { ticks = n }))
    (sym (change-is fits i (with_mode Ready) (λ p. refl) (λ p named. named)))
    (ticked (fits-change fits i (with_mode Ready) (λ p. refl) (λ p named. named)) n)

key-in : {v : View} {s : State} → Fits v s → (k : Keyed) → SeenAfter (typed s k) (typed (state_in v s) k)
unfolding state_in
key-in {s = s} fits k = record { bytes = refl; state = seen-files fits s.files k.console }

pub event-in : {v : View} {s : State} → Fits v s → (e : Event) → SeenAfter (next s e) (next (state_in v s) e)
unfolding next state_in
event-in {v} {s} fits Step =
    subst (λ o. SeenAfter (step s (running s)) (step (state_in v s) o)) (sym (runs-in fits)) (step-in fits (running s))
event-in {v} {s} fits Tick = after-quiet
    (subst (λ o. Seen (tick s) (record (stopped (state_in v s) o) { ticks = (s.ticks + 1) % 2 ^ 32 }))
    (sym (runs-in fits)) (tick-in fits (running s) ((s.ticks + 1) % 2 ^ 32)))
event-in {s = s} fits (Key k) = key-in fits (key s.console k)
