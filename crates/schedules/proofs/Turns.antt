-- A turn, a step and a typed byte, in a view of the state.
use Rattle.std.proofs.Common.{[], ap, Bool, cond, Err, false, List, None, Ok, Option, refl, Some, subst}
use Rattle.std.proofs.Common.{sym, true, ℕ, ◌∙◌, ◌∷◌, ◌≡◌}
use Rattle.std.specs.Prelude.{find, if◌then◌else◌, is_some, negsuc, option_map, ◌||◌}
use Rattle.schedules.proofs.Going.{SeenAfter, after-quiet, at-in, begun-in, begun-plain, call-in, changed-in}
use Rattle.schedules.proofs.Going.{end-in, resume-in}
use Rattle.schedules.proofs.Rows.{seen-places, seen-refl, slept-in, zombie-child-in}
use Rattle.schedules.proofs.Views.{IsFair, IsFresh, IsPlain, IsTimely, View, mode_in, pending_in, plain-is, plain_in}
use Rattle.schedules.proofs.Views.{process_in, timely}
use Rattle.schedules.proofs.Views.{running-in, state_in, where-in}
use Rattle.schedules.specs.Alike.{asks, asks_as, asks_at, asks_in, is_uptime}
use Rattle.schedules.specs.Holding.{acts_in_step, acts_in_turn, is_waiting, is_waiting_mode}
use Rattle.unixmodel.specs.Calls.{call, call_of, quiet}
use Rattle.unixmodel.specs.Console.{Keyed}
use Rattle.unixmodel.specs.Meaning.{Effect}
use Rattle.unixmodel.specs.Next.{acted, effect_of, execute, execute_at, is_ecall, pick, picked, picked_in}
use Rattle.unixmodel.specs.Next.{process_after, step, stopped, take_turn, typed}
use Rattle.unixmodel.specs.Numbers.{low}
use Rattle.unixmodel.specs.Outcome.{end_process}
use Rattle.unixmodel.specs.Process.{Process, arg, is_running, with_mode}
use Rattle.unixmodel.specs.State.{State, holds, process_at, running}
use Rattle.unixmodel.specs.Turn.{can_go_on, is_ready, is_ready_in, ready, round_from, turn}
use Rattle.unixmodel.specs.declared.call.Call.{Call}
use Rattle.unixmodel.specs.declared.call.Call.TheVariants.{Read, Sleep, Wait, Write}
use Rattle.unixmodel.specs.declared.process.Mode.{Mode}
use Rattle.unixmodel.specs.declared.process.Mode.TheVariants.{Ready, Running, Waiting, Zombie}
use Rattle.unixmodel.specs.declared.process.Pending.{Pending}

-- ---- who is ready

go-on-in : (v : View) (s : State) (i : ℕ) (p : Process) (w : Pending) (number : Call) → IsTimely v → s.ticks ≡ v.now
    → w.number ≡ number
    → can_go_on (state_in v s) (process_in v i p) (pending_in v w) number ≡ can_go_on s p w number
unfolding state_in
go-on-in v s i p w Wait timed time same = ap is_some (zombie-child-in v s p.pid)
go-on-in v s i p w Read timed time same = refl
go-on-in v s i p w Write timed time same = refl
go-on-in v s i p w Sleep timed time same = slept-in v s w timed time same
go-on-in v s i p w _ timed time same = refl

ready-in-in : (v : View) (s : State) (i : ℕ) (p : Process) (m : Mode) → IsTimely v → s.ticks ≡ v.now
    → is_ready_in (state_in v s) (process_in v i p) (mode_in v m) ≡ is_ready_in s p m
ready-in-in v s i p Running timed time = refl
ready-in-in v s i p Ready timed time = refl
ready-in-in v s i p (Waiting w) timed time = ap (λ b. b || p.killed) (go-on-in v s i p w w.number timed time refl)
ready-in-in v s i p (Zombie status) timed time = refl

ready-seen : (v : View) (s : State) (i : ℕ) → IsTimely v → s.ticks ≡ v.now → ready (state_in v s) i ≡ ready s i
unfolding is_ready
ready-seen v s i timed time = ap (holds (is_ready (state_in v s))) (at-in v s i) ∙ held (process_at s i)
  where
    held : (o : Option Process)
        → holds (is_ready (state_in v s)) (option_map (process_in v i) o) ≡ holds (is_ready s) o
    held None = refl
    held (Some p) = ready-in-in v s i p p.mode timed time

find-same : (test other : ℕ → Bool) → ((n : ℕ) → other n ≡ test n) → (ns : List ℕ) → find other ns ≡ find test ns
find-same test other same [] = refl
find-same test other same (n ∷ ns) = ap (λ b. cond b (Some n) (find other ns)) (same n)
    ∙ ap (λ o. cond (test n) (Some n) o) (find-same test other same ns)

pub turn-timely : (v : View) (s : State) → IsTimely v → s.ticks ≡ v.now → turn (state_in v s) ≡ turn s
unfolding turn state_in
turn-timely v s timed time =
    find-same (ready s) (ready (state_in v s)) (λ i. ready-seen v s i timed time) (round_from s.last)

pub turn-in : (v : View) (s : State) → IsFair v → s.ticks ≡ v.now → turn (state_in v s) ≡ turn s
turn-in v s fair time = turn-timely v s (timely v fair) time

pub runs-in : (v : View) (s : State) → running (state_in v s) ≡ running s
unfolding state_in
runs-in v s = where-in v is_running (λ n p. running-in v p.mode) s.places

-- ---- a turn

-- all is seen of the process that acts
abbrev pub IsPlainOf : View → Option ℕ → Type 0
IsPlainOf v acts = (i : ℕ) → acts ≡ Some i → IsPlain v i

after-refl : (v : View) (s : State) → s.ticks ≡ v.now → SeenAfter v (quiet s) (quiet (state_in v s))
after-refl v s time = after-quiet v s (state_in v s) (seen-refl v s time)

-- all is seen of the process, if it waits
abbrev IsPlainIn : View → ℕ → Mode → Type 0
IsPlainIn v i m = is_waiting_mode m ≡ true → IsPlain v i

picked-in-in : (v : View) (s : State) (i : ℕ) (p : Process) (m : Mode) → IsFair v → s.ticks ≡ v.now → IsPlainIn v i m
    → SeenAfter v (picked_in s i p m) (picked_in (state_in v s) i (process_in v i p) (mode_in v m))
picked-in-in v s i p Running fair time plain = after-refl v s time
picked-in-in v s i p Ready fair time plain = after-quiet v _ _ (begun-in v s i (with_mode Running p) time)
picked-in-in v s i p (Waiting w) fair time plain =
    subst (λ q. SeenAfter v (picked_in s i p (Waiting w)) (picked_in (state_in v s) i q (mode_in v (Waiting w))))
    (plain-is v i (plain refl) p) (resume-in v s i p w fair time (plain refl))
picked-in-in v s i p (Zombie status) fair time plain = after-refl v s time

ended-after : (v : View) (s : State) (i : ℕ) (p : Process) → s.ticks ≡ v.now
    → SeenAfter v (quiet (end_process s i p (negsuc 0)))
    (quiet (end_process (state_in v s) i (process_in v i p) (negsuc 0)))
ended-after v s i p time = after-quiet v _ _ (end-in v s i p (negsuc 0) time)

picked-seen : (v : View) (s : State) (i : ℕ) (p : Process) → IsFair v → s.ticks ≡ v.now → IsPlainIn v i p.mode
    → SeenAfter v (picked s i p) (picked (state_in v s) i (process_in v i p))
picked-seen v s i p fair time plain = either p.killed
  where
    either : (b : Bool) → SeenAfter v (if b then quiet (end_process s i p (negsuc 0)) else picked_in s i p p.mode)
        (if b then quiet (end_process (state_in v s) i (process_in v i p) (negsuc 0))
        else picked_in (state_in v s) i (process_in v i p) (mode_in v p.mode))
    either true = ended-after v s i p time
    either false = picked-in-in v s i p p.mode fair time plain

-- of the process in a slot, if it waits
abbrev IsPlainAt : View → ℕ → Option Process → Type 0
IsPlainAt v i o = holds is_waiting o ≡ true → IsPlain v i

pick-in : (v : View) (s : State) (i : ℕ) (o : Option Process) → IsFair v → s.ticks ≡ v.now → IsPlainAt v i o
    → SeenAfter v (pick s i o) (pick (state_in v s) i (option_map (process_in v i) o))
unfolding state_in
pick-in v s i None fair time plain = after-refl v s time
pick-in v s i (Some p) fair time plain = picked-seen v (record s { last = i }) i p fair time plain

take-in : (v : View) (s : State) (o : Option ℕ) → IsFair v → s.ticks ≡ v.now → IsPlainOf v (acts_in_turn s o)
    → SeenAfter v (take_turn s o) (take_turn (state_in v s) o)
take-in v s None fair time plain = after-refl v s time
take-in v s (Some i) fair time plain =
    subst (λ o. SeenAfter v (pick s i (process_at s i)) (pick (state_in v s) i o)) (sym (at-in v s i))
    (pick-in v s i (process_at s i) fair time
    (λ waits. plain i (ap (λ b. if b then Some i else None) waits)))

-- ---- a step, and the process that runs stopped

trapped-in : (v : View) (s : State) (i : ℕ) (p : Process) (b : Bool) → IsFair v → s.ticks ≡ v.now → IsPlain v i
    → IsFresh v s.places
    → ((if b then is_uptime (call_of (low (arg p 7))) else false) ≡ true → v.clock ≡ v.now)
    → SeenAfter v (if b then call s i p else quiet (end_process s i p (negsuc 0)))
    (if b then call (state_in v s) i (plain_in v p)
    else quiet (end_process (state_in v s) i (plain_in v p) (negsuc 0)))
trapped-in v s i p true fair time plain fresh tells = call-in v s i p fair time plain fresh tells
trapped-in v s i p false fair time plain fresh tells =
    subst (λ q. SeenAfter v (quiet (end_process s i p (negsuc 0)))
    (quiet (end_process (state_in v s) i q (negsuc 0)))) (sym (plain-is v i plain p)) (ended-after v s i p time)

acted-in : (v : View) (s : State) (i : ℕ) (p : Process) (d : Effect) → IsFair v → s.ticks ≡ v.now → IsPlain v i
    → IsFresh v s.places → (asks_as p d ≡ true → v.clock ≡ v.now)
    → SeenAfter v (acted s i p d) (acted (state_in v s) i (plain_in v p) d)
acted-in v s i p (Ok d) fair time plain fresh tells =
    after-quiet v _ _ (begun-plain v s i (process_after p d) time plain)
acted-in v s i p (Err t) fair time plain fresh tells =
    trapped-in v s i p (is_ecall t.cause) fair time plain fresh tells

execute-in : (v : View) (s : State) (i : ℕ) (o : Option Process) → IsFair v → s.ticks ≡ v.now → IsPlain v i
    → IsFresh v s.places → (asks_in o ≡ true → v.clock ≡ v.now)
    → SeenAfter v (execute_at s i o) (execute_at (state_in v s) i (option_map (process_in v i) o))
unfolding execute effect_of asks
execute-in v s i None fair time plain fresh tells = after-refl v s time
execute-in v s i (Some p) fair time plain fresh tells =
    subst (λ q. SeenAfter v (execute s i p) (execute (state_in v s) i q)) (plain-is v i plain p)
    (acted-in v s i p (effect_of p) fair time plain fresh tells)

pub step-in : (v : View) (s : State) (o : Option ℕ) → IsFair v → s.ticks ≡ v.now → IsPlainOf v (acts_in_step s o)
    → IsFresh v s.places → (asks_at s o ≡ true → v.clock ≡ v.now)
    → SeenAfter v (step s o) (step (state_in v s) o)
step-in v s None fair time plain fresh tells =
    subst (λ o. SeenAfter v (take_turn s (turn s)) (take_turn (state_in v s) o)) (sym (turn-in v s fair time))
    (take-in v s (turn s) fair time plain)
step-in v s (Some i) fair time plain fresh tells =
    subst (λ o. SeenAfter v (execute_at s i (process_at s i)) (execute_at (state_in v s) i o))
    (sym (at-in v s i)) (execute-in v s i (process_at s i) fair time (plain i refl) fresh tells)

pub stopped-in : (v : View) (s : State) (o : Option ℕ) → s.ticks ≡ v.now
    → stopped (state_in v s) o ≡ state_in v (stopped s o)
stopped-in v s None time = refl
stopped-in v s (Some i) time = (changed-in v s i (with_mode Ready) (with_mode Ready) (λ p. refl) time).is

pub key-in : (v : View) (s : State) (k : Keyed) → s.ticks ≡ v.now
    → SeenAfter v (typed s k) (typed (state_in v s) k)
unfolding state_in
key-in v s k time = record {
  bytes = refl;
  state = seen-places v s _ _ s.files s.opens s.pipes k.console s.next_pid s.last s.halted time refl;
}
