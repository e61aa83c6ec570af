-- What a machine reports of who runs, who sleeps, and who asks for the time.
use Rattle.std.proofs.Common.{ap, arith, Bool, drop, eq-eqb, eqb-true, Err, false, List}
use Rattle.std.proofs.Common.{None, Ok, Option, refl, Some}
use Rattle.std.proofs.Common.{subst, suc, sym, true, zero, [], ℕ, ◌<◌, ◌∙◌, ◌∷◌, ◌≡◌}
use Rattle.std.proofs.lemmas.Bool.{false≢true}
use Rattle.std.proofs.lemmas.List.Quantifiers.{position-Some}
use Rattle.std.specs.List.{list_any}
use Rattle.std.specs.Prelude.{if◌then◌else◌, is_some, not, option_and_then, option_map, slice_get, slice_index, ◌&&◌}
use Rattle.std.specs.Prelude.{◌||◌}
use Rattle.explore.specs.Along.{IsNoUptime, IsPickedAgain}
use Rattle.kernel.specs.Idle as kernel
use Rattle.kernel.specs.Idle.{is_sleeping, is_sleeping_mode, picked_pid, running_pid, running_process}
use Rattle.machine.specs.declared.seen.ProcessState.TheVariants as state
use Rattle.machine.specs.declared.seen.Seen.{Seen}
use Rattle.machine.specs.Seen.{seen_of, state_seen}
use Rattle.orders.specs.Ends as ends
use Rattle.orders.proofs.TidyRuns.{given-back}
use Rattle.orders.specs.Looked.{IsTurnBack}
use Rattle.orders.specs.Tidy.{IsTidy}
use Rattle.orders.specs.Tried.{is_time_awaited, sleeps_on, sleeps_on_in}
use Rattle.schedules.proofs.Computing.{runner}
use Rattle.schedules.specs.Alike as laws
use Rattle.schedules.specs.Alike.{asks, asks_as, asks_at, asks_in, asks_time, is_asleep_in, is_uptime}
use Rattle.unixmodel.specs.declared.call.Call.{Call}
use Rattle.unixmodel.specs.declared.call.Call.TheVariants.{Chdir, Close, Dup, Exec, Exit, Fork, Fstat, Getpid, Kill}
use Rattle.unixmodel.specs.declared.call.Call.TheVariants.{Link, Mkdir, Mknod, Open, Pipe, Read, Sbrk, Sleep, Unlink}
use Rattle.unixmodel.specs.declared.call.Call.TheVariants.{Uptime, Wait, Write}
use Rattle.unixmodel.specs.declared.event.Event.TheVariants.{Step, Tick}
use Rattle.unixmodel.specs.declared.process.Mode.{Mode}
use Rattle.unixmodel.specs.declared.process.Mode.TheVariants.{Ready, Running, Waiting, Zombie}
use Rattle.unixmodel.specs.Calls.{call_of, calls}
use Rattle.unixmodel.specs.Meaning.{Effect}
use Rattle.unixmodel.specs.Next.{effect_of, is_ecall, next}
use Rattle.unixmodel.specs.Numbers.{low}
use Rattle.unixmodel.specs.Process.{Process, arg, has_pid, is_running, is_running_mode}
use Rattle.unixmodel.specs.ProcessCalls.{has_slept}
use Rattle.unixmodel.specs.Shown.{shown_process}
use Rattle.unixmodel.specs.State.{State, holds, place_of_pid, process_at, running}
use Rattle.unixmodel.specs.Turn.{turn}

-- ---- who runs

runs-in : (s : State) (o : Option ℕ) → running s ≡ o
    → is_some (option_map (λ (p : Process). p.pid) (option_and_then (process_at s) o)) ≡ is_some o
runs-in s None is = refl
runs-in s (Some i) is =
    let here = runner s i is in
    ap (λ (o : Option Process). is_some (option_map (λ (p : Process). p.pid) o)) here.1

pub runs : (s : State) → is_some (running_pid s) ≡ is_some (running s)
runs s = runs-in s (running s) refl

-- ---- who sleeps

call-same : (c : Call) → kernel.is_sleep c ≡ laws.is_sleep c
call-same Fork = refl
call-same Exit = refl
call-same Wait = refl
call-same Pipe = refl
call-same Read = refl
call-same Kill = refl
call-same Exec = refl
call-same Fstat = refl
call-same Chdir = refl
call-same Dup = refl
call-same Getpid = refl
call-same Sbrk = refl
call-same Sleep = refl
call-same Uptime = refl
call-same Open = refl
call-same Write = refl
call-same Mknod = refl
call-same Unlink = refl
call-same Link = refl
call-same Mkdir = refl
call-same Close = refl

mode-same : (m : Mode) → is_sleeping_mode m ≡ is_asleep_in m
mode-same Running = refl
mode-same Ready = refl
mode-same (Waiting w) = call-same w.number
mode-same (Zombie status) = refl

places-same : (ps : List (Option Process)) → list_any (holds is_sleeping) ps ≡ list_any (holds ends.is_asleep) ps
places-same [] = refl
places-same (None ∷ ps) = places-same ps
places-same (Some p ∷ ps) =
    ap (λ b. b || list_any (holds is_sleeping) ps) (mode-same p.mode)
    ∙ ap (λ b. is_asleep_in p.mode || b) (places-same ps)

pub sleeps-same : (s : State) → kernel.is_anyone_asleep s ≡ ends.is_anyone_asleep s
sleeps-same s = places-same s.places

-- ---- whose sleep goes on

on-same : (s : State) (m : Mode) → kernel.sleeps_on_at s.ticks m ≡ sleeps_on_in s m
on-same s Running = refl
on-same s Ready = refl
on-same s (Waiting w) = ap (λ b. b && not (has_slept s w)) (call-same w.number)
on-same s (Zombie status) = refl

on-places : (s : State) (ps : List (Option Process)) → list_any (holds (kernel.sleeps_on s.ticks)) ps
    ≡ list_any (holds (sleeps_on s)) ps
on-places s [] = refl
on-places s (None ∷ ps) = on-places s ps
on-places s (Some p ∷ ps) =
    ap (λ b. b || list_any (holds (kernel.sleeps_on s.ticks)) ps) (on-same s p.mode)
    ∙ ap (λ b. sleeps_on_in s p.mode || b) (on-places s ps)

pub awaited-same : (s : State) → kernel.is_time_awaited s ≡ is_time_awaited s
awaited-same s = on-places s s.places

-- ---- who asks for the time

other-later : (n : ℕ) → (n ≡ 3 → ⊥) → is_uptime (slice_get (drop 10 calls) n) ≡ false
other-later zero other = refl
other-later (suc zero) other = refl
other-later (suc (suc zero)) other = refl
other-later (suc (suc (suc zero))) other = absurd (other refl)
other-later (suc (suc (suc (suc zero)))) other = refl
other-later (suc (suc (suc (suc (suc zero))))) other = refl
other-later (suc (suc (suc (suc (suc (suc zero)))))) other = refl
other-later (suc (suc (suc (suc (suc (suc (suc zero))))))) other = refl
other-later (suc (suc (suc (suc (suc (suc (suc (suc zero)))))))) other = refl
other-later (suc (suc (suc (suc (suc (suc (suc (suc (suc zero))))))))) other = refl
other-later (suc (suc (suc (suc (suc (suc (suc (suc (suc (suc zero)))))))))) other = refl
other-later (suc (suc (suc (suc (suc (suc (suc (suc (suc (suc (suc n))))))))))) other = refl

-- a call with another number than 14 is another one
other-call : (n : ℕ) → (n ≡ 14 → ⊥) → is_uptime (call_of n) ≡ false
other-call zero other = refl
other-call (suc zero) other = refl
other-call (suc (suc zero)) other = refl
other-call (suc (suc (suc zero))) other = refl
other-call (suc (suc (suc (suc zero)))) other = refl
other-call (suc (suc (suc (suc (suc zero))))) other = refl
other-call (suc (suc (suc (suc (suc (suc zero)))))) other = refl
other-call (suc (suc (suc (suc (suc (suc (suc zero))))))) other = refl
other-call (suc (suc (suc (suc (suc (suc (suc (suc zero)))))))) other = refl
other-call (suc (suc (suc (suc (suc (suc (suc (suc (suc zero))))))))) other = refl
other-call (suc (suc (suc (suc (suc (suc (suc (suc (suc (suc zero)))))))))) other = refl
other-call (suc (suc (suc (suc (suc (suc (suc (suc (suc (suc (suc n))))))))))) other =
    other-later n (λ third. other (omega (arith, third)))

-- who doesn't call uptime doesn't ask for the time
other-asks : (p : Process) (d : Effect) → is_uptime (call_of (low (arg p 7))) ≡ false → asks_as p d ≡ false
other-asks p (Ok c) other = refl
other-asks p (Err t) other = by (is_ecall t.cause) (is_uptime (call_of (low (arg p 7)))) other
  where
    by : (a b : Bool) → b ≡ false → (if a then b else false) ≡ false
    by true b other = other
    by false b other = refl

same-some : {X : Type 0} (x y : X) → Some x ≡ Some y → x ≡ y
same-some x y same = cc

-- the process that is shown with the pid of the one that runs is that one, if it runs
first-running : (s : State) (i j : ℕ) (p q : Process) → running s ≡ Some i → process_at s i ≡ Some p
    → place_of_pid s p.pid ≡ Some j → process_at s j ≡ Some q → is_running q ≡ true → p ≡ q
first-running s i j p q runs at first shown run =
    let least = position-Some (holds is_running) s.places i None runs in
    let least_of = position-Some (holds (has_pid p.pid)) s.places j None first in
    let later : ¬ (j < i) = λ less. false≢true (sym (least.2 j less) ∙ ap (holds is_running) shown ∙ run) in
    let mine : holds (has_pid p.pid) (process_at s i) ≡ true =
    ap (holds (has_pid p.pid)) at ∙ eq-eqb p.pid p.pid refl in
    let earlier : ¬ (i < j) = λ less. false≢true (sym (least_of.2 i less) ∙ mine) in
    let same : i ≡ j = meet i j later earlier in
    same-some p q (sym at ∙ ap (process_at s) same ∙ shown)
  where
    meet : (i j : ℕ) → ¬ (j < i) → ¬ (i < j) → i ≡ j
    meet i j later earlier = omega arith

shown-in : (s : State) (pid : ℕ) (o : Option ℕ) → place_of_pid s pid ≡ o → (q : Process)
    → option_and_then (process_at s) o ≡ Some q → (j : ℕ) × (place_of_pid s pid ≡ Some j) × (process_at s j ≡ Some q)
shown-in s pid None first q shown = absurd cc
shown-in s pid (Some j) first q shown = (j, first, shown)

asks-none : (s : State) (o : Option ℕ) → running s ≡ o
    → is_some (option_map (λ (p : Process). p.pid) (option_and_then (process_at s) o)) ≡ false → asks_at s o ≡ false
asks-none s None is none = refl
asks-none s (Some i) is none = absurd (false≢true (sym none ∙ runs-in s (Some i) is))

-- where nobody runs, nobody asks
pub none-asks : (s : State) → running_pid s ≡ None → asks_time s Step ≡ false
unfolding asks_time
none-asks s none = asks-none s (running s) refl (ap (λ (o : Option ℕ). is_some o) none)

running-state : (m : Mode) → state_seen m ≡ state.Running → is_running_mode m ≡ true
running-state Running is = refl
running-state Ready is = absurd cc
running-state (Waiting w) is = absurd cc
running-state (Zombie status) is = absurd cc

asks-shown : (s : State) (o : Option ℕ) → running s ≡ o → (pid : ℕ)
    → option_map (λ (p : Process). p.pid) (option_and_then (process_at s) o) ≡ Some pid
    → (q : Process) → shown_process s pid ≡ Some q → is_running q ≡ true
    → is_uptime (call_of (low (arg q 7))) ≡ false → asks_at s o ≡ false
unfolding asks
asks-shown s None is pid has q shown run other = refl
asks-shown s (Some i) is pid has q shown run other =
    let here = runner s i is in
    let p = here.0 in
    let mine : p.pid ≡ pid =
    same-some p.pid pid (sym (ap (λ (o : Option Process). option_map (λ (p : Process). p.pid) o) here.1) ∙ has) in
    let place = shown-in s pid (place_of_pid s pid) refl q shown in
    let same : p ≡ q = first-running s i place.0 p q is here.1
    (subst (λ n. place_of_pid s n ≡ Some place.0) (sym mine) place.1) place.2 run in
    ap asks_in here.1 ∙ ap asks same ∙ other-asks q (effect_of q) other

pub others-ask : (s : State) (pid : ℕ) (seen : Seen) → running_pid s ≡ Some pid
    → option_map seen_of (shown_process s pid) ≡ Some seen → IsNoUptime seen → asks_time s Step ≡ false
unfolding asks_time
others-ask s pid seen has shown other = by (shown_process s pid) refl shown
  where
    by : (o : Option Process) → shown_process s pid ≡ o → option_map seen_of o ≡ Some seen
        → asks_at s (running s) ≡ false
    by None is told = absurd cc
    by (Some q) is told =
        let same : seen_of q ≡ seen = same-some (seen_of q) seen told in
        asks-shown s (running s) refl pid has q is
        (running-state q.mode (ap (λ (n : Seen). n.state) same ∙ other.runs))
        (other-call (low (arg q 7))
        (λ at. other.other (ap (λ (n : Seen). low (slice_index n.registers 17)) (sym same) ∙ at)))

-- ---- who is picked again

-- the process in a slot that is given, where its pid is that one
found-pid : (s : State) (o : Option ℕ) (pid : ℕ)
    → option_map (λ (p : Process). p.pid) (option_and_then (process_at s) o) ≡ Some pid
    → (i : ℕ) × (p : Process) × (o ≡ Some i) × (process_at s i ≡ Some p) × (p.pid ≡ pid)
found-pid s None pid has = absurd cc
found-pid s (Some i) pid has = by (process_at s i) refl has
  where
    by : (u : Option Process) → process_at s i ≡ u → option_map (λ (p : Process). p.pid) u ≡ Some pid
        → (j : ℕ) × (p : Process) × (Some i ≡ Some j) × (process_at s j ≡ Some p) × (p.pid ≡ pid)
    by None at has = absurd cc
    by (Some p) at has = (i, p, refl, at, same-some p.pid pid has)

-- the process that is shown with a pid has it
shown-pid : (s : State) (pid : ℕ) (q : Process) → shown_process s pid ≡ Some q
    → (j : ℕ) × (process_at s j ≡ Some q) × (q.pid ≡ pid)
shown-pid s pid q shown =
    let place = shown-in s pid (place_of_pid s pid) refl q shown in
    let has = (position-Some (holds (has_pid pid)) s.places place.0 None place.1).1 in
    (place.0, place.2, eqb-true q.pid pid (sym (ap (holds (has_pid pid)) place.2) ∙ has))

pub picked-again : (s : State) → IsTidy s → kernel.is_anyone_asleep s ≡ false → IsPickedAgain s → IsTurnBack s
picked-again s tidy awake h = by (shown_process s h.pid) refl h.shown
  where
    by : (o : Option Process) → shown_process s h.pid ≡ o → option_map seen_of o ≡ Some h.seen → IsTurnBack s
    by None is shown = absurd cc
    by (Some q) is shown =
        let runner = found-pid s (running s) h.pid h.runs in
        let next_runner = found-pid (next s Tick).state (turn (next s Tick).state) h.pid h.picked in
        let mine = shown-pid s h.pid q is in
        let place : runner.0 ≡ mine.0 =
        tidy.table.apart runner.0 mine.0 runner.1 q runner.3 mine.1 (runner.4 ∙ sym mine.2) in
        let same : runner.1 ≡ q =
        same-some runner.1 q (sym runner.3 ∙ ap (process_at s) place ∙ mine.1) in
        let alive : runner.1.killed ≡ false =
        ap (λ (p : Process). p.killed) same ∙ ap (λ (n : Seen). n.killed) (same-some (seen_of q) h.seen shown)
        ∙ h.alive in
        given-back s tidy.table runner.0 runner.1 runner.2 runner.3 alive (sym (sleeps-same s) ∙ awake) next_runner.0
        next_runner.1 next_runner.2 next_runner.3 (next_runner.4 ∙ sym runner.4)
