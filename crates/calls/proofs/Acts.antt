-- Calls of the running process that return at once.
use Rattle.calls.proofs.Common.{[], Acts, ActsOnDisk, After, answer-here, answered, answered-here, Answers, ap, Appends}
use Rattle.calls.proofs.Common.{Appends-nil, argument, arith, blocked, Blocks, Bool, call, Call, call_of, called}
use Rattle.calls.proofs.Common.{called_by, Came, can_write, CanWait, cast_signed, cast_unsigned, change_process, Comes}
use Rattle.calls.proofs.Common.{Console, counting, current, current-is, descriptors-run, descriptors_at, descriptors_in}
use Rattle.calls.proofs.Common.{Device, DeviceFault, Dispatches, Done, end_at, end_if_killed, end_process, ended}
use Rattle.calls.proofs.Common.{ends-at, entered, Err, Exit, Exits, false, FileTree, free-here, Getpid, given, goes_on}
use Rattle.calls.proofs.Common.{GoesOn, going_at, going_by, Halt, has_slept, held-here, Here, here-as, here-of, IfOk}
use Rattle.calls.proofs.Common.{IfSome, if◌then◌else◌, int_of, IsErr, IsKernel, IsLost, IsMade, IsServed, Kernel}
use Rattle.calls.proofs.Common.{le_trans, LeavesDisk, LeavesTree, length, limited, List, low, me, memory_at, negsuc}
use Rattle.calls.proofs.Common.{no_pages, None, of_z-to_z, Ok, OnErr, OnOk, Option, Outcome, outcome_at, outcome_of}
use Rattle.calls.proofs.Common.{Pending, pending_for, plus, Process, process-here, process-run, process_at, provided}
use Rattle.calls.proofs.Common.{put_process, quiet, reap, reap-state, refl, Refused, Refuses, renamed-within, Result}
use Rattle.calls.proofs.Common.{row_of, RunsAt, self, set-set, settle, settled_by, Sleep, sleep_on, slice_index}
use Rattle.calls.proofs.Common.{slice_set, slot, slot-put, slot-within, Some, SpaceView, started, started_as, State}
use Rattle.calls.proofs.Common.{state-but, state_of, stopped_at, subst, sym, ticked, true, unwrap_or, Uptime, Waits}
use Rattle.calls.proofs.Common.{waits-other, waits-run, waking, with_answer, within-state, ℕ, ℤ, ◌%◌, ◌∙◌, ◌≡◌}
use Rattle.kernel.proofs.Runs.{change-put, regs-kernel, regs-run, regs-state}
use Rattle.calls.specs.Acts.{CanCome, IsBegun, MayPrint, outcome_by, Tries}
use Rattle.std.specs.Int.{w32}
use Rattle.unixmodel.specs.Process as unix

-- ---- the files of the disk

-- they are as they were
pub same-served : {old new : FileTree} → new ≡ old → old.failed ≡ false → IsServed old new
same-served same up = rw same (record { up = up; same_device = refl; later = omega arith })

-- what is lost after a part that served
pub lost-after : {a b c : FileTree} → IsServed a b → IsLost b c → IsLost a c
lost-after first lost = record {
  down = lost.down;
  same_device = lost.same_device ∙ first.same_device;
  later = le_trans first.later lost.later;
  rises = let rises = lost.rises in let later = first.later in omega (arith, rises, later);
}

pub served-after : {a b c : FileTree} → IsServed a b → IsServed b c → IsServed a c
served-after first second =
    record {
      up = second.up;
      same_device = second.same_device ∙ first.same_device;
      later = le_trans first.later second.later;
    }

pub disk-after : (a b c : FileTree) (r : Result (Unit {0}) DeviceFault) → IsServed a b → LeavesDisk b c r
    → LeavesDisk a c r
disk-after a b c (Ok x) first second = served-after first second
disk-after a b c (Err fault) first second = lost-after first second

pub err-lost : (k new : Kernel) (i : ℕ) (call : Call) (r : Result Came DeviceFault) → IsErr r → IsLost k.tree new.tree
    → ActsOnDisk k new i (Some call) r
err-lost k new i call (Ok came) e lost = absurd (cc)
err-lost k new i call (Err fault) e lost = lost

-- equal old states make the same
pub on-after : {A T : Type 0} (x y z : A) (r : Result T DeviceFault) → x ≡ y → OnOk r (y ≡ z) → OnOk r (x ≡ z)
on-after x y z (Ok t) same made = same ∙ made
on-after x y z (Err fault) same made = tt

pub where-err : {T : Type 0} {P : Type 0} (r : Result T DeviceFault) → P → OnErr r P
where-err (Ok x) p = tt
where-err (Err f) p = p

-- ---- events that do not touch them

started-as : (k : Kernel) (i : ℕ) (o : Option Process) → (started_as k i o).tree ≡ k.tree
started-as k i None = refl
started-as k i (Some p) = refl

pub started-tree : (k : Kernel) (i : ℕ) → (started k i).tree ≡ k.tree
started-tree k i = started-as k i (slot k.table.places i)

stopped-tree : (k : Kernel) (o : Option ℕ) → (stopped_at k o).tree ≡ k.tree
stopped-tree k None = refl
stopped-tree k (Some i) = refl

pub ticked-tree : (k : Kernel) → (ticked k).tree ≡ k.tree
ticked-tree k = stopped-tree k k.spaces.active

pub runs-of : {k : Kernel} {i : ℕ} → k.spaces.active ≡ Some i → k.tree.failed ≡ false → IsKernel k
    → slice_index k.spaces.registers 0 ≡ 0 → k.spaces.pc % 4 ≡ 0 → RunsAt k i
runs-of active up sound zero aligned =
    record { active = active; up = up; sound = sound; zero = zero; aligned = aligned }

-- ---- a call begins, and is settled

aligned-next : (pc : ℕ) → pc % 4 ≡ 0 → plus pc 4 % 4 ≡ 0
aligned-next pc h = omega arith

module _ {k : Kernel} {i : ℕ} (runs : RunsAt k i) where
  begins-row : (o : Option Call) → call_of (low (slice_index k.spaces.registers 17)) ≡ o → let x = here-of runs in
      call (state_of k) i (me x)
      ≡ settle (state_of (entered k)) i (outcome_of (state_of (entered k)) i (self (entered k) x.process x.held) o)
  unfolding call
  begins-row o number = let x =
      here-of runs in rw (
        number,
        ← regs-state k i x.process x.held x.run x.sound k.spaces.registers (plus k.spaces.pc 4),
      ) refl

  pub begins : {e : Kernel} → e ≡ entered k → IsBegun k e i
  begins same =
      let x = here-of runs in
      let to = entered k in
      let run = regs-run k i x.process x.held x.run x.sound to.spaces.registers to.spaces.pc in
      rw same (record {
        runs = record {
          active = runs.active;
          up = runs.up;
          sound = regs-kernel k x.sound to.spaces.registers to.spaces.pc;
          zero = runs.zero;
          aligned =
              aligned-next k.spaces.pc runs.aligned;
        };
        tree = refl;
        row = λ o number. ap (called_by (state_of k) i) (process-here x) ∙ begins-row o number
            ∙ ap (settle (state_of to) i)
            (sym (ap (outcome_by (state_of to) i o) (process-run to i x.process x.held run)));
      })

  pub settles-answer : {last : Kernel} (value : ℕ) → last ≡ answered k value
      → state_of last ≡ settled_by (state_of k) i (Answers value)
  settles-answer value made = rw made (sym (answer-here (here-of runs) value))

  pub settles-blocks : {last : Kernel} {w : Pending} → CanCome k i (Blocks w) → last ≡ blocked k i w
      → state_of last ≡ settled_by (state_of k) i (Blocks w)
  settles-blocks {w = w} can made = let x =
      here-of runs in rw made (sym
      (waits-run k i x.process x.held x.run x.sound runs.zero runs.aligned w
      (rw (ap (λ (o : Option SpaceView). unwrap_or o no_pages) x.run.space, ap descriptors_in x.run.process) at can.0)
      (rw (ap descriptors_in x.run.process) at can.1) x.up))

  -- it ended, or an access failed
  pub settles-exits-if : (last : Kernel) {status meant : ℤ} → meant ≡ status → (r : Result (Unit {0}) DeviceFault)
      → IfOk r (λ done. last ≡ waking (counting (ended k i meant) last.tree.failures) last.table.awake)
      → OnOk r (state_of last ≡ settled_by (state_of k) i (Exits status))
  settles-exits-if last same (Err fault) made = tt
  settles-exits-if last {status} {meant} same (Ok done) made = let x =
      here-of runs in state-but (counting (ended k i meant) last.tree.failures) made
      ∙ ap (λ n. state_of (ended k i n)) same
      ∙ sym (ends-at k i x.process x.held x.run x.sound runs.zero runs.aligned status x.up)

-- the call has the number in a7
pub numbers : (k : Kernel) {a n : ℕ} {call : Option Call} → a ≡ argument k 7 → n ≡ low a → call ≡ call_of n
    → call_of (low (slice_index k.spaces.registers 17)) ≡ call
numbers k a n call = sym (call ∙ ap call_of (n ∙ ap low a))

-- where the device and the console's writer may fail
module _ {k e : Kernel} {i : ℕ} {call : Option Call} (begun : IsBegun k e i)
    (number : call_of (low (slice_index k.spaces.registers 17)) ≡ call) (new : Kernel) (before after : Option (List ℕ))
  where
    pub makes-of : {bytes : List ℕ} {came : Came} → Comes e new i (outcome_at (state_of e) i call) bytes came
        → Appends before after bytes → (last : Kernel) → state_of last ≡ settled_by (state_of new) i came
        → IsMade last (called (state_of k) i) before after
    makes-of {bytes} comes printed last done =
        rw (begun.row call number ∙ comes.makes
        ∙ ap (λ (s : State). let a : After = record { state = s; bytes = bytes } in a) (sym done))
        (record { state = refl; printed = printed })

    -- and what that leaves of the files of the disk
    pub fails-of : (rising : Type 0) (halt : Halt)
        → Tries e new (current e) (outcome_at (state_of e) (current e) call) before after rising (Err halt)
        → Dispatches {X = Unit {0}} new (called (state_of k) i) before after rising (Err halt)
        × LeavesTree {X = Unit {0}} k.tree new.tree (Err halt)
    fails-of rising Console tried =
        ((tried.0, rw (begun.row call number, ← current-is begun.runs.active) tried.1), tried.2 ∙ begun.tree)
    fails-of rising Device tried = (tried.1, subst (λ (t : FileTree). IsLost t new.tree) begun.tree tried.0)
    fails-of rising _ tried = absurd tried

-- ---- a chain of tests refuses

pub given-refused : {X : Type 0} (o : Option X) (rest : X → Outcome)
    → ((x : X) → o ≡ Some x → limited (rest x) ≡ Refused) → limited (given o rest) ≡ Refused
given-refused None rest each = refl
given-refused (Some x) rest each = each x refl

pub provided-refused : (b : Bool) (rest : Outcome) → limited rest ≡ Refused → limited (provided b rest) ≡ Refused
provided-refused true rest is = is
provided-refused false rest is = refl

-- ---- what an outcome makes of the state

abbrev pub after : State → List ℕ → After
after state bytes = record { state = state; bytes = bytes }

-- it is done: it returns, and what nothing names any more goes
pub settle-reaped : (begun new : State) (i value : ℕ) (bytes : List ℕ) {full last : State} {p : unix.Process}
    → change_process new i (with_answer value) ≡ full → process_at full i ≡ Some p → p.killed ≡ false
    → reap full ≡ last → settle begun i (Done new value bytes) ≡ after last bytes
settle-reaped begun new i value bytes {full = full} {p = p} answered at alive reaped =
    ap (λ (s : State). after (end_if_killed s i (process_at s i)) bytes) answered
    ∙ ap (λ (o : Option unix.Process). after (end_if_killed full i o) bytes) at
    ∙ ap (λ (b : Bool). after (if b then end_process full i p (negsuc 0) else reap full) bytes) alive
    ∙ ap (λ (s : State). after s bytes) reaped

module _ {k : Kernel} {i : ℕ} (x : Here k i) (begun : State) (value : ℕ) (bytes : List ℕ) where
  settle-done : settle begun i (Done (state_of k) value bytes) ≡ after (state_of (answered k value)) bytes
  settle-done = let y = answered-here x value
      in settle-reaped begun (state_of k) i value bytes (answer-here x value) (process-here y) (free-here x)
      (reap-state (answered k value) y.sound x.up)

  pub settle-limited : settle begun i (limited (Done (state_of k) value bytes))
      ≡ after (state_of (answered k value)) bytes
  settle-limited = rw (within-state k x.sound x.up) settle-done

-- a call that prints nothing may end in any way
quietly : (c : Came) → MayPrint c []
quietly (Answers value) = tt
quietly _ = refl

module _ {k new : Kernel} {i : ℕ} {o : Outcome} where
  -- new has another state, once it is settled
  pub settles-to : (answer : ℕ) (bytes : List ℕ) → Here new i → IsServed k.tree new.tree
      → settle (state_of k) i o ≡ after (state_of (answered new answer)) bytes → Comes k new i o bytes (Answers answer)
  settles-to answer bytes y served is = record {
    makes = is ∙ ap (λ (s : State). after s bytes) (sym (answer-here y answer));
    active = y.run.active;
    sound = y.sound;
    can = tt;
    printed = tt;
    served = served;
  }

  -- it has the same
  pub refuses-on : o ≡ Refused → state_of new ≡ state_of k → new.spaces.active ≡ Some i → IsKernel new
      → IsServed k.tree new.tree → Comes k new i o [] Refuses
  refuses-on is same active sound served = record {
    makes = ap (settle (state_of k) i) is ∙ ap (λ (s : State). quiet (settled_by s i Refuses)) (sym same);
    active = active;
    sound = sound;
    can = tt;
    printed = refl;
    served = served;
  }

-- an int is the signed reading of its bits
pub int-bits : (n : ℕ) → cast_signed w32 (cast_unsigned w32 (int_of n)) ≡ int_of n
int-bits n = ap (cast_signed w32) (of_z-to_z w32 (low n) (omega arith))

module _ {k : Kernel} {i : ℕ} (x : Here k i) where
  pub outcome-here : (call : Option Call) → outcome_at (state_of k) i call ≡ outcome_of (state_of k) i (me x) call
  outcome-here call = ap (outcome_by (state_of k) i call) (process-here x)

  pub came : (call : Option Call) (c : Came) → CanCome k i c
      → settle (state_of k) i (outcome_of (state_of k) i (me x) call) ≡ quiet (settled_by (state_of k) i c)
      → Acts k k i call c
  came call c can is = record {
    makes = ap (settle (state_of k) i) (outcome-here call) ∙ is;
    active = x.run.active;
    sound = x.sound;
    can = can;
    printed = quietly c;
    served = same-served refl x.up;
  }

  pub refused : (call : Option Call) → outcome_of (state_of k) i (me x) call ≡ Refused → Acts k k i call Refuses
  refused call is = came call Refuses tt (ap (settle (state_of k) i) is)

  -- what its descriptors name
  pub descriptor-is : {d : ℕ} {o : Option ℕ} → d ≡ low (argument k 0) → o ≡ slot (descriptors_at k i) d
      → slot x.process.descriptors (low (argument k 0)) ≡ o
  descriptor-is is at = rw (← descriptors-run x.runner, ← is) (sym at)

  -- where its memory may be written
  pub can-here : (a n : ℕ) {b : Bool} → b ≡ can_write (memory_at k i) a n → can_write x.held.memory a n ≡ b
  can-here a n can = ap (λ (h : SpaceView). can_write h.memory a n) (sym (held-here x)) ∙ sym can

  pub unnamed : (rest : ℕ → Outcome) (call : Call)
      → row_of x call ≡ given (slot x.process.descriptors (low (argument k 0))) rest → {d : ℕ} → d ≡ low (argument k 0)
      → None ≡ slot (descriptors_at k i) d → Acts k k i (Some call) Refuses
  unnamed rest call same is none =
      refused (Some call) (ap limited (same ∙ ap (λ o. given o rest) (descriptor-is is none)))

  -- what the row makes, once it is settled
  pub settles : {new : Kernel} (call : Call) (answer : ℕ) → Here new i → IsServed k.tree new.tree
      → settle (state_of k) i (outcome_of (state_of k) i (me x) (Some call)) ≡ quiet (state_of (answered new answer))
      → Acts k new i (Some call) (Answers answer)
  settles call answer y served is =
      settles-to answer [] y served (ap (settle (state_of k) i) (outcome-here (Some call)) ∙ is)

  pub does : {new : Kernel} (call : Call) (answer : ℕ) → Here new i → IsServed k.tree new.tree
      → row_of x call ≡ Done (state_of new) answer [] → Acts k new i (Some call) (Answers answer)
  does call answer y served is =
      settles call answer y served
      (ap (λ (o : Outcome). settle (state_of k) i (limited o)) is ∙ settle-limited y (state_of k) answer [])

  -- a step of the kernel leaves the process running and the files of the disk alone
  step-here : {new made : Kernel} → IsKernel new → new ≡ made → made.spaces.active ≡ k.spaces.active
      → made.tree ≡ k.tree → Here new i × IsServed k.tree new.tree
  step-here sound is active same =
      let tree = ap (λ (y : Kernel). y.tree) is ∙ same in
      (here-as x sound is active (ap (λ (t : FileTree). t.failed) tree ∙ x.up), same-served tree x.up)

  -- and makes state s
  pub makes : {new made : Kernel} {s : State} (call : Call) (answer : ℕ) → IsKernel new → new ≡ made
      → made.spaces.active ≡ k.spaces.active → made.tree ≡ k.tree → state_of made ≡ s
      → row_of x call ≡ Done s answer [] → Acts k new i (Some call) (Answers answer)
  makes call answer sound new-is active same state is = let y =
      step-here sound new-is active same in does call answer y.0 y.1 (rw (ap state_of new-is ∙ state) is)

  -- it has other descriptors, or works in another directory, and what nothing names any more goes
  pub settles-gone : (ds : List (Option ℕ)) (directory : ℕ) → length ds ≡ length x.process.descriptors → {last : State}
      → let p : unix.Process = record (me x) { descriptors = ds; directory = directory } in
      reap (put_process (state_of (answered k 0)) i (with_answer 0 p)) ≡ last
      → settle (state_of k) i (limited (Done (put_process (state_of k) i p) 0 [])) ≡ quiet last
  settles-gone ds directory same reaped =
      let p : unix.Process = record (me x) { descriptors = ds; directory = directory } in
      rw (renamed-within x.runner ds directory same x.up)
      (settle-reaped (state_of k) (put_process (state_of k) i p) i 0 [] (
      change-put i (state_of k) p (with_answer 0) (slot-within (state_of k).places i (me x) (process-here x))
      ∙ ap (λ (ps : List (Option unix.Process)). record (state_of k) { places = ps })
      (sym (set-set (state_of k).places i (Some (with_answer 0 (me x))) (Some (with_answer 0 p))))
      ∙ ap (λ (s : State). put_process s i (with_answer 0 p))
      (sym (regs-state k i x.process x.held x.run x.sound (slice_set k.spaces.registers 10 0) k.spaces.pc)))
      (slot-put (state_of (answered k 0)).places i (Some (with_answer 0 p))
      (slot-within (state_of (answered k 0)).places i _ (process-here (answered-here x 0)))) (free-here x) reaped)

  -- ---- a pending call that goes on

  module _ (w : Pending) where
    abbrev pub going : Outcome
    going = goes_on (state_of k) i (me x) w w.number

    pub going-here : going_at (state_of k) i w ≡ going
    going-here = ap (going_by (state_of k) i w) (process-here x)

    -- it is done, or waits with v
    pub goes-serves : {new : Kernel} (answer : ℕ) → Here new i → IsServed k.tree new.tree
        → going ≡ Done (state_of new) answer [] → GoesOn k new i w (Answers answer)
    goes-serves {new} answer y served is = record {
      comes = settles-to answer [] y served
          (ap (settle (state_of k) i) (going-here ∙ is) ∙ settle-done y (state_of k) answer []);
      within = rw (going-here ∙ is)
          (ap (λ (b : Bool). provided b (Done (state_of new) answer [])) (within-state new y.sound y.up));
    }

    -- a step of the kernel makes state s
    pub goes-done : {new made : Kernel} {s : State} (answer : ℕ) → IsKernel new → new ≡ made
        → made.spaces.active ≡ k.spaces.active → made.tree ≡ k.tree → state_of made ≡ s → going ≡ Done s answer []
        → GoesOn k new i w (Answers answer)
    goes-done answer sound new-is active same state is = let y =
        step-here sound new-is active same in goes-serves answer y.0 y.1 (rw (ap state_of new-is ∙ state) is)

    pub goes-waits : {new made : Kernel} {s : State} (v : Pending) → IsKernel new → new ≡ made
        → made.spaces.active ≡ k.spaces.active → made.tree ≡ k.tree → CanWait made i v → state_of made ≡ s
        → going ≡ Waits s v → GoesOn k new i w (Blocks v)
    goes-waits {new} v sound new-is active same can state is =
        let y = step-here sound new-is active same in
        let outcome : going_at (state_of k) i w ≡ Waits (state_of new) v =
        rw (ap state_of new-is ∙ state) (going-here ∙ is) in
        record {
          comes = record {
            makes = ap (settle (state_of k) i) outcome;
            active = y.0.run.active;
            sound = sound;
            can = rw new-is can;
            printed = refl;
            served = y.1;
          };
          within = rw outcome refl;
        }

    -- a call that begins so goes on at once
    pub begins-on : {new : Kernel} {c : Came} (call : Call) → row_of x call ≡ going → GoesOn k new i w c
        → Acts k new i (Some call) c
    begins-on call is goes = rw (outcome-here (Some call) ∙ ap limited (is ∙ sym going-here) ∙ goes.within) goes.comes

    module _ (is : w.number ≡ Sleep) where
      -- it has slept, or sleeps on
      pub sleeps-over : has_slept k.ticks w ≡ true → GoesOn k k i w (Answers 0)
      unfolding sleep_on
      sleeps-over over = goes-done 0 x.sound refl refl refl refl (rw (is, over) refl)

      pub sleeps-on : has_slept k.ticks w ≡ false → GoesOn k k i w (Blocks w)
      unfolding sleep_on
      sleeps-on more = goes-waits w x.sound refl refl refl
          (rw is tt, waits-other _ _ w Sleep (λ same. absurd (cc)) (λ same. absurd (cc)) is) refl (rw (is, more) refl)

  -- ---- getpid, uptime, exit and sleep

  pub getpids : (pid : ℕ) → IfSome (slot k.table.places i) (λ p. pid ≡ p.pid) → Acts k k i (Some Getpid) (Answers pid)
  getpids pid is = let e : pid ≡ x.process.pid =
      rw x.run.process at is in rw e (makes Getpid x.process.pid x.sound refl refl refl refl refl)

  pub uptimes : (ticks : ℕ) → ticks ≡ k.ticks → Acts k k i (Some Uptime) (Answers ticks)
  uptimes ticks is = rw is (makes Uptime k.ticks x.sound refl refl refl refl refl)

  pub exits : Acts k k i (Some Exit) (Exits (int_of (argument k 0)))
  exits = came (Some Exit) (Exits (int_of (argument k 0))) (int-bits (argument k 0))
      (ap (λ (o : Option unix.Process). quiet (end_at (state_of k) i (int_of (argument k 0)) o)) refl)

  pub sleeps : {c : Came} → GoesOn k k i (pending_for k Sleep) c → Acts k k i (Some Sleep) c
  sleeps goes = begins-on (pending_for k Sleep) Sleep refl goes

-- a call with an unknown number
pub unbuilt : {k : Kernel} {i : ℕ} {call : Option Call} → (other : Option Call) → RunsAt k i → call ≡ other
    → ((p : unix.Process) → outcome_of (state_of k) i p other ≡ Refused) → (at : Option (List ℕ))
    → (bytes : List ℕ) × Comes k k i (outcome_at (state_of k) i call) bytes Refuses × Appends at at bytes
unbuilt other runs is none at = let x = here-of runs in rw is ([], refused x other (none (me x)), Appends-nil at)
