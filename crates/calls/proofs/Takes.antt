-- Events: a tick, a key, and a step, in which the running process does an instruction, or a process is picked where
-- none runs.
use Rattle.calls.proofs.Common.{After, ap, Appends, Appends-nil, Bool, called, called_by, Came, CanWait, computed}
use Rattle.calls.proofs.Common.{Console, counting, descriptors_in, Device, DeviceFault, Dispatches, effect_of}
use Rattle.calls.proofs.Common.{end_process, ended, ends-run, Err, EventGives, execute, execute_at, false, FileTree}
use Rattle.calls.proofs.Common.{goes_on, GoesOn, going_at, going_by, Halt, halt_of, IfOk, if◌then◌else◌, IsKernel}
use Rattle.calls.proofs.Common.{IsMade, IsPending, Kernel, kernel-waking, Key, key, LeavesDisk, LeavesTree, List, lives}
use Rattle.calls.proofs.Common.{me_of, Memory, memory_at, moved-state, negsuc, no_pages, None, Ok, OnOk, Option}
use Rattle.calls.proofs.Common.{Pending, picked, Process, process-run, process_at, quiet, refl, Result, resume, Runner}
use Rattle.calls.proofs.Common.{running-state, RunsAt, settle, settled_by, slice_index, slot, Some, SpaceView, started}
use Rattle.calls.proofs.Common.{State, state-but, state-waking, state_of, Step, step, stopped_at, stops-run, subst, sym}
use Rattle.calls.proofs.Common.{take_turn, Tick, ticked, true, turn, turn-alive, typed, unwrap_or, waking, with_space}
use Rattle.calls.proofs.Common.{ℕ, ℤ, ◌%◌, ◌+◌, ◌^◌, ◌∙◌, ◌≡◌}
use Rattle.unixmodel.specs.declared.process.Mode.TheVariants.{Ready, Running, Waiting, Zombie}
use Rattle.kernel.proofs.Picking.{picked-state, picks-killed, picks-ready, started-is, started-kernel, started-run}
use Rattle.kernel.proofs.Picking.{started-state, started_to}
use Rattle.unixmodel.specs.declared.process.Mode.{Mode}
use Rattle.kernel.proofs.Runs.{IsRun, IsThere, process-idle, run-of, there-of}
use Rattle.kernel.proofs.Steps.{computed-is, held-run, placed-with}
use Rattle.kernel.specs.Sound.{CanRun, IsAlive, IsAwaiting, IsLive, IsMode, WaitsAs, WaitsWell}
use Rattle.unixmodel.specs.Next.{acted, is_ecall, memory_after, pick}
use Rattle.unixmodel.specs.Cycle.{cycle}
use Rattle.unixmodel.specs.declared.trap.Trap.{Trap}
use Rattle.unixmodel.specs.Meaning.{Computed}
use Rattle.calls.specs.Gives.{halt_after}
use Rattle.calls.specs.Resuming.{taken, taken_by}
use Rattle.unixmodel.specs.Next as next
use Rattle.unixmodel.specs.Process as unix

-- ---- how an event begins

-- a step where a process runs does an instruction
pub next-executes : (k : Kernel) (i : ℕ) → IsKernel k → k.spaces.active ≡ Some i
    → next.next (state_of k) Step ≡ execute_at (state_of k) i (process_at (state_of k) i)
unfolding next.next
next-executes k i is active = ap (step (state_of k)) (running-state k is ∙ active)

-- a step where none runs makes a turn
pub next-turns : (k : Kernel) → IsKernel k → k.spaces.active ≡ None
    → next.next (state_of k) Step ≡ take_turn (state_of k) (turn (state_of k))
unfolding next.next
next-turns k is idle = ap (step (state_of k)) (running-state k is ∙ idle)

ticks-go : (k : Kernel) (o : Option ℕ) → IsKernel k → slice_index k.spaces.registers 0 ≡ 0 → k.spaces.pc % 4 ≡ 0
    → k.spaces.active ≡ o → next.stopped (state_of k) o ≡ state_of (stopped_at k o)
ticks-go k None is z a active = refl
ticks-go k (Some i) is z a active = let run = run-of k i is active in stops-run k i run.0 run.1.0 run.1.1 is z a

pub next-ticks : (k : Kernel) → IsKernel k → slice_index k.spaces.registers 0 ≡ 0 → k.spaces.pc % 4 ≡ 0
    → next.next (state_of k) Tick ≡ quiet (state_of (ticked k))
unfolding next.next
next-ticks k is z a =
    ap (λ (o : Option ℕ). quiet (record (next.stopped (state_of k) o) { ticks = (k.ticks + 1) % 2 ^ 32 }))
    (running-state k is)
    ∙ ap (λ (s : State). quiet (record s { ticks = (k.ticks + 1) % 2 ^ 32 })) (ticks-go k k.spaces.active is z a refl)

pub next-keys : (k : Kernel) (b : ℕ)
    → next.next (state_of k) (Key b)
    ≡ record { state = state_of (typed k (key k.console b).console); bytes = (key k.console b).echo }
unfolding next.next
next-keys k b = refl

pub keys-made : (k new : Kernel) (b : ℕ) (before after : Option (List ℕ))
    → new ≡ waking (typed k (key k.console b).console) new.table.awake → Appends before after (key k.console b).echo
    → IsMade new (next.next (state_of k) (Key b)) before after
keys-made k new b before after made printed =
    rw (next-keys k b) (record { state = state-but (typed k (key k.console b).console) made; printed = printed })

-- ---- results

-- nothing is printed
pub made-quiet : (new : Kernel) (a : After) (at : Option (List ℕ)) → a ≡ quiet (state_of new) → IsMade new a at at
made-quiet new a at made = rw made (record { state = refl; printed = Appends-nil at })

-- a process ended, unless an access failed
pub ends-if : (new e : Kernel) (a : After) (r : Result (Unit {0}) DeviceFault)
    → IfOk r (λ done. new ≡ waking (counting e new.tree.failures) new.table.awake) → a ≡ quiet (state_of e)
    → OnOk r (a ≡ quiet (state_of new))
ends-if new e a (Ok done) made is = is ∙ ap quiet (sym (state-but (counting e new.tree.failures) made))
ends-if new e a (Err fault) made is = tt

-- the result of what was made says how the machine halts
pub does-made : (new : Kernel) (a : After) (before after : Option (List ℕ)) (rising : Type 0) (o : Option ℤ)
    → new.halted ≡ o → IsMade new a before after → EventGives new a before after rising (halt_of o)
does-made new a before after rising None halts made =
    record { state = made.state; halts = ap (λ (s : State). s.halted) (sym made.state) ∙ halts; printed = made.printed }
does-made new a before after rising (Some status) halts made =
    record { state = made.state; halts = ap (λ (s : State). s.halted) (sym made.state) ∙ halts; printed = made.printed }

-- a turn took the process that it picked
pub took-gives : (new : Kernel) (a : After) (at : Option (List ℕ)) (r : Result (Unit {0}) DeviceFault)
    → OnOk r (a ≡ quiet (state_of new)) → EventGives new a at at ⊥ (halt_after r new.halted)
took-gives new a at (Ok done) made = does-made new a at at ⊥ new.halted refl (made-quiet new a at made)
took-gives new a at (Err fault) made = Appends-nil at

pub took-leaves : (old new : FileTree) (halted : Option ℤ) (r : Result (Unit {0}) DeviceFault) → LeavesDisk old new r
    → LeavesTree {X = Unit {0}} old new (halt_after r halted)
took-leaves old new None (Ok done) leaves = leaves
took-leaves old new (Some status) (Ok done) leaves = leaves
took-leaves old new halted (Err fault) leaves = leaves

-- the device or the console failed
pub does-err : (new : Kernel) (a b : After) (before after : Option (List ℕ)) (rising : Type 0) (e : Halt) → a ≡ b
    → Dispatches {X = Unit {0}} new b before after rising (Err e) → EventGives new a before after rising (Err e)
does-err new a b before after rising Device same made = made
does-err new a b before after rising Console same made = (made.0, rw same made.1)
does-err new a b before after rising _ same made = absurd made

-- ---- the running process

module _ {k : Kernel} {i : ℕ} (x : Runner k i) where
  pub effect-is : {r : Result Computed Trap} → cycle k.spaces.registers k.spaces.pc (memory_at k i) ≡ r
      → effect_of (me_of x) ≡ r
  unfolding effect_of
  effect-is means = ap (λ (h : SpaceView). cycle k.spaces.registers k.spaces.pc h.memory)
      (sym (held-run k i x.process x.held x.run x.sound)) ∙ means

  effect-run : {r : Result Computed Trap} → cycle k.spaces.registers k.spaces.pc (memory_at k i) ≡ r
      → execute_at (state_of k) i (process_at (state_of k) i) ≡ acted (state_of k) i (me_of x) r
  unfolding execute
  effect-run means = ap (execute_at (state_of k) i) (process-run k i x.process x.held x.run)
      ∙ ap (acted (state_of k) i (me_of x)) (effect-is means)

  pub step-computes : {d : Computed} → cycle k.spaces.registers k.spaces.pc (memory_at k i) ≡ Ok d
      → execute_at (state_of k) i (process_at (state_of k) i) ≡ quiet (state_of (computed k i d))
  step-computes {d} means =
      effect-run means
      ∙ ap quiet (sym (ap state_of (computed-is k i x.process x.held x.run x.sound d)
      ∙ moved-state k i x.process x.held x.run x.sound x.process
      (record x.held { memory = memory_after x.held.memory d.change }) d.regs d.pc
      (placed-with k i x.process x.held x.run x.sound
      (record x.held { memory = memory_after x.held.memory d.change })) x.run.runs))

  module _ {t : Trap} (means : cycle k.spaces.registers k.spaces.pc (memory_at k i) ≡ Err t) where
    pub step-calls : is_ecall t.cause ≡ true
        → execute_at (state_of k) i (process_at (state_of k) i) ≡ called (state_of k) i
    step-calls ecall = effect-run means
        ∙ rw ecall (sym (ap (called_by (state_of k) i) (process-run k i x.process x.held x.run)))

    pub step-faults : k.tree.failed ≡ false → slice_index k.spaces.registers 0 ≡ 0 → k.spaces.pc % 4 ≡ 0
        → is_ecall t.cause ≡ false
        → execute_at (state_of k) i (process_at (state_of k) i) ≡ quiet (state_of (ended k i (negsuc 0)))
    step-faults up z a fault = effect-run means
        ∙ rw fault (ap quiet (ends-run k i x.process x.held x.run x.sound z a (negsuc 0) up))

-- ---- a picked process

-- the process in a slot goes on with its pending call
abbrev pub resumed_in : State → ℕ → unix.Process → Mode → After
resumed_in s i p Running = quiet s
resumed_in s i p Ready = quiet s
resumed_in s i p (Waiting w) = resume s i p w
resumed_in s i p (Zombie status) = quiet s

abbrev pub resumed_by : State → ℕ → Option unix.Process → After
resumed_by s i None = quiet s
resumed_by s i (Some p) = resumed_in s i p p.mode

abbrev pub resumed : State → ℕ → After
resumed s i = resumed_by s i (process_at s i)

-- it waits with this pending call, and is not killed
abbrev pub WaitsIn : Option Process → Pending → Type 0
WaitsIn None w = ⊥
WaitsIn (Some p) w = (p.mode ≡ Waiting w) × (p.killed ≡ false)

alive-some : (o : Option Process) → IsAlive o → (p : Process) × (o ≡ Some p)
alive-some None alive = absurd alive
alive-some (Some p) alive = (p, refl)

live-mode : (p : Process) (m : Memory) (mode : Mode) → mode ≡ Ready → IsMode p m mode → IsLive p
live-mode p m mode e is = rw e at is

module _ (k : Kernel) (i : ℕ) (p : Process) (is : IsKernel k) (none : k.spaces.active ≡ None)
    (at : slot k.table.places i ≡ Some p) (up : k.tree.failed ≡ false) where
  there : (h : SpaceView) × IsThere k i p h
  there = there-of k i p is at

  taken-is : taken (state_of k) i ≡ next.picked (state_of k) i (with_space there.0 p)
  taken-is = ap (taken_by (state_of k) i) (process-idle k i none there.1)

  pub takes-killed : slice_index k.spaces.registers 0 ≡ 0 → k.spaces.pc % 4 ≡ 0 → IsAlive (slot k.table.places i)
      → p.killed ≡ true → taken (state_of k) i ≡ quiet (state_of (ended k i (negsuc 0)))
  takes-killed z a alive killed = taken-is ∙ picks-killed k i p there.0 is none there.1 (rw at at alive) up z a killed

  pub takes-ready : p.killed ≡ false → p.mode ≡ Ready → taken (state_of k) i ≡ quiet (state_of (started k i))
  takes-ready free ready = let t = there in taken-is
      ∙ picks-ready k i p t.0 is none t.1 (rw ready refl) (live-mode p t.0.memory p.mode ready t.1.placed.mode) free
      ready

  pub takes-waiting : {w : Pending} → p.killed ≡ false → p.mode ≡ Waiting w
      → taken (state_of k) i ≡ resumed (state_of k) i
  takes-waiting free waits =
      let whole = with_space there.0 p in
      taken-is
      ∙ ap (λ (b : Bool). if b then quiet (end_process (state_of k) i whole (negsuc 0))
      else next.picked_in (state_of k) i whole whole.mode) free
      ∙ ap (next.picked_in (state_of k) i whole) waits
      ∙ sym (ap (resumed_in (state_of k) i whole) waits)
      ∙ sym (ap (resumed_by (state_of k) i) (process-idle k i none there.1))

-- the slot that a turn picks is taken
pub turn-takes : (k : Kernel) (i : ℕ) → IsKernel k → k.spaces.active ≡ None → turn (state_of k) ≡ Some i
    → take_turn (state_of k) (turn (state_of k)) ≡ taken (state_of (picked k i)) i
turn-takes k i is none found =
    let some = alive-some (slot k.table.places i) (turn-alive k none i found) in
    let at = process-idle k i none (there-of k i some.0 is some.1).1 in
    ap (take_turn (state_of k)) found
    ∙ ap (pick (state_of k) i) at
    ∙ sym (ap (taken_by (record (state_of k) { last = i }) i) at)
    ∙ sym (ap (λ (s : State). taken s i) (picked-state k i none))

-- ---- a process that waits runs again, and its call goes on

-- a process that waits and may go on
pub record IsResting (k : Kernel) (i : ℕ) (p : Process) (h : SpaceView) (w : Pending) : Type 0 where
  pub there : IsThere k i p h
  pub alive : lives p ≡ true
  pub live : IsLive p
  pub free : p.killed ≡ false
  pub waits : p.mode ≡ Waiting w
  pub pending : IsPending p.descriptors h.memory w w.number

resting-mode : (p : Process) (m : Memory) (w : Pending) (mode : Mode) → mode ≡ Waiting w → IsMode p m mode
    → IsLive p × IsPending p.descriptors m w w.number
resting-mode p m w mode e is = rw e at is

pub resting-of : (k : Kernel) (i : ℕ) (w : Pending) (o : Option Process) → IsKernel k → slot k.table.places i ≡ o
    → WaitsIn o w → (p : Process) × ((h : SpaceView) × IsResting k i p h w)
resting-of k i w None is at waits = absurd waits
resting-of k i w (Some p) is at waits =
    let t = there-of k i p is at in
    let m = resting-mode p t.0.memory w p.mode waits.0 t.1.placed.mode in (
      p,
      (
        t.0,
        record {
          there = t.1;
          alive = rw waits.0 refl;
          live = m.0;
          free = waits.1;
          waits = waits.0;
          pending = m.1;
        },
      ),
    )

-- the process in slot i, which waited with w in kernel k, runs again in kernel s
pub record Resumes (k s : Kernel) (i : ℕ) (w : Pending) : Type 0 where
  pub runs : RunsAt s i
  pub can : CanWait s i w
  pub row : resumed (state_of k) i ≡ settle (state_of s) i (going_at (state_of s) i w)

module _ (k : Kernel) (i : ℕ) (p : Process) (h : SpaceView) (w : Pending) (is : IsKernel k)
    (none : k.spaces.active ≡ None) (up : k.tree.failed ≡ false) (f : IsResting k i p h w) where
  abbrev to : Kernel
  to = started_to k i p h is none f.there f.alive

  awaits : IsAwaiting k.files p.descriptors w
  awaits = subst (WaitsAs k.files p.descriptors) f.waits (subst (WaitsWell k.files) f.there.process (is.opened.waits i))

  runs : IsRun to i (record p { mode = Running }) h
  runs = started-run k i p h is none f.there f.alive f.live f.free

  goes : resumed (state_of k) i ≡ settle (state_of to) i (going_at (state_of to) i w)
  unfolding resume
  goes =
      ap (resumed_by (state_of k) i) (process-idle k i none f.there)
      ∙ ap (resumed_in (state_of k) i (with_space h p)) f.waits
      ∙ ap (λ (s : State). settle s i (goes_on s i (with_space h (record p { mode = Running })) w w.number))
      (sym (started-state k i p h is none f.there f.alive f.live f.free))
      ∙ sym (ap (λ (o : Option unix.Process). settle (state_of to) i (going_by (state_of to) i w o))
      (process-run to i (record p { mode = Running }) h runs))

  resting : Resumes k to i w
  resting = record {
    runs = record {
      active = refl;
      up = up;
      sound = started-kernel k i p h is none f.there f.alive f.live f.free;
      zero = f.there.placed.zero;
      aligned = f.there.placed.aligned;
    };
    can = (
      rw (ap descriptors_in runs.process, ap (λ (o : Option SpaceView). unwrap_or o no_pages) runs.space)
          f.pending,
      rw (ap descriptors_in runs.process) awaits,
    );
    row = goes;
  }

module _ {k : Kernel} (i : ℕ) (w : Pending) (is : IsKernel k) (none : k.spaces.active ≡ None)
    (up : k.tree.failed ≡ false) (waits : WaitsIn (slot k.table.places i) w) where
  pub waiting-can : CanRun (slot k.table.places i)
  waiting-can = let r = resting-of k i w (slot k.table.places i) is refl waits in let f =
      r.1.1 in rw f.there.process (f.live, rw f.waits refl, f.free)

  resumes-started : Resumes k (started k i) i w
  resumes-started =
      let r = resting-of k i w (slot k.table.places i) is refl waits in
      let f = r.1.1 in
      rw (started-is k i r.0 r.1.0 is none f.there f.alive) (resting k i r.0 r.1.0 w is none up f)

  pub resumes-as : {s : Kernel} → s ≡ waking (started k i) s.table.awake → Resumes k s i w
  resumes-as {s} same = let runs = resumes-started.runs in subst (λ (y : Kernel). Resumes k y i w) (sym same) (record {
    runs = record {
      active = runs.active;
      up = runs.up;
      sound = kernel-waking runs.sound s.table.awake;
      zero = runs.zero;
      aligned = runs.aligned;
    };
    can = resumes-started.can;
    row = resumes-started.row
        ∙ ap (λ (x : State). settle x i (going_at x i w)) (sym (state-waking (started k i) s.table.awake));
  })

-- it has gone on once its call is settled, unless an access failed
pub goes-if : {k new : Kernel} {i : ℕ} {w : Pending} {came : Came} → GoesOn k new i w came → (last : State)
    → (r : Result (Unit {0}) DeviceFault) → OnOk r (last ≡ settled_by (state_of new) i came)
    → OnOk r (settle (state_of k) i (going_at (state_of k) i w) ≡ quiet last)
goes-if on last (Ok done) settled = on.comes.makes ∙ ap quiet (sym settled)
goes-if on last (Err fault) settled = tt
