-- The kernel's own steps keep what a kernel keeps: it stops to run a process, does an instruction, and reads.
use Rattle.kernel.proofs.Common.{true, false, ◌≡◌, ℕ, ◌≤◌, ◌%◌, Some, refl, ap, subst, sym, ◌∙◌, slice_index, unwrap_or}
use Rattle.kernel.proofs.Common.{descriptors_in, Kernel, blocked, computed, descriptors_at, left_as, FileTree, IsInUse}
use Rattle.kernel.proofs.Common.{IsKernel, IsPlaced, Keeps, true≢false, Process, SpaceView, view_at, no_pages}
use Rattle.kernel.proofs.Common.{taken_frames, Ready, Pending, Computed, Waiting, zero, suc, List, Option, Err, IfSome}
use Rattle.kernel.proofs.Common.{awaited_in, IsWatched, opens_of, Spaces, Trap, IfNone, Ok, None, same_Some, ◌<◌, ℤ}
use Rattle.kernel.proofs.Common.{ended, on_hart, state_of, end_at, end_process, reap, change_process, process_at}
use Rattle.kernel.proofs.Common.{if◌then◌else◌, length-set, IsMode, idle, base, rest_of, home_in, put, put_process}
use Rattle.kernel.proofs.Common.{State, with_space, with_table, is_running_mode, is_zombie_mode, Mode, set-set, all-set}
use Rattle.kernel.proofs.Common.{IsPlace, counting, arith, le_trans, IfOk, OnErr, Result, DeviceFault, Serves, OnOk}
use Rattle.kernel.proofs.Common.{HasCause, slot}
use Rattle.kernel.proofs.Runs.{IsRun, moved, moved-kernel, run-of, set-slot, live, not-killed, runs-mode, put-same}
use Rattle.kernel.proofs.Runs.{runs-set, state-run, with_process, within-run, home-running, process-run, self}
use Rattle.kernel.proofs.Runs.{change-run}
use Rattle.kernel.proofs.Reaping.{reap-state}
use Rattle.spaces.specs.Spaces as spaces
use Rattle.unixmodel.specs.Next.{memory_after}
use Rattle.spaces.proofs.SpacesLemmas.{advances-last, advances-same, computed-frames}
use Rattle.spaces.specs.Instructions.{Advances, Does}
use Rattle.kernel.proofs.Changes.{ended-is, ended-state, last-run, mode-kept, other-at}
use Rattle.kernel.proofs.Holding.{used-put, Pipes, Processes}
use Rattle.kernel.proofs.Joined.{opened-put}
use Rattle.unixmodel.specs.Process as unix
use Rattle.std.specs.Prelude.{IsErr}
use Rattle.kernel.specs.Sound.{IsAwaiting, IsPending, WaitsAs}
use Rattle.unixmodel.specs.Cycle.{cycle}
use Rattle.kernel.specs.Disk.{HasRead, IsLost, LeavesDisk, ReadsDisk}

-- ---- the running process runs no more: it ends, waits, or is ready again

module _ (k : Kernel) (i : ℕ) (p : Process) (h : SpaceView) (r : IsRun k i p h) (is : IsKernel k) where
  module _ (z : slice_index k.spaces.registers 0 ≡ 0) (a : k.spaces.pc % 4 ≡ 0) where
    pub ends-run : (status : ℤ) → k.tree.failed ≡ false
        → end_process (state_of k) i (self k p h) status ≡ state_of (ended k i status)
    ends-run status up =
        let last = last-run k i p h r in
        ended-state k is z a i _ h last status up ∙ sym (ap state_of (ended-is k is z a i _ h last status))

    pub ends-at : (status : ℤ) → k.tree.failed ≡ false
        → end_at (state_of k) i status (process_at (state_of k) i) ≡ state_of (ended k i status)
    ends-at status up = ap (end_at (state_of k) i status) (process-run k i p h r) ∙ ends-run status up

    -- ---- it is in another mode

    module _ (mode : Mode) (rests : is_running_mode mode ≡ false) (alive : is_zombie_mode mode ≡ false)
        (may : IsMode p h.memory mode) (well : WaitsAs k.files p.descriptors mode) where
      abbrev q : Process
      q = record p { registers = k.spaces.registers; pc = k.spaces.pc; mode = mode }

      abbrev to : Kernel
      to = record k { table = with_process k.table i q; spaces = idle k.spaces }

      left-is : left_as k i mode ≡ to
      left-is = rw r.process refl

      q-placed : IsPlaced q h
      q-placed = record { zero = z; aligned = a; mode = mode-kept p p.parent _ _ _ mode mode may }

      pub left-kernel : IsKernel (left_as k i mode)
      left-kernel = rw left-is (record {
        all = length-set k.table.places i (Some q) ∙ is.all;
        spaces = is.spaces;
        stands = all-set (λ j x. IsPlace x (slot k.spaces.places j)) _ i _ (rw r.space q-placed) is.stands;
        runs = runs-set _ i _ _ None (within-run k i p h r) rests (λ j other. rw (r.active, other-at i j other) refl)
            is.runs;
        used = λ up. used-put (is.used up) i (Some q)
            (ap (λ b. if b then None else Some p.directory) alive ∙ sym (ap home_in r.process ∙ home-running p r.runs));
        fits = is.fits;
        opened = opened-put _ _ _ i _ (sym (ap descriptors_in r.process)) well is.opened;
      })

      pub left-state : change_process (state_of k) i (unix.with_mode mode) ≡ state_of (left_as k i mode)
      left-state =
          let held = on_hart k.spaces p in
          let twice : put k.table.places i q ≡ put (put k.table.places i held) i q =
          sym (set-set k.table.places i (Some held) (Some q)) in
          change-run k i p h r is (unix.with_mode mode)
          ∙ sym (ap state_of left-is
          ∙ ap (λ (places : Processes). with_table (base (rest_of k)) (record k.table { places = places })
          k.spaces.places) twice
          ∙ put-same (base (rest_of k)) (with_process k.table i held) _ i q r.space
          ∙ sym (ap (λ (s : State). put_process s i (with_space h q)) (state-run k i p h r)))

    pub waits-run : (w : Pending) → IsPending p.descriptors h.memory w w.number → IsAwaiting k.files p.descriptors w
        → k.tree.failed ≡ false → reap (change_process (state_of k) i (unix.with_mode (Waiting w)))
        ≡ state_of (blocked k i w)
    waits-run w pending for up =
        let l = live k i p h r is in
        ap reap (left-state _ refl refl (l, pending) for) ∙ reap-state _ (left-kernel _ refl refl (l, pending) for) up

    pub stops-run : change_process (state_of k) i (unix.with_mode Ready) ≡ state_of (left_as k i Ready)
    stops-run = left-state Ready refl refl (live k i p h r is) tt

pub block-keeps : {k : Kernel} {i : ℕ} {w : Pending} → IsKernel k → k.spaces.active ≡ Some i
    → slice_index k.spaces.registers 0 ≡ 0 → k.spaces.pc % 4 ≡ 0
    → IsPending (descriptors_at k i) (view_at k.spaces i).memory w w.number → IsAwaiting k.files (descriptors_at k i) w
    → IsKernel (blocked k i w)
block-keeps {k} {i} {w} is active z a pending for =
    let run = run-of k i is active in
    let held : view_at k.spaces i ≡ run.1.0 = ap (λ o. unwrap_or o no_pages) run.1.1.space in
    left-kernel k i run.0 _ run.1.1 is z a _ refl refl
    (live k i run.0 _ run.1.1 is, rw (held, ap descriptors_in run.1.1.process) at pending)
    (rw (ap descriptors_in run.1.1.process) at for)

-- other files, which are in use while no access of the device has failed
pub with-tree : {k : Kernel} → IsKernel k → (t : FileTree) → (t.failed ≡ false → IsInUse t k.files k.table.places)
    → IsKernel (record k { tree = t })
with-tree is t used = record {
  all = is.all;
  spaces = is.spaces;
  stands = is.stands;
  runs = is.runs;
  fits = is.fits;
  opened = is.opened;
  used = used;
}

-- an access has failed
pub fail-kernel : {k : Kernel} → IsKernel k → (t : FileTree) → t.failed ≡ true → IsKernel (record k { tree = t })
fail-kernel is t down = with-tree is t (λ up. absurd (true≢false (sym down ∙ up)))

pub fail-keeps : {k : Kernel} → Keeps k → (t : FileTree) → t.failed ≡ true → Keeps (record k { tree = t })
fail-keeps keeps t down = record { sound = fail-kernel keeps.sound t down; watched = keeps.watched }

-- ---- an instruction

module _ (k : Kernel) (i : ℕ) (p : Process) (h : SpaceView) (r : IsRun k i p h) (is : IsKernel k) where
  -- the running process may have any space
  pub placed-with : (other : SpaceView) → IsPlaced p other
  placed-with other = record {
    zero = r.placed.zero;
    aligned = r.placed.aligned;
    mode = runs-mode p _ _ r.runs (live k i p h r is) (not-killed k i p h r is);
  }

  pub held-run : view_at k.spaces i ≡ h
  held-run = ap (λ o. unwrap_or o no_pages) r.space

  module _ (d : Computed) where
    pub computed-is : computed k i d ≡ moved k i p (record h { memory = memory_after h.memory d.change }) d.regs d.pc
    computed-is = rw (held-run, set-slot _ i _ r.process) refl

    pub computed-kernel : taken_frames (computed k i d).spaces ≤ k.spaces.frames → IsKernel (computed k i d)
    computed-kernel fits =
        rw computed-is (moved-kernel k i p h r is p _ _ d.pc (placed-with _) r.runs refl refl
        (subst (λ (x : Kernel). taken_frames x.spaces ≤ k.spaces.frames) computed-is fits))

-- a kernel with other spaces, in which a process runs
pub record GoesOn (k : Kernel) (i : ℕ) (new : Spaces) : Type 0 where
  pub sound : IsKernel (record k { spaces = new })
  pub active : new.active ≡ Some i
  pub pipes : new.pipes ≡ k.spaces.pipes

does-on : (k : Kernel) (i : ℕ) (mid new : Spaces) → GoesOn k i mid → Does mid i new → GoesOn k i new
does-on k i mid new before does =
    let m : Kernel = record k { spaces = mid } in
    let run = run-of m i before.sound before.active in
    let frames : taken_frames (computed m i does.done).spaces ≡ taken_frames mid =
    computed-frames mid i does.done _ run.1.1.space in
    rw does.leaves (record {
      sound = computed-kernel m i run.0 _ run.1.1 before.sound _ (rw frames before.sound.fits);
      active = before.active;
      pipes = before.pipes;
    })

-- instructions keep what a kernel keeps
pub advances-on : (stops : List ℕ) (n : ℕ) (k : Kernel) (i : ℕ) (new : Spaces) → IsKernel k → k.spaces.active ≡ Some i
    → Advances stops n k.spaces i new → GoesOn k i new
advances-on stops zero k i new is active all =
    rw (advances-same stops _ i new all) (record { sound = is; active = active; pipes = refl })
advances-on stops (suc n) k i new is active all =
    let last = advances-last stops n _ new i all in
    does-on k i _ new (advances-on stops n k i last.0 is active last.1) last.2

-- an instruction is done, or stops at a trap; o is the active slot
pub execute-on : (k : Kernel) (i : ℕ) (new : Spaces) (o : Option ℕ) (result : Option Trap) → IsKernel k
    → k.spaces.active ≡ Some i → o ≡ Some i → taken_frames new ≤ new.frames
    → IfNone result (IfSome o
    (λ at. (d : Computed) × (cycle k.spaces.registers k.spaces.pc (view_at k.spaces at).memory ≡ Ok d)
    × (new ≡ spaces.computed k.spaces at d)))
    → IfSome result (λ t. IfSome o
    (λ at. (cycle k.spaces.registers k.spaces.pc (view_at k.spaces at).memory ≡ Err t) × (new ≡ k.spaces)))
    → GoesOn k i new
execute-on k i new None result is active here fits done trap = absurd (cc)
execute-on k i new (Some at) None is active here fits done trap =
    let run = run-of k i is active in
    let e : new ≡ spaces.computed k.spaces i done.0 = done.2
    ∙ ap (λ n. spaces.computed k.spaces n done.0) (same_Some at i here) in
    let few : taken_frames (computed k i done.0).spaces ≤ k.spaces.frames = rw e at fits in
    rw e (record { sound = computed-kernel k i run.0 _ run.1.1 is _ few; active = active; pipes = refl })
execute-on k i new (Some at) (Some t) is active here fits done trap =
    rw trap.1 (record { sound = is; active = active; pipes = refl })

pub on-keeps : {k : Kernel} {i : ℕ} {new : Spaces} → Keeps k → GoesOn k i new → Keeps (record k { spaces = new })
on-keeps {k} keeps on = record {
  sound = on.sound;
  watched = subst
      (λ (ps : Pipes). IsWatched (awaited_in (opens_of k.files) ps k.console k.ticks) k.table.places k.table.awake)
      (sym on.pipes) keeps.watched;
}

-- ---- what consecutive steps that reach the disk leave

-- what a step that may fail leaves
pub serves-disk : {T : Type 0} {old new : FileTree} {r : Result T DeviceFault} {Told : T → Type 0}
    → Serves old new r Told → LeavesDisk old new r
serves-disk {T} {old} {new} {r} {Told} serves = go r serves.up serves.down serves.cause where
  go : (r : Result T DeviceFault) → OnOk r (new.failed ≡ false) → OnErr r (new.failed ≡ true)
      → HasCause old.failures new.failures r → LeavesDisk old new r
  go (Ok x) up down cause = record { up = up; same_device = serves.same_device; later = cause.later }
  go (Err fault) up down cause =
      record { down = down; same_device = serves.same_device; later = cause.later; rises = cause.failed refl }

-- ---- steps that read

pub read-then : {a b c : Kernel} → HasRead a b → HasRead b c → HasRead a c
read-then {c = c} first next =
    record {
      same = next.same ∙ ap (λ (k : Kernel). counting k c.tree.failures) first.same;
      later = le_trans first.later next.later;
    }

pub lost-then : {a b : Kernel} {t : FileTree} → HasRead a b → IsLost b.tree t → IsLost a.tree t
lost-then first lost = record {
  down = lost.down;
  same_device = lost.same_device ∙ ap (λ (k : Kernel). k.tree.identity) first.same;
  later = le_trans first.later lost.later;
  rises = let rises = lost.rises in let later =
      first.later in omega (arith, rises, later);
}

-- a weaker condition on the result
pub reads-as : {X : Type 0} (old new : Kernel) {Told Says : X → Type 0} → ((x : X) → Told x → Says x)
    → (r : Result X DeviceFault) → ReadsDisk old new Told r → ReadsDisk old new Says r
reads-as old new says (Ok x) reads = (reads.0, says x reads.1)
reads-as old new says (Err fault) lost = lost

-- the step failed
pub lost-reads : {X : Type 0} (old new : Kernel) (Told : X → Type 0) (r : Result X DeviceFault) → IsErr r
    → IsLost old.tree new.tree → ReadsDisk old new Told r
lost-reads old new Told (Ok x) e lost = absurd (cc)
lost-reads old new Told (Err fault) e lost = lost

-- a weaker condition on the result, also over another tree with the same device and the same count of failures
pub serves-as : {T : Type 0} {old other t : FileTree} {r : Result T DeviceFault} {P Q : T → Type 0}
    → old.identity ≡ other.identity → old.failures ≡ other.failures → ((x : T) → P x → Q x) → Serves old t r P
    → Serves other t r Q
serves-as {T} {t = t} {r = r} {P} {Q} device failures so serves = record {
  told = go r serves.told;
  up = serves.up;
  down = serves.down;
  same_device = serves.same_device ∙ device;
  cause = subst (λ n. HasCause n t.failures r) failures serves.cause;
} where
  go : (s : Result T DeviceFault) → IfOk s P → IfOk s Q
  go (Ok x) told = so x told
  go (Err fault) told = tt

-- how many instructions are done, and where they stop; o is the active slot
pub advances-at : (stops : List ℕ) (o : Option ℕ) (i n : ℕ) (old new : Spaces) → o ≡ Some i
    → IfSome o (λ at. Advances stops n old at new) → Advances stops n old i new
advances-at stops o i n old new active all =
    subst (λ (x : Option ℕ). IfSome x (λ at. Advances stops n old at new)) active all

pub trap-at : (o : Option ℕ) (i n count : ℕ) (new : Spaces) (r : Option Trap) → o ≡ Some i
    → IfSome r (λ t. (n < count) × IfSome o (λ at. cycle new.registers new.pc (view_at new at).memory ≡ Err t))
    → IfSome r (λ t. (n < count) × (cycle new.registers new.pc (view_at new i).memory ≡ Err t))
trap-at o i n count new r active trap =
    subst (λ (x : Option ℕ). IfSome r
    (λ t. (n < count) × IfSome x (λ at. cycle new.registers new.pc (view_at new at).memory ≡ Err t))) active trap
