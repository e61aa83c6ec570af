-- wait: the first zombie child of the running process is collected, and its status is written.
use Rattle.calls.proofs.Common.{Acts, Answers, ap, argument, arith, base, Blocks, Came, can_answer, cast_unsigned}
use Rattle.calls.proofs.Common.{clear, collected, descriptors_at, false, given, goes_on, GoesOn, has_child, held-here}
use Rattle.calls.proofs.Common.{Here, IfSome, is_some, IsKernel, IsPending, Kernel, le, List, loaded, me, memory_at}
use Rattle.calls.proofs.Common.{nat_eq, ne_eqb, no_pages, None, on_hart, Option, option_map, Pending, pending_arg}
use Rattle.calls.proofs.Common.{pending_for, Places, process-here, process_at, put, put_process, refl, Refuses, rest_of}
use Rattle.calls.proofs.Common.{set-slot, set_comm, slot, Some, SpaceView, State, state_of, subst, suc, sym, true}
use Rattle.calls.proofs.Common.{unwrap_or, view_at, Wait, wait_for, waits-other, with_space, with_status, wrote-state}
use Rattle.calls.proofs.Common.{zero, zombie_child, ℕ, ℤ, ◌∙◌, ◌≡◌, ◌≢◌}
use Rattle.kernel.proofs.Readies.{place-changed, process-state}
use Rattle.unixmodel.specs.ProcessCalls.{wait_on, wait_row}
use Rattle.proc.specs.Places.{is_child_of, is_zombie_child_of, place_where, reaped_at, zombie_place}
use Rattle.kernel.proofs.Joined.{has_child-with_table, zombie_child-with_table}
use Rattle.kernel.proofs.Runs.{loaded-run, slot-other}
use Rattle.calls.proofs.Acts.{refused, begins-on, goes-done, goes-waits, going, provided-refused}
use Rattle.unixmodel.specs.Process as unix
use Rattle.unixmodel.specs.ProcessCalls as rows
use Rattle.std.specs.Int.{w32}
use Rattle.kernel.proofs.Working.{collected-kernel, collected-run, collected-state, has-reaped, HasReaped, unreaped-go}
use Rattle.kernel.proofs.Working.{zombie-idle}
use Rattle.proc.specs.declared.table.Reaped.{Reaped}

-- ---- wait: the first zombie child of the running process is collected, and its status is written

-- ---- the status is written

status-is : {k : Kernel} {i : ℕ} (x : Here k i) (a : ℕ) (status : ℤ)
    → let to = with_status k i a status
    in (state_of to ≡ put_process (state_of k) i (rows.with_status (me x) a status))
    × ((to.spaces.active ≡ k.spaces.active) × (to.tree ≡ k.tree))
status-is {k} {i} x zero status = (
  ap (λ (places : List (Option unix.Process)). record (state_of k) { places = places })
      (sym (set-slot (state_of k).places i (Some (me x)) (process-here x))),
  (refl, refl),
)
status-is x (suc a) status =
    let some : nat_eq (suc a) 0 ≡ false = ne_eqb (suc a) 0 (λ same. absurd (omega (arith, same))) in
    rw some (wrote-state x.run x.sound (suc a) (le 4 (cast_unsigned w32 status)), (refl, refl))

-- ---- the call

module _ {k : Kernel} {i : ℕ} (x : Here k i) (parent : ℕ)
    (named : IfSome (slot k.table.places i) (λ p. parent ≡ p.pid)) where
  parent-is : x.process.pid ≡ parent
  parent-is = let e : parent ≡ x.process.pid = rw x.run.process at named in sym e

  zombie-is : zombie_child (state_of k) x.process.pid ≡ zombie_place k.table parent
  zombie-is =
      zombie_child-with_table (base (rest_of k)) (loaded k) k.spaces.places x.process.pid
      ∙ place-changed (is_zombie_child_of x.process.pid) (λ s p. refl) k.table k.spaces k.spaces.active
      ∙ ap (zombie_place k.table) parent-is

  child-is : has_child (state_of k) x.process.pid ≡ is_some (place_where k.table.places (is_child_of parent))
  child-is =
      has_child-with_table (base (rest_of k)) (loaded k) k.spaces.places x.process.pid
      ∙ ap is_some (place-changed (is_child_of x.process.pid) (λ s p. refl) k.table k.spaces k.spaces.active)
      ∙ ap (λ (n : ℕ). is_some (place_where k.table.places (is_child_of n))) parent-is

  module _ (w : Pending) (number : w.number ≡ Wait) where
    wait-row : going x w ≡ wait_for (state_of k) i (me x) w (zombie_place k.table parent)
    unfolding wait_on
    wait-row = ap (goes_on (state_of k) i (me x) w) number ∙ ap (wait_for (state_of k) i (me x) w) zombie-is

    -- r was collected, which left kernel m
    module _ {r : Reaped} (said : Some r ≡ reaped_at k.table (zombie_place k.table parent)) {m : Kernel}
        (left : m ≡ collected k (zombie_place k.table parent)) where
      has : HasReaped k parent r
      has = has-reaped said

      apart : r.place ≢ i
      apart same = zombie-idle x.sound r.place has.child has.zombie (x.run.active ∙ ap Some (sym same))

      abbrev mid : Kernel
      mid = collected k (Some r.place)

      mid-is : m ≡ mid
      mid-is = left ∙ ap (collected k) has.found

      abbrev mid-here : Here mid i
      mid-here = record {
        runner = record {
          process = x.process;
          held = x.held;
          run = collected-run x.runner r.place apart;
          sound = collected-kernel x.sound r.place has.child has.zombie;
        };
        up = x.up;
      }

      child-at : process_at (state_of k) r.place ≡ Some (with_space (view_at k.spaces r.place) has.child)
      child-at =
          process-state k r.place
          ∙ ap (option_map (with_space (view_at k.spaces r.place)))
          (ap (λ (t : Places). slot t.places r.place) (loaded-run k i x.process x.held x.run)
          ∙ slot-other k.table.places i r.place (Some (on_hart k.spaces x.process)) apart ∙ has.zombie.at)

      pub collects-can : can_answer (memory_at k i) (pending_arg w 0) ≡ true
          → (m.spaces.active ≡ Some i) × (can_answer (memory_at m i) (pending_arg w 0) ≡ true)
      collects-can can = rw mid-is (
        x.run.active,
        ap (λ (o : Option SpaceView). can_answer (unwrap_or o no_pages).memory (pending_arg w 0))
            (slot-other k.spaces.places r.place i None (λ e. apart (sym e))) ∙ can,
      )

      pub collects : {new : Kernel} → IsKernel new → new ≡ with_status m i (pending_arg w 0) r.status
          → GoesOn k new i w (Answers r.pid)
      collects {new} sound is =
          let a = pending_arg w 0 in
          let to : new ≡ with_status mid i a r.status = is ∙ ap (λ (y : Kernel). with_status y i a r.status) mid-is in
          let after = status-is mid-here a r.status in
          let state : state_of (with_status mid i a r.status)
          ≡ record (state_of k) {
            places = clear
                (put (state_of k).places i (rows.with_status (me x) a r.status)) r.place;
          } =
          after.0
          ∙ ap (λ (s : State). put_process s i (rows.with_status (me x) a r.status))
          (collected-state x.runner r.place has.child has.zombie apart)
          ∙ ap (λ (places : List (Option unix.Process)). record (state_of k) { places = places })
          (set_comm (state_of k).places r.place i None (Some (rows.with_status (me x) a r.status)) apart) in
          rw has.pid (goes-done x w has.child.pid sound to after.1.0 after.1.1
          (state ∙ ap (λ (z : ℤ). record (state_of k)
          { places = clear (put (state_of k).places i (rows.with_status (me x) a z)) r.place }) has.status)
          (wait-row ∙ ap (wait_for (state_of k) i (me x) w) has.found
          ∙ ap (λ (o : Option unix.Process). given o (λ c. rows.collect (state_of k) i (me x) a r.place c))
          child-at))

    pub wait-blocks : {m : Kernel} → can_answer (memory_at k i) (pending_arg w 0) ≡ true
        → reaped_at k.table (zombie_place k.table parent) ≡ None → m ≡ collected k (zombie_place k.table parent)
        → GoesOn k m i w (Blocks w)
    wait-blocks can is left =
        let none = unreaped-go k.table parent (zombie_place k.table parent) refl is in
        rw (left, none) (goes-waits x w w x.sound refl refl refl (
          subst (IsPending (descriptors_at k i) (memory_at k i) w) (sym number) can,
          waits-other _ _ w Wait (λ same. absurd (cc)) (λ same. absurd (cc)) number,
        ) refl
        (wait-row ∙ ap (wait_for (state_of k) i (me x) w) none))

  -- ---- the call begins

  can-is : can_answer (memory_at k i) (argument k 0) ≡ can_answer x.held.memory (argument k 0)
  can-is = ap (λ (y : SpaceView). can_answer y.memory (argument k 0)) (held-here x)

  pub wait-childless : is_some (place_where k.table.places (is_child_of parent)) ≡ false
      → Acts k k i (Some Wait) Refuses
  unfolding wait_row
  wait-childless none = refused x (Some Wait) (rw (child-is, none) refl)

  pub wait-unwritable : can_answer (memory_at k i) (argument k 0) ≡ false → Acts k k i (Some Wait) Refuses
  unfolding wait_row
  wait-unwritable cannot =
      refused x (Some Wait) (provided-refused (has_child (state_of k) x.process.pid) _ (rw (sym can-is ∙ cannot) refl))

  -- the call goes on as it would later
  pub wait-begins : is_some (place_where k.table.places (is_child_of parent)) ≡ true
      → can_answer (memory_at k i) (argument k 0) ≡ true
      → {new : Kernel} {c : Came} → GoesOn k new i (pending_for k Wait) c → Acts k new i (Some Wait) c
  unfolding wait_row
  wait-begins some can goes = begins-on x (pending_for k Wait) Wait (rw (child-is, some, sym can-is ∙ can) refl) goes
