-- Who is ready once a timer interrupt has come.
use Rattle.kernel.proofs.Common.{Bool, IfSome, IsAlive, IsKernel, Kernel, List, Mode, None, Option, Pending, Places}
use Rattle.kernel.proofs.Common.{Process, Read, Ready, Running, Some, SpaceView, State, Wait, Waiting, Write, Zombie}
use Rattle.kernel.proofs.Common.{ap, arith, awaited_in, base, cases_eq, eq-eqb, false, find, get_or-set_other, holds}
use Rattle.kernel.proofs.Common.{inl, inr, is_some, is_zombie_child_of, left_as, length-set, map, on_hart, opens_of}
use Rattle.kernel.proofs.Common.{option_and_then, option_eq, option_map, nat_eq, place_where, position_or_len-set}
use Rattle.kernel.proofs.Common.{process_at, range_with_len, ready, refl, rest_of, round_from, seen, slice_set, slot}
use Rattle.kernel.proofs.Common.{space_in, state_of, suc, sym, true, true≢false, turn, with_mode, with_space}
use Rattle.kernel.proofs.Common.{with_table, zero, ℕ, ◌%◌, ◌&&◌, ◌+◌, ◌<◌, ◌^◌, ◌||◌, ◌∙◌, ◌≡◌, ◌≢◌, ◌≤◌, ◌==◌}
use Rattle.kernel.proofs.Changes.{is-active}
use Rattle.kernel.proofs.Holding.{Processes, map-same}
use Rattle.kernel.proofs.Joined.{slot-joined}
use Rattle.kernel.proofs.Readies.{bare, children-seen, find_first, find_none, ready-same, ready-seen, turn-alive}
use Rattle.kernel.proofs.Runs.{IsRun, run-of, slot-other, slot-put, slot-within, state-idle}
use Rattle.kernel.specs.Idle.{picked_pid}
use Rattle.kernel.specs.Kernel.{stopped_at, ticked}
use Rattle.proc.specs.Places as table
use Rattle.unixmodel.specs.Process as unix
use Rattle.unixmodel.specs.Process.{is_zombie_mode}
use Rattle.unixmodel.specs.Turn as turn
use Rattle.unixmodel.specs.declared.call.Call.{Call}

-- ---- two lists of processes with the same zombies

module _ (a : State) (os os' : Processes)
    (zombies : (pid : ℕ) → place_where os' (is_zombie_child_of pid) ≡ place_where os (is_zombie_child_of pid)) where
  goes-on : (p : Process) (w : Pending) (number : Call)
      → turn.can_go_on (seen a os') (bare p) w number ≡ turn.can_go_on (seen a os) (bare p) w number
  goes-on p w Wait =
      children-seen a os' p w ∙ ap is_some (zombies p.pid) ∙ sym (children-seen a os p w)
  goes-on p w _ = refl

  mode-on : (p : Process) (mode : Mode)
      → turn.is_ready_in (seen a os') (bare p) mode ≡ turn.is_ready_in (seen a os) (bare p) mode
  mode-on p (Waiting w) = ap (λ b. b || p.killed) (goes-on p w w.number)
  mode-on p _ = refl

  place-on : (o : Option Process)
      → holds (turn.is_ready (seen a os')) (option_map bare o) ≡ holds (turn.is_ready (seen a os)) (option_map bare o)
  unfolding turn.is_ready
  place-on None = refl
  place-on (Some p) = mode-on p p.mode

-- ---- the process that ran becomes ready

abbrev stops : Kernel → Process → Process
stops k p = with_mode Ready (on_hart k.spaces p)

-- it was no zombie, and is none
no-zombie : (k : Kernel) (pid : ℕ) (o : Option Process) (p : Process) → o ≡ Some p → p.mode ≡ Running
    → holds (is_zombie_child_of pid) (option_map (stops k) o) ≡ holds (is_zombie_child_of pid) o
no-zombie k pid o p at runs =
    rw at (ap (λ mode. (p.parent == pid) && is_zombie_mode mode) (sym runs))

zombies-stay : (k : Kernel) (i pid : ℕ) (p : Process) → slot k.table.places i ≡ Some p → p.mode ≡ Running
    → place_where (table.changed k.table i (stops k)).places (is_zombie_child_of pid)
    ≡ place_where k.table.places (is_zombie_child_of pid)
zombies-stay k i pid p at runs =
    let o = option_map (stops k) (slot k.table.places i) in
    rw (
      position_or_len-set (holds (is_zombie_child_of pid)) k.table.places i o None (no-zombie k pid _ p at runs),
      length-set k.table.places i o,
    ) refl

-- what a turn reads after the interrupt
abbrev then_awaited : Kernel → State
then_awaited k = awaited_in (opens_of k.files) k.spaces.pipes k.console ((k.ticks + 1) % 2 ^ 32)

module _ (k : Kernel) (sound : IsKernel k) (i : ℕ) where
  -- in terms of what a turn reads
  then-reads : (o : Option ℕ) → k.spaces.active ≡ o
      → turn.ready (state_of (ticked k)) i ≡ turn.ready (seen (then_awaited k) (stopped_at k o).table.places) i
  then-reads None idle = rw idle
      (ready-same (record (rest_of k) { ticks = (k.ticks + 1) % 2 ^ 32 }) k.table k.spaces.places i)
  then-reads (Some j) active = rw active
      (ready-same (record (rest_of k) { ticks = (k.ticks + 1) % 2 ^ 32 }) (left_as k j Ready).table k.spaces.places i)

  pub then-active : k.spaces.active ≡ Some i → true ≡ turn.ready (state_of (ticked k)) i
  unfolding turn.is_ready
  then-active active =
      let run = run-of k i sound active in
      let at = run.1.1.process in
      sym (then-reads (Some i) active
      ∙ ready-seen (then_awaited k) (left_as k i Ready).table.places i (Some (stops k run.0))
      (slot-put k.table.places i _ (slot-within k.table.places i run.0 at) ∙ ap (option_map (stops k)) at))

  then-other : (j : ℕ) → k.spaces.active ≡ Some j → i ≢ j
      → turn.ready (seen (then_awaited k) (left_as k j Ready).table.places) i
      ≡ turn.ready (seen (then_awaited k) k.table.places) i
  then-other j active apart =
      let run = run-of k j sound active in
      let x = run.1.1 in
      ready-seen (then_awaited k) (left_as k j Ready).table.places i (slot k.table.places i)
      (slot-other k.table.places j i _ apart)
      ∙ place-on (then_awaited k) k.table.places (left_as k j Ready).table.places
      (λ pid. zombies-stay k j pid run.0 x.process x.runs) (slot k.table.places i)
      ∙ sym (ready-seen (then_awaited k) k.table.places i (slot k.table.places i) refl)

  -- all others are as ready as they are now, by the clock of then
  pub then-rests : k.spaces.active ≢ Some i
      → turn.ready (seen (then_awaited k) k.table.places) i ≡ turn.ready (state_of (ticked k)) i
  then-rests rests = go k.spaces.active refl where
    go : (o : Option ℕ) → k.spaces.active ≡ o
        → turn.ready (seen (then_awaited k) k.table.places) i ≡ turn.ready (state_of (ticked k)) i
    go None idle = sym (then-reads None idle)
    go (Some j) active = sym (then-reads (Some j) active
        ∙ then-other j active (λ same. rests (active ∙ ap Some (sym same))))

-- ---- the search

-- none of the first slots of a round is ready
abbrev pub NoneBefore : State → ℕ → ℕ → Type 0
NoneBefore s last round = (j : ℕ) → 1 ≤ j → j < round → turn.ready s ((last + j) % 64) ≡ false

module _ (s : State) (last round : ℕ) (same : last ≡ s.last) (before : NoneBefore s last round) where
  pub turn-found : 1 ≤ round → round < 65 → true ≡ turn.ready s ((last + round) % 64)
      → Some ((last + round) % 64) ≡ turn.turn s
  unfolding turn.turn round_from
  turn-found low high is =
      sym (ap (λ n. find (turn.ready s) (map (λ k. (n + k) % 64) (range_with_len 1 64))) (sym same)
      ∙ find_first (turn.ready s) (λ k. (last + k) % 64) 64 1 round low (omega arith) (sym is) before)

  pub turn-none : 65 ≤ round → None ≡ turn.turn s
  unfolding turn.turn round_from
  turn-none all =
      sym (ap (λ n. find (turn.ready s) (map (λ k. (n + k) % 64) (range_with_len 1 64))) (sym same)
      ∙ find_none (turn.ready s) (λ k. (last + k) % 64) 64 1 (λ j low high. before j low (omega arith)))

  -- one more isn't
  pub none-more : false ≡ turn.ready s ((last + round) % 64) → NoneBefore s last (round + 1)
  none-more isnt j low high = elim (cases_eq j round) [
    | inl here ↦ ap (λ k. turn.ready s ((last + k) % 64)) here ∙ sym isnt
    | inr other ↦ before j low (omega arith)
  ]

module _ (k : Kernel) where
  -- the slot that was picked last is the same
  pub last-then : k.table.last ≡ (state_of (ticked k)).last
  last-then = go k.spaces.active refl where
    go : (o : Option ℕ) → k.spaces.active ≡ o → k.table.last ≡ (state_of (ticked k)).last
    go None idle = rw idle refl
    go (Some i) active = rw active refl

  idle-then : (ticked k).spaces.active ≡ None
  idle-then = go k.spaces.active refl where
    go : (o : Option ℕ) → k.spaces.active ≡ o → (ticked k).spaces.active ≡ None
    go None idle = rw idle refl
    go (Some i) active = rw active refl

  -- ---- the pid of the process that is picked

  abbrev pid_in : Option Process → Option ℕ
  pid_in o = option_map (λ (p : Process). p.pid) o

  pid-stops : (o : Option Process) → pid_in (option_map (stops k) o) ≡ pid_in o
  pid-stops None = refl
  pid-stops (Some p) = refl

  pids-stay : (sound : IsKernel k) (i : ℕ)
      → pid_in (slot (ticked k).table.places i) ≡ pid_in (slot k.table.places i)
  pids-stay sound i = go k.spaces.active refl where
    go : (o : Option ℕ) → k.spaces.active ≡ o
        → pid_in (slot (ticked k).table.places i) ≡ pid_in (slot k.table.places i)
    go None idle = rw idle refl
    go (Some j) active = rw active (elim (cases_eq i j) [
      | inl same ↦
          let run = run-of k j sound active in
          let here = slot-put k.table.places j (option_map (stops k) (slot k.table.places j))
          (slot-within k.table.places j run.0 run.1.1.process) in
          rw same (ap pid_in here ∙ pid-stops (slot k.table.places j))
      | inr other ↦ ap pid_in (slot-other k.table.places j i _ other)
    ])

  pid-spaced : (h : SpaceView) (o : Option Process)
      → option_map (λ (p : unix.Process). p.pid) (option_map (with_space h) o) ≡ pid_in o
  pid-spaced h None = refl
  pid-spaced h (Some p) = refl

  pid-alive : (o there : Option Process) (pid : ℕ) → IsAlive there → pid_in there ≡ pid_in o
      → IfSome o (λ p. pid ≡ p.pid) → Some pid ≡ pid_in there
  pid-alive o None pid alive same is = absurd alive
  pid-alive None (Some q) pid alive same is = absurd (cc)
  pid-alive (Some p) (Some q) pid alive same is = ap Some is ∙ sym same

  pub pid-then : (sound : IsKernel k) (i pid : ℕ) → Some i ≡ turn.turn (state_of (ticked k))
      → IfSome (slot k.table.places i) (λ p. pid ≡ p.pid) → Some pid ≡ picked_pid (state_of (ticked k))
  pid-then sound i pid picked is =
      let here : process_at (state_of (ticked k)) i
      ≡ option_map (with_space (space_in k.spaces.places i)) (slot (ticked k).table.places i) =
      ap (λ (s : State). process_at s i) (state-idle (ticked k) idle-then)
      ∙ slot-joined (ticked k).table.places (ticked k).spaces.places i ∙ spaces-then i in
      pid-alive _ (slot (ticked k).table.places i) pid (turn-alive (ticked k) idle-then i (sym picked))
      (pids-stay sound i) is
      ∙ sym (ap (option_map (λ (p : unix.Process). p.pid)) here ∙ pid-spaced (space_in k.spaces.places i) _)
      ∙ ap (λ o. option_map (λ (p : unix.Process). p.pid) (option_and_then (process_at (state_of (ticked k))) o)) picked
    where
      spaces-then : (i : ℕ)
          → option_map (with_space (space_in (ticked k).spaces.places i)) (slot (ticked k).table.places i)
          ≡ option_map (with_space (space_in k.spaces.places i)) (slot (ticked k).table.places i)
      spaces-then i = go k.spaces.active refl where
        go : (o : Option ℕ) → k.spaces.active ≡ o
            → option_map (with_space (space_in (ticked k).spaces.places i)) (slot (ticked k).table.places i)
            ≡ option_map (with_space (space_in k.spaces.places i)) (slot (ticked k).table.places i)
        go None idle = rw idle refl
        go (Some j) active = rw active refl

  pub nobody-then : None ≡ turn.turn (state_of (ticked k)) → None ≡ picked_pid (state_of (ticked k))
  nobody-then none =
      ap (λ o. option_map (λ (p : unix.Process). p.pid) (option_and_then (process_at (state_of (ticked k))) o)) none

-- a slot that isn't the active one
pub not-active : (o : Option ℕ) (i : ℕ) → option_eq nat_eq o (Some i) ≡ false → o ≢ Some i
not-active o i is same = true≢false (sym (ap (λ x. option_eq nat_eq x (Some i)) same ∙ eq-eqb i i refl) ∙ is)
