-- Who is ready: that depends on the processes, the console, the ticks, and the open files with their pipes. What a
-- kernel shows.
use Rattle.kernel.proofs.Common.{IfSome, ◌≡◌, ℕ, Bool, true, false, ◌||◌, List, Option, Some, None, refl, ap, subst}
use Rattle.kernel.proofs.Common.{sym, ◌∙◌, cond, find, is_some, option_map, [], ◌∷◌, Kernel, Rest, base, SpaceView}
use Rattle.kernel.proofs.Common.{no_pages, space_in, with_space, lives, rest_of, state_of, Stands, awaited_in, seen}
use Rattle.kernel.proofs.Common.{IsAlive, IsPiped, has_pipe-clear, Process, Places, is_zombie_child_of, place_where}
use Rattle.kernel.proofs.Common.{with_table, Spaces, Call, Read, Wait, Write, Mode, Waiting, Zombie, Pending, clear}
use Rattle.kernel.proofs.Common.{slot, is_pipe, OnNode, OnPipe, State, holds, eq-eqb, map, suc, zero, ◌+◌, ◌<◌, ◌≤◌}
use Rattle.kernel.proofs.Common.{◌⊎◌, Bor, FnReturns, Shared, range_with_len, arith, inl, inr, Answers, Picks}
use Rattle.kernel.proofs.Common.{place_in_round, place_limit, ready, round_from, turn, option_and_then, slice_get}
use Rattle.kernel.proofs.Common.{length-set, Counted, count_at, loaded, on_hart, IsKernel, changed_at, has_pid}
use Rattle.kernel.proofs.Common.{has_space, view_at, taken_frames, frames_of, place_of_pid, process_at}
use Rattle.kernel.proofs.Common.{position_or_len-set, length, nat_lt, not, ◌&&◌, is_none, drop, list_any}
use Rattle.kernel.proofs.Common.{position_or_len, le-ltb, lt-ltb, position_or_len_is, is_at, joined, found-any, running}
use Rattle.files.specs.Places.{has_pipe}
use Rattle.kernel.proofs.Runs.{state-idle, place-space, run-of, slot-within}
use Rattle.kernel.proofs.Reaping.{frames-with, match-loaded, opened-loaded}
use Rattle.unixmodel.specs.OpenFiles.{OpenFile, Target}
use Rattle.unixmodel.specs.Turn as turn
use Rattle.kernel.proofs.Joined.{place_where-joined, slot-joined, zombie_child-with_table, active-by, count-joined}
use Rattle.kernel.proofs.Joined.{place_where-Some}
use Rattle.files.specs.declared.file.OpenFile as files
use Rattle.kernel.specs.Holding.{FitsFiles}
use Rattle.kernel.specs.Shows.{descriptors_on, shown_as}
use Rattle.kernel.specs.declared.kernel.show.ShownProcess.{ShownProcess}
use Rattle.unixmodel.specs.Process as unix
use Rattle.unixmodel.specs.Shown.{ShowsMemory, shown_page, shown_process, told_page}
use Rattle.kernel.proofs.Holding.{FitsIn, map-same, Processes, Views}
use Rattle.kernel.proofs.Changes.{length-active, other-at, running-active}
use Rattle.proc.specs.Places as table
use Rattle.kernel.specs.Idle.{is_anyone_asleep, is_idle, is_sleeping_mode, is_time_awaited, sleeps_on_at}

-- ---- the pipe of an open file

-- the pipe that an open file is an end of is there
pub stands-open : (s : Spaces) (opens : List (Option OpenFile)) (k : ℕ) (f : OpenFile) (t : Target)
    → IsPiped s.pipes opens → slot opens k ≡ Some f → f.target ≡ t → Stands s t
stands-open s opens k f (OnNode n offset) is at on = tt
stands-open s opens k f (OnPipe q end) is at on =
    is q
    ∙ has_pipe-clear opens k f q at
    ∙ ap (λ (t : Target). is_pipe q t || has_pipe (clear opens k) q) on
    ∙ ap (λ (b : Bool). b || has_pipe (clear opens k) q) (eq-eqb q q refl)

-- ---- what readiness depends on

-- a process without its space
abbrev pub bare : Process → unix.Process
bare p = with_space no_pages p

-- tests that agree
pub held-same : (f g : Target → Bool) → ((t : Target) → f t ≡ g t) → (o : Option OpenFile)
    → turn.holds_of f o ≡ turn.holds_of g o
held-same f g same None = refl
held-same f g same (Some file) = same file.target

module _ (rest : Rest) (t : Places) (hs : Views) where
  abbrev s : State
  s = with_table (base rest) t hs

  abbrev a : State
  a = seen (awaited_in rest.opens rest.pipes rest.console rest.ticks) t.places

  reads-same : (x : Target) → turn.can_read_from s x ≡ turn.can_read_from a x
  reads-same (OnNode n offset) = refl
  reads-same (OnPipe q end) = refl

  writes-same : (x : Target) → turn.can_write_to s x ≡ turn.can_write_to a x
  writes-same (OnNode n offset) = refl
  writes-same (OnPipe q end) = refl

  goes-same : (p : Process) (h : SpaceView) (w : Pending) (number : Call)
      → turn.can_go_on s (with_space h p) w number ≡ turn.can_go_on a (bare p) w number
  goes-same p h w Wait =
      ap is_some
      (zombie_child-with_table (base rest) t hs p.pid
      ∙ sym (zombie_child-with_table (awaited_in rest.opens rest.pipes rest.console rest.ticks)
      (record { places = t.places; last = 0; next_pid = 0; awake = [] }) [] p.pid))
  goes-same p h w Read = held-same (turn.can_read_from s) (turn.can_read_from a) reads-same _
  goes-same p h w Write = held-same (turn.can_write_to s) (turn.can_write_to a) writes-same _
  goes-same p h w _ = refl

  mode-same : (p : Process) (h : SpaceView) (mode : Mode)
      → turn.is_ready_in s (with_space h p) mode ≡ turn.is_ready_in a (bare p) mode
  mode-same p h (Waiting w) = ap (λ b. b || p.killed) (goes-same p h w w.number)
  mode-same p h _ = refl

  place-same : (o : Option Process) (h : SpaceView)
      → holds (turn.is_ready s) (option_map (with_space h) o) ≡ holds (turn.is_ready a) (option_map bare o)
  unfolding turn.is_ready
  place-same None h = refl
  place-same (Some p) h = mode-same p h p.mode

  pub ready-same : (i : ℕ) → turn.ready s i ≡ turn.ready a i
  ready-same i =
      ap (holds (turn.is_ready s)) (slot-joined t.places hs i)
      ∙ place-same _ _
      ∙ sym (ap (holds (turn.is_ready a)) (slot-joined t.places [] i))

-- ---- one slot, in the code's terms

module _ (s : State) (places : Processes) where
  pub children-seen : (p : Process) (w : Pending)
      → turn.can_go_on (seen s places) (bare p) w Wait ≡ is_some (place_where places (is_zombie_child_of p.pid))
  children-seen p w = ap is_some
      (zombie_child-with_table s (record { places = places; last = 0; next_pid = 0; awake = [] }) [] p.pid)

  pub ready-seen : (i : ℕ) (o : Option Process) → slot places i ≡ o
      → turn.ready (seen s places) i ≡ holds (turn.is_ready (seen s places)) (option_map bare o)
  ready-seen i o at = ap (holds (turn.is_ready (seen s _))) (slot-joined places [] i ∙ ap (option_map bare) at)

-- ---- where none runs

module _ (k : Kernel) (idle : k.spaces.active ≡ None) where
  -- the slot that the kernel's test finds has the turn
  pub turn-idle : turn.turn (with_table (base (rest_of k)) k.table k.spaces.places) ≡ turn.turn (state_of k)
  turn-idle = ap turn.turn (sym (state-idle k idle))

  -- who is ready lives
  alive-mode : (s : State) (h : SpaceView) (p : Process) (mode : Mode) → p.mode ≡ mode
      → turn.is_ready_in s (with_space h p) mode ≡ true → lives p ≡ true
  alive-mode s h p (Zombie status) e ready = absurd (cc)
  alive-mode s h p _ e ready = rw e refl

  alive-go : (s : State) (h : SpaceView) (o : Option Process)
      → holds (turn.is_ready s) (option_map (with_space h) o) ≡ true → IsAlive o
  unfolding turn.is_ready
  alive-go s h None ready = absurd (cc)
  alive-go s h (Some p) ready = alive-mode s h p _ refl ready

  -- what a search finds passes
  find-true : (f : ℕ → Bool) (xs : List ℕ) (i : ℕ) → find f xs ≡ Some i → f i ≡ true
  find-true f [] i is = absurd (cc)
  find-true f (x ∷ xs) i is =
      (elim (f x) as (λ b. f x ≡ b → cond b (Some x) (find f xs) ≡ Some i → f i ≡ true) [
        | true ↦ λ passes found. let same : x ≡ i = cc in subst (λ (y : ℕ). f y ≡ true) same passes
        | false ↦ λ fails found. find-true f xs i found
      ]) refl is

  -- the slot that has the turn has a process that lives
  pub turn-alive : (i : ℕ) → turn.turn (state_of k) ≡ Some i → IsAlive (slot k.table.places i)
  unfolding turn.turn
  turn-alive i found =
      let s = with_table (base (rest_of k)) k.table k.spaces.places in
      let passes : turn.ready (state_of k) i ≡ true = find-true (turn.ready (state_of k)) _ i found in
      let here : holds (turn.is_ready s) (option_map (with_space (space_in k.spaces.places i)) (slot k.table.places i))
      ≡ true =
      sym (ap (holds (turn.is_ready s)) (slot-joined _ _ i))
      ∙ ap (λ (x : State). turn.ready x i) (sym (state-idle k idle)) ∙ passes in
      alive-go s _ _ here

-- ---- a pick by a test is the search that a turn makes

at_or_before : (k t : ℕ) → k ≤ t → (k ≡ t) ⊎ (k < t)
at_or_before k t h = grind arith

module _ (test : ℕ → Bool) (place : ℕ → ℕ) where
  -- the first number from k on whose slot passes
  pub find_first : (n k t : ℕ) → k ≤ t → t < k + n → test (place t) ≡ true
      → ((j : ℕ) → k ≤ j → j < t → test (place j) ≡ false) → find test (map place (range_with_len k n)) ≡ Some (place t)
  find_first zero k t low high passes before = absurd (omega arith)
  find_first (suc n) k t low high passes before =
      elim (at_or_before k t low) [
        | inl same ↦ (let here : test (place k) ≡ true = rw same passes in rw (here, same) refl)
        | inr less ↦ (let here : test (place k) ≡ false = before k (omega arith) less
            in rw here (find_first n (k + 1) t (omega arith) (omega arith) passes (λ j l h. before j (omega arith) h)))
      ]

  pub find_none : (n k : ℕ) → ((j : ℕ) → k ≤ j → j < k + n → test (place j) ≡ false)
      → find test (map place (range_with_len k n)) ≡ None
  find_none zero k none = refl
  find_none (suc n) k none =
      let here : test (place k) ≡ false = none k (omega arith) (omega arith) in
      rw here (find_none n (k + 1) (λ j l h. none j (omega arith) (omega arith)))

-- if the results are those of a test, the pick is the first slot that passes it
find-from_answers : (says : ℕ → Bool → Type 0) (test : ℕ → Bool) (last : ℕ) (result : Option ℕ)
    → Picks says last result → ((i : ℕ) (b : Bool) → says i b → b ≡ test i) → result ≡ find test (round_from last)
unfolding round_from
find-from_answers says test last None picks same =
    sym (find_none test (place_in_round last) place_limit 1
    (λ j low high. sym (same (place_in_round last j) false (picks j low (omega arith)))))
find-from_answers says test last (Some i) picks same =
    let turn_in : (1 ≤ picks.turn) × (picks.turn ≤ 64) = picks.in_round in
    let yes : test (place_in_round last picks.turn) ≡ true =
    sym (same (place_in_round last picks.turn) true (subst (λ k. says k true) picks.there picks.yes)) in
    ap Some picks.there
    ∙ sym (find_first test (place_in_round last) place_limit 1 picks.turn (omega arith) (omega arith) yes
    (λ j low high. sym (same (place_in_round last j) false (picks.before j low high))))

-- who is ready in the state with these slots
abbrev pub ready_with : State → Places → Views → Processes → ℕ → Bool
ready_with s t hs places i = ready (with_table s (record t { places = places }) hs) i

module _ {F : Type 0} (g : Shared F (Bor Processes × (ℕ × Unit {0})) Bool) (f : F) where
  -- the closure returns the test of its arguments
  abbrev pub IsTest : (Processes → ℕ → Bool) → Type 0
  IsTest test = (shown : Bor Processes) (i : ℕ) (b : Bool) → FnReturns g f (shown, (i, tt)) b → b ≡ test shown.now i

  -- the pick is the turn of the state
  pub turn-from_pick : (s : State) (t : Places) (hs : Views) (result : Option ℕ)
      → Picks (Answers g f t.places) t.last result → IsTest (ready_with s t hs) → result ≡ turn (with_table s t hs)
  unfolding turn
  turn-from_pick s t hs result picks is =
      find-from_answers (Answers g f t.places) (ready_with s t hs t.places) _ _ picks
      (λ i b h. is h.shown i b h.says ∙ ap (λ os. ready_with s t hs os i) h.shows)

-- ---- what a kernel shows of its processes, in terms of its state

-- ---- a search

-- the test does not depend on what the hart holds of a process
pub place-changed : (test : Process → Bool) → ((s : Spaces) (p : Process) → test (on_hart s p) ≡ test p)
    → (t : Places) (s : Spaces) (o : Option ℕ)
    → place_where (changed_at t (on_hart s) o).places test ≡ place_where t.places test
place-changed test same t s None = refl
place-changed test same t s (Some i) =
    let o = option_map (on_hart s) (slot t.places i) in
    rw (
      position_or_len-set (holds test) t.places i o None
          (map-same (holds test) (on_hart s) (same s) (slot t.places i)),
      length-set t.places i o,
    ) refl

-- ---- the process with a pid

module _ (k : Kernel) where
  pub place-state : (pid : ℕ) → place_of_pid (state_of k) pid ≡ place_where k.table.places (has_pid pid)
  place-state pid =
      place_where-joined (unix.has_pid pid) (has_pid pid) (λ h p. refl) _ _
      ∙ place-changed (has_pid pid) (λ s p. refl) k.table k.spaces _

  pub process-state : (i : ℕ)
      → process_at (state_of k) i ≡ option_map (with_space (view_at k.spaces i)) (slot (loaded k).places i)
  process-state i = slot-joined _ _ i

  shown-go : (pid : ℕ) (o : Option ℕ) → place_where k.table.places (has_pid pid) ≡ o
      → shown_process (state_of k) pid ≡ option_and_then (process_at (state_of k)) o
  shown-go pid o found = ap (option_and_then (process_at (state_of k))) (place-state pid ∙ found)

  pub shown-none : (pid : ℕ) → place_where k.table.places (has_pid pid) ≡ None → shown_process (state_of k) pid ≡ None
  shown-none pid found = shown-go pid None found

  pub shown-at : (pid i : ℕ) → place_where k.table.places (has_pid pid) ≡ Some i
      → shown_process (state_of k) pid ≡ option_map (with_space (view_at k.spaces i)) (slot (loaded k).places i)
  shown-at pid i found = shown-go pid _ found ∙ process-state i

-- what is shown of the process in a slot
abbrev shown_with : SpaceView → Process → ShownProcess
shown_with h p = record { process = p; size = h.size }

bare-with : (h : SpaceView) (o : Option Process)
    → option_map shown_as (option_map (with_space h) o) ≡ option_map (shown_with h) o
bare-with h None = refl
bare-with h (Some p) = refl

-- in terms of the fields: k is what they show, now is the kernel's value; r is the slot that was found
pub whole-shown : {k now : Kernel} {i : ℕ} {r : Option ℕ} {o : Option Process} (pid : ℕ) → k ≡ now
    → r ≡ place_where k.table.places (has_pid pid) → r ≡ Some i → o ≡ slot (loaded now).places i
    → option_map (shown_with (view_at k.spaces i)) o ≡ option_map shown_as (shown_process (state_of now) pid)
whole-shown {k} {now} {i} pid same told found whole =
    ap (option_map (shown_with (view_at k.spaces i))) (whole ∙ ap (λ (x : Kernel). slot (loaded x).places i) (sym same))
    ∙ sym (ap (option_map shown_as) (shown-at k pid i (sym told ∙ found)) ∙ bare-with _ _)
    ∙ ap (λ (x : Kernel). option_map shown_as (shown_process (state_of x) pid)) same

-- ---- its memory

loaded-some : (k : Kernel) (i : ℕ) (p : Process) (o : Option ℕ) → slot k.table.places i ≡ Some p
    → (q : Process) × (slot (changed_at k.table (on_hart k.spaces) o).places i ≡ Some q)
loaded-some k i p a is =
    active-by (λ j o. j ≡ i → (q : Process) × (o ≡ Some q)) k
    (λ j o was e. let q = was e in (on_hart k.spaces q.0, ap (option_map (on_hart k.spaces)) q.1)) a
    (λ j e. (p, ap (slot k.table.places) e ∙ is)) i refl

module _ (k : Kernel) (pid i : ℕ) (found : place_where k.table.places (has_pid pid) ≡ Some i) where
  -- the slot that is found has a space
  pub found-space : IsKernel k → has_space k.spaces i ≡ true
  found-space is =
      let p = place_where-Some (has_pid pid) _ i found in
      place-space _ _ p.0 p.1.0 (is.stands i)

  pub shown-some : (q : Process) × (shown_process (state_of k) pid ≡ Some (with_space (view_at k.spaces i) q))
  shown-some =
      let p = place_where-Some (has_pid pid) _ i found in
      let q = loaded-some k i p.0 k.spaces.active p.1.0 in
      (q.0, shown-at k pid i found ∙ ap (option_map (with_space (view_at k.spaces i))) q.1)

  pub page-shown : (n : ℕ)
      → shown_page (state_of k) pid n ≡ option_map told_page (slice_get (view_at k.spaces i).memory n)
  page-shown n = ap (option_and_then (λ (p : unix.Process). option_map told_page (slice_get p.memory n))) shown-some.1

  pub tables-shown : (ram : List (List ℕ)) (root : ℕ) → ShowsMemory ram root (view_at k.spaces i).memory
      → IfSome (shown_process (state_of k) pid) (λ p. ShowsMemory ram root p.memory)
  tables-shown ram root shows = rw shown-some.1 shows

  pub some-shown : is_some (shown_process (state_of k) pid) ≡ true
  some-shown = ap is_some shown-some.1

-- ---- frames

pub frames-state : (k : Kernel) → IsKernel k → frames_of (state_of k) ≡ taken_frames k.spaces
frames-state k is = frames-with k (loaded k) (match-loaded k is)

-- ---- pids

pub pid-shown : (k : Kernel) (pid : ℕ)
    → is_some (place_where k.table.places (has_pid pid)) ≡ is_some (shown_process (state_of k) pid)
pid-shown k pid = go _ refl where
  go : (o : Option ℕ) → place_where k.table.places (has_pid pid) ≡ o
      → is_some o ≡ is_some (shown_process (state_of k) pid)
  go None found = sym (ap is_some (shown-none k pid found))
  go (Some i) found = sym (some-shown k pid i found)

-- ---- open files

pub count-shown : (k : Kernel) → IsKernel k → (n : ℕ) → count_at k.files n ≡ descriptors_on (state_of k) n
count-shown k is n = (opened-loaded k is).counted n ∙ sym (count-joined _ _ n)

-- an open file fits its node
pub fits-in : (k : Kernel) (o : Option Counted) (f : files.OpenFile) → Some f ≡ option_map (λ (c : Counted). c.file) o
    → FitsIn k.tree o → FitsFiles k.tree.files f
fits-in k None f is each = absurd (cc)
fits-in k (Some c) f is each = let same : f ≡ c.file = cc in subst (FitsFiles k.tree.files) (sym same) (each c refl)

-- ---- whether a kernel has anything to do, in terms of its state

-- ---- who runs

-- the search for the running process finds the active slot
runs-position : (os : Processes) (o : Option ℕ) → ((j : ℕ) → holds table.is_running (slot os j) ≡ is_at j o)
    → ((i : ℕ) → o ≡ Some i → i < length os) → place_where os table.is_running ≡ o
runs-position os None runs within =
    let e : position_or_len (holds table.is_running) os ≡ length os =
    position_or_len_is (holds table.is_running) os _ None (omega arith) (λ j h. runs j)
    (λ h. absurd (omega arith)) in
    let none : nat_lt (length os) (length os) ≡ false = le-ltb _ _ (omega arith) in
    rw (e, none) refl
runs-position os (Some i) runs within =
    let low : i < length os = within i refl in
    let e : position_or_len (holds table.is_running) os ≡ i =
    position_or_len_is (holds table.is_running) os i None (omega arith)
    (λ j h. runs j ∙ other-at i j (λ same. absurd (omega arith))) (λ h. runs i ∙ eq-eqb i i refl) in
    let some : nat_lt i (length os) ≡ true = lt-ltb _ _ low in
    rw (e, some) refl

pub running-state : (k : Kernel) → IsKernel k → running (state_of k) ≡ k.spaces.active
running-state k is =
    place_where-joined unix.is_running table.is_running (λ h p. refl) _ _
    ∙ runs-position _ _ (λ j. running-active k _ j ∙ is.runs j)
    (λ i active. let run = run-of k i is active in let h = slot-within _ i run.0 run.1.1.process
    in omega (arith, length-active k k.spaces.active, h))

-- ---- who is ready

pub none-not-some : (o : Option ℕ) (b : Bool) {t : Option ℕ} → is_some o ≡ not b → o ≡ t → b ≡ is_none t
none-not-some None true told same = ap is_none same
none-not-some None false told same = absurd (cc)
none-not-some (Some i) true told same = absurd (cc)
none-not-some (Some i) false told same = ap is_none same

module _ (k : Kernel) (is : IsKernel k) where
  pub busy-state : (i : ℕ) → k.spaces.active ≡ Some i → false ≡ is_idle (state_of k)
  busy-state i active = ap (λ o. is_none o && is_none (turn (state_of k))) (sym (running-state k is ∙ active))

  pub idle-turn : k.spaces.active ≡ None → is_none (turn (state_of k)) ≡ is_idle (state_of k)
  idle-turn idle = ap (λ o. is_none o && is_none (turn (state_of k))) (sym (running-state k is ∙ idle))

-- ---- who sleeps

-- what a test of modes says of the table it says of the state
module _ (test : Mode → Bool) where
  abbrev tested : Process → Bool
  tested p = test p.mode

  tested-joined : (os : Processes) (hs : Views)
      → list_any (holds (λ (p : unix.Process). test p.mode)) (joined os hs) ≡ list_any (holds tested) os
  unfolding joined
  tested-joined [] hs = refl
  tested-joined (None ∷ os) hs = tested-joined os (drop 1 hs)
  tested-joined (Some p ∷ os) hs = ap (λ b. tested p || b) (tested-joined os (drop 1 hs))

  tested-state : (k : Kernel)
      → list_any (holds tested) k.table.places
      ≡ list_any (holds (λ (p : unix.Process). test p.mode)) (state_of k).places
  tested-state k =
      sym (found-any (holds tested) _)
      ∙ ap is_some (sym (place-changed tested (λ s p. refl) k.table k.spaces k.spaces.active))
      ∙ found-any (holds tested) (loaded k).places
      ∙ sym (tested-joined _ _)

pub asleep-state : (k : Kernel)
    → list_any (holds (λ (p : Process). is_sleeping_mode p.mode)) k.table.places ≡ is_anyone_asleep (state_of k)
asleep-state = tested-state is_sleeping_mode

pub awaited-state : (k : Kernel)
    → list_any (holds (λ (p : Process). sleeps_on_at k.ticks p.mode)) k.table.places ≡ is_time_awaited (state_of k)
awaited-state k = tested-state (sleeps_on_at k.ticks) k
