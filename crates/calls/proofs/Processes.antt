-- kill, fork and sbrk: calls on processes. A process that marks itself gets its result, and ends.
use Rattle.calls.proofs.Common.{[], Acts, answer-here, answered, answered-here, Answers, answers, ap, argument, arith}
use Rattle.calls.proofs.Common.{asked, base, blocks_of, Bool, change_process, changed, copied, Done, end_at}
use Rattle.calls.proofs.Common.{end_process, ended, ends-run, Err, false, Files, Fork, forked_as, frames_of, free_slot}
use Rattle.calls.proofs.Common.{get_or-set_other, given, held-here, Here, here-as, here-of, int_of, is_described}
use Rattle.calls.proofs.Common.{is_same, is_within, IsKernel, kept-cong, Kernel, Kill, KillsItself, last_pid, le-leb}
use Rattle.calls.proofs.Common.{length, limited, links_of, List, loaded, map, marked, marked_by, me, nat_le, nat_lt}
use Rattle.calls.proofs.Common.{natural, negsuc, None, Ok, on_hart, open_limit, Option, option_map, Outcome}
use Rattle.calls.proofs.Common.{place_called, place_of_pid, Places, pos, Process, process-here, process_at, provided}
use Rattle.calls.proofs.Common.{put, quiet, reap, refl, Refused, Refuses, reheld-full, resized, resized-state, rest_of}
use Rattle.calls.proofs.Common.{row_of, RunsAt, Sbrk, settle, settled_by, slice_index, slice_set, slot, slot-put}
use Rattle.calls.proofs.Common.{slot-within, Some, SpaceView, State, state-but, state-waking, state_of, subst, suc}
use Rattle.calls.proofs.Common.{sum_by, sym, taken_frames, true, view_at, waking, with_answer, with_table, within-state}
use Rattle.calls.proofs.Common.{without_nodes, without_opens, without_pipes, zero, ℕ, ℤ, ◌%◌, ◌&&◌, ◌+ℤ◌, ◌+◌, ◌<◌}
use Rattle.calls.proofs.Common.{◌==◌, ◌||◌, ◌∙◌, ◌∷◌, ◌≡◌, ◌≢◌}
use Rattle.kernel.proofs.Readies.{place-state}
use Rattle.calls.proofs.Common.{Result}
use Rattle.std.specs.List.{list_any}
use Rattle.unixmodel.specs.Outcome.{halt_status, orphaned, with_zombie, zombie_of}
use Rattle.unixmodel.specs.ProcessCalls.{fork_row, kill_row, sbrk_row}
use Rattle.proc.specs.Places.{changed_at, has_pid, place_where, seat_at, seat_of, with_mark}
use Rattle.kernel.proofs.Joined.{change_process-with_table}
use Rattle.kernel.proofs.Runs.{change-run}
use Rattle.std.proofs.lemmas.List.Sums.{sum_by-cons}
use Rattle.unixmodel.specs.Files.{taken}
use Rattle.unixmodel.specs.Counts.{opens_of, process_frames}
use Rattle.unixmodel.specs.OpenFiles.{OpenFile, is_node}
use Rattle.calls.proofs.Acts.{came, makes, refused, does}
use Rattle.unixmodel.specs.Process as unix
use Rattle.unixmodel.specs.ProcessCalls as rows
use Rattle.kernel.proofs.Forking.{fork-full, fork-state, free-run, next-run}
use Rattle.kernel.specs.Processes.{HasForked, LacksRoom}
use Rattle.proc.proofs.Seats.{IsSeat, seat-is}
use Rattle.proc.specs.declared.table.ProcFault.{ProcFault}
use Rattle.proc.specs.declared.table.Seat.{Seat}

-- ---- lists in which one slot changes

abbrev pub altered : {X : Type 0} → List (Option X) → ℕ → (X → X) → List (Option X)
altered os i change = slice_set os i (option_map change (slot os i))

-- two independent changes may be made in any order
pub altered-swap : {X : Type 0} (f g : X → X) → ((x : X) → g (f x) ≡ f (g x)) → (os : List (Option X)) (i j : ℕ)
    → altered (altered os i f) j g ≡ altered (altered os j g) i f
altered-swap f g same [] i j = refl
altered-swap f g same (None ∷ os) zero zero = refl
altered-swap f g same (Some x ∷ os) zero zero = ap (λ y. Some y ∷ os) (same x)
altered-swap f g same (o ∷ os) zero (suc j) = refl
altered-swap f g same (o ∷ os) (suc i) zero = refl
altered-swap f g same (o ∷ os) (suc i) (suc j) = ap (λ ps. o ∷ ps) (altered-swap f g same os i j)

-- what is put in a slot after all have changed may be changed before or after
pub put-altered : {X : Type 0} (all : Option X → Option X) (f : X → X) (x : X) (os : List (Option X)) (i : ℕ)
    → put (map all (altered os i f)) i (f x) ≡ altered (put (map all os) i x) i f
put-altered all f x [] i = refl
put-altered all f x (o ∷ os) zero = refl
put-altered all f x (o ∷ os) (suc i) = ap (λ ps. all o ∷ ps) (put-altered all f x os i)

-- what is read of all taken slots stays, where it is the same for the one that changes
module _ {X Y : Type 0} (read : List X → Y)
    (more : (x : X) (xs ys : List X) → read xs ≡ read ys → read (x ∷ xs) ≡ read (x ∷ ys)) (f : X → X)
    (alike : (x : X) (xs : List X) → read (f x ∷ xs) ≡ read (x ∷ xs)) where
  read-altered : (os : List (Option X)) (i : ℕ) → read (taken (altered os i f)) ≡ read (taken os)
  read-altered [] i = refl
  read-altered (None ∷ os) zero = refl
  read-altered (Some x ∷ os) zero = alike x (taken os)
  read-altered (None ∷ os) (suc i) = read-altered os i
  read-altered (Some x ∷ os) (suc i) = more x (taken (altered os i f)) (taken os) (read-altered os i)

pub any-altered : {X : Type 0} (test : X → Bool) (f : X → X) → ((x : X) → test (f x) ≡ test x)
    → (os : List (Option X)) (i : ℕ) → list_any test (taken (altered os i f)) ≡ list_any test (taken os)
any-altered test f alike =
    read-altered (list_any test) (λ x xs ys same. ap (λ b. test x || b) same) f
    (λ x xs. ap (λ b. b || list_any test xs) (alike x))

pub sum-altered : {X : Type 0} (size : X → ℕ) (f : X → X) → ((x : X) → size (f x) ≡ size x)
    → (os : List (Option X)) (i : ℕ) → sum_by size (taken (altered os i f)) ≡ sum_by size (taken os)
sum-altered size f alike =
    read-altered (sum_by size)
    (λ x xs ys same. sum_by-cons size x xs ∙ ap (λ n. size x + n) same ∙ sym (sum_by-cons size x ys)) f
    (λ x xs. sum_by-cons size (f x) xs ∙ ap (λ n. n + sum_by size xs) (alike x) ∙ sym (sum_by-cons size x xs))

-- ---- a process is marked

-- any process
mark-state : (k : Kernel) (j : ℕ) → change_process (state_of k) j rows.marked ≡ state_of (marked k j)
mark-state k j =
    change_process-with_table rows.marked with_mark (λ g x. refl) (base (rest_of k)) (loaded k) k.spaces.places j
    ∙ ap (λ (t : Places). with_table (base (rest_of k)) t k.spaces.places) (go k.spaces.active)
  where
    go : (o : Option ℕ) → changed (changed_at k.table (on_hart k.spaces) o) j with_mark
        ≡ changed_at (changed k.table j with_mark) (on_hart k.spaces) o
    go None = refl
    go (Some i) = ap (λ (os : List (Option Process)). record k.table { places = os })
        (altered-swap (on_hart k.spaces) with_mark (λ x. refl) k.table.places i j)

mark-within : (s : State) (i : ℕ) → is_within (change_process s i rows.marked) ≡ is_within s
unfolding frames_of
mark-within s i = ap (λ n. nat_le (n + length (taken s.pipes)) s.frame_limit
    && nat_le (blocks_of s.files) s.block_limit && nat_le (opens_of s) open_limit)
    (sum-altered process_frames rows.marked (λ p. refl) s.places i)

-- nothing goes for that
mark-reaps : (s : State) (i : ℕ) → reap (change_process s i rows.marked) ≡ change_process (reap s) i rows.marked
unfolding reap without_nodes without_pipes without_opens
mark-reaps s i =
    let opens = kept-cong (λ n f. is_described (change_process s i rows.marked) n) (λ n f. is_described s n) 0 s.opens
    (λ a n f e at. any-altered (λ (p : unix.Process). list_any (is_same n) p.descriptors) rows.marked
    (λ p. refl) s.places i) in
    rw opens (ap (λ (files : Files). record (change_process (reap s) i rows.marked) { files = files })
    (kept-cong _ _ 0 s.files (λ a n node e at.
    ap (λ b. nat_lt 0 (links_of node)
    || (list_any (λ (f : OpenFile). is_node n f.target) (taken (without_opens s).opens) || b))
    (any-altered (λ (p : unix.Process). p.directory == n) rows.marked (λ p. refl) s.places i))))

-- it is marked before it ends, or after that
mark-ends : (s : State) (i : ℕ) (p : unix.Process) (status : ℤ)
    → end_process (change_process s i rows.marked) i (rows.marked p) status
    ≡ change_process (end_process s i p status) i rows.marked
unfolding end_process
mark-ends s i p status =
    ap (λ (os : List (Option unix.Process)). reap (record s { places = os; halted = halt_status s p status }))
    (put-altered (option_map (orphaned p.pid)) rows.marked (zombie_of p status) s.places i)
    ∙ mark-reaps (with_zombie s i p status) i

-- ---- the running process marks itself

module _ {k : Kernel} {i : ℕ} (x : Here k i) where
  -- it has its result
  abbrev y : Here (answered k 0) i
  y = answered-here x 0

  self-marked : marked_by (state_of k) i ≡ change_process (state_of (answered k 0)) i rows.marked
  self-marked =
      ap (λ (os : List (Option unix.Process)). record (state_of k) { places = os })
      (altered-swap rows.marked (with_answer 0) (λ p. refl) (state_of k).places i i)
      ∙ ap (λ (s : State). change_process s i rows.marked) (answer-here x 0)

  self-there : process_at (marked_by (state_of k) i) i ≡ Some (rows.marked (me y))
  self-there =
      ap (λ (s : State). process_at s i)
      (self-marked ∙ change-run (answered k 0) i y.process y.held y.run y.sound rows.marked)
      ∙ slot-put (state_of (answered k 0)).places i (Some (rows.marked (me y)))
      (slot-within (state_of (answered k 0)).places i (me y) (process-here y))

  -- it gets its result, ends, and is marked
  pub settles-killed : slice_index k.spaces.registers 0 ≡ 0 → k.spaces.pc % 4 ≡ 0
      → state_of (marked (ended (answered k 0) i (negsuc 0)) i) ≡ settled_by (state_of k) i KillsItself
  settles-killed zero' aligned =
      sym (mark-state (ended (answered k 0) i (negsuc 0)) i)
      ∙ ap (λ (s : State). change_process s i rows.marked)
      (sym (ends-run (answered k 0) i y.process y.held y.run y.sound
      (get_or-set_other k.spaces.registers 10 0 0 0 (λ e. absurd (omega arith)) ∙ zero') aligned (negsuc 0) x.up))
      ∙ sym (mark-ends (state_of (answered k 0)) i (me y) (negsuc 0))
      ∙ sym (ap (λ (s : State). end_process s i (rows.marked (me y)) (negsuc 0)) self-marked)
      ∙ sym (ap (end_at (marked_by (state_of k) i) i (negsuc 0)) self-there)

  -- ---- the row

  abbrev kills : Option ℕ → Outcome
  kills o = given o (λ j. answers (change_process (state_of k) j rows.marked) 0)

  kill-named : (o : Option ℕ)
      → given o (λ pid. provided (nat_le 1 pid) (kills (place_of_pid (state_of k) pid)))
      ≡ kills (place_called k.table.places o)
  kill-named None = refl
  kill-named (Some zero) = refl
  kill-named (Some (suc n)) =
      let some : nat_le 1 (suc n) ≡ true = le-leb _ _ (omega arith) in
      rw some (ap kills (place-state k (suc n)))

  kill-is : {o : Option ℕ} → place_called k.table.places (natural (int_of (argument k 0))) ≡ o
      → kill_row (state_of k) i (me x) ≡ kills o
  unfolding kill_row
  kill-is found = kill-named (natural (int_of (argument k 0))) ∙ ap kills found

  pub kills-none : place_called k.table.places (natural (int_of (argument k 0))) ≡ None → Acts k k i (Some Kill) Refuses
  kills-none none = refused x (Some Kill) (ap limited (kill-is none))

  pub kills-other : {j : ℕ} → place_called k.table.places (natural (int_of (argument k 0))) ≡ Some j → {new : Kernel}
      → new ≡ waking (marked k j) new.table.awake → IsKernel new → Acts k new i (Some Kill) (Answers 0)
  kills-other {j} found made sound =
      makes x Kill 0 sound made refl refl (state-waking (marked k j) _ ∙ sym (mark-state k j)) (kill-is found)

  pub kills-self : place_called k.table.places (natural (int_of (argument k 0))) ≡ Some i
      → Acts k k i (Some Kill) KillsItself
  kills-self found =
      let settled : settle (state_of k) i (limited (Done (change_process (state_of k) i rows.marked) 0 []))
      ≡ quiet (settled_by (state_of k) i KillsItself) =
      rw (mark-within (state_of k) i ∙ within-state k x.sound x.up, self-there) refl in
      came x (Some Kill) KillsItself tt
      (ap (λ (o : Outcome). settle (state_of k) i (limited o)) (kill-is found) ∙ settled)

-- a pid that is not 0 is looked for
pub named-is : (os : List (Option Process)) (n : ℕ) → n ≢ 0 → place_called os (Some n) ≡ place_where os (has_pid n)
named-is os zero some = absurd (some refl)
named-is os (suc n) some = refl

-- ---- fork and sbrk: the running process has a child, or another size

-- ---- fork

module _ {k : Kernel} {i : ℕ} (runs : RunsAt k i) where
  abbrev x : Here k i
  x = here-of runs

  unseated-go : (o : Option ℕ) (b : Bool) (fault : ProcFault) → free_slot k.table.places ≡ o
      → nat_le k.table.next_pid last_pid ≡ b → seat_at k.table.next_pid o ≡ Err fault
      → fork_row (state_of k) i (me x) ≡ Refused
  unfolding fork_row
  unseated-go None b fault at left is = rw (free-run x.runner, at) refl
  unseated-go (Some j) true fault at left is = let e = rw left at is in absurd (cc)
  unseated-go (Some j) false fault at left is = rw (free-run x.runner, at, next-run x.runner, left) refl

  fork-unseated : {fault : ProcFault} → seat_of k.table ≡ Err fault → Acts k k i (Some Fork) Refuses
  fork-unseated {fault} seats =
      refused x (Some Fork) (ap limited
      (unseated-go (free_slot k.table.places) (nat_le k.table.next_pid last_pid) fault refl refl seats))

  module _ {seat : Seat} (seats : seat_of k.table ≡ Ok seat) where
    is : IsSeat k.table seat
    is = seat-is k.table seat seats

    abbrev new : Kernel
    new = forked_as k i seat (on_hart k.spaces x.process)

    forked-row : fork_row (state_of k) i (me x) ≡ Done (state_of new) seat.pid []
    unfolding fork_row
    forked-row =
        let next = next-run x.runner in
        let left : nat_le (state_of k).next_pid last_pid ≡ true = rw next is.left in
        rw (free-run x.runner, is.free, left)
        (ap (λ (s : State). Done s (state_of k).next_pid [])
        (sym (fork-state x.runner runs.zero runs.aligned seat is))
        ∙ ap (λ (n : ℕ). Done (state_of new) n []) (next ∙ sym is.pid))

    fork-unfit : k.spaces.frames < taken_frames (copied k.spaces i seat.place) → Acts k k i (Some Fork) Refuses
    fork-unfit over = refused x (Some Fork)
        (ap limited forked-row ∙ rw (fork-full x.runner runs.zero runs.aligned seat is over) refl)

  pub fork-refused : LacksRoom k i → Acts k k i (Some Fork) Refuses
  fork-refused lacks = go (seat_of k.table) refl where
    go : (r : Result Seat ProcFault) → seat_of k.table ≡ r → Acts k k i (Some Fork) Refuses
    go (Ok seat) is = fork-unfit is (lacks seat is)
    go (Err fault) is = fork-unseated is

  pub forks : {k' : Kernel} {seat : Seat} → IsKernel k' → HasForked k k' i seat
      → Acts k k' i (Some Fork) (Answers seat.pid)
  forks {k'} {seat} sound forked =
      let so = forked.same x.process x.run.process in
      let new = forked_as k i seat (on_hart k.spaces x.process) in
      does x Fork seat.pid (here-as x sound so refl (ap (λ (y : Kernel). y.tree.failed) so ∙ runs.up))
      (rw so (record { up = runs.up; same_device = refl; later = omega arith }))
      (forked-row forked.next ∙ ap (λ (s : State). Done s seat.pid []) (sym (state-but new so)))

-- ---- sbrk

module _ {k : Kernel} {i : ℕ} (x : Here k i) where
  pub sbrk-below : asked k i (int_of (argument k 0)) ≡ None → Acts k k i (Some Sbrk) Refuses
  unfolding sbrk_row
  sbrk-below below = let none : natural (pos x.held.size +ℤ int_of (argument k 0)) ≡ None =
      rw (held-here x) at below in refused x (Some Sbrk) (rw none refl)

  module _ {size : ℕ} (can : asked k i (int_of (argument k 0)) ≡ Some size) where
    sized-row : row_of x Sbrk ≡ Done (state_of (resized k i size)) x.held.size []
    unfolding sbrk_row
    sized-row =
        let can' : natural (pos x.held.size +ℤ int_of (argument k 0)) ≡ Some size = rw (held-here x) at can in
        rw can' (ap (λ (s : State). Done s x.held.size []) (sym (resized-state x.run x.sound size)))

    pub sbrk-acts : {new : Kernel} → new ≡ resized k i size → IsKernel new → {old : ℕ}
        → old ≡ (view_at k.spaces i).size → Acts k new i (Some Sbrk) (Answers old)
    sbrk-acts is sound old =
        rw (is, old ∙ ap (λ (h : SpaceView). h.size) (held-here x))
        (makes x Sbrk x.held.size (subst IsKernel is sound) refl refl refl refl sized-row)

    pub sbrk-over : {new : Kernel} → k.spaces.frames < taken_frames (resized k i size).spaces → new ≡ k
        → Acts k new i (Some Sbrk) Refuses
    sbrk-over over same = rw same
        (refused x (Some Sbrk) (ap limited sized-row ∙ rw (reheld-full x.run x.sound _ over) refl))
