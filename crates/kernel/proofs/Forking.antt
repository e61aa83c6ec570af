-- A process forks, or executes another program.
use Rattle.kernel.proofs.Common.{option_map, with_space, slice_index, get_or-set_other, length-map, length-set}
use Rattle.kernel.proofs.Common.{taken_frames, put_process, is_zombie_mode, taken-placed, prefix_len-set, position-Some}
use Rattle.kernel.proofs.Common.{page_frames, shared_page, table-shared, with_hold, IsInUse, slice_set, all_shared}
use Rattle.kernel.proofs.Common.{state_of, IsKernel, IsOpened, with_table, SpaceView, frames_in, has_space, is_within}
use Rattle.kernel.proofs.Common.{IsWatched, awaited_in, true≢false, and_parts, forked_as, with_view, free_slot, home_in}
use Rattle.kernel.proofs.Common.{length, Option, is_none, is_some, Kernel, on_hart, rest_of, IsPlace, IsPlaced}
use Rattle.kernel.proofs.Common.{Process, Watches, opens_of, child_of, seat_of, set_comm}
use Rattle.kernel.proofs.Common.{IsTable, file_at, ◌≡◌, ◌≢◌, ℕ, ◌+◌, ◌<◌, ◌≤◌, ◌%◌, true, false, List}
use Rattle.kernel.proofs.Common.{Some, None, Ok, refl, ap, subst, sym, ◌∙◌, arith, not, base, is_at, put, slot, State}
use Rattle.kernel.proofs.Common.{Keeps, Seat, seated, woken, joined, copied, forked, reheld, all-set, WaitsWell, ◌-◌}
use Rattle.kernel.proofs.Common.{[], option_and_then, counting, view_at, FileTree, Files, Memory, Spaces, cond_some}
use Rattle.kernel.proofs.Common.{option_and_then_some, ◌*◌, number_at, round_down, Loaded, Plan, Stack, exec_registers}
use Rattle.kernel.proofs.Common.{replaced}
use Rattle.files.specs.Places.{has_pipe}
use Rattle.kernel.proofs.Changes.{other-at}
use Rattle.kernel.proofs.Holding.{home-folder, used-child, used-shared, Fds, Processes}
use Rattle.kernel.proofs.Named.{counted-forked, kept-all_shared, opens-all_shared}
use Rattle.kernel.proofs.Joined.{put-joined, file-shared, waits-fewer, free_slot-joined}
use Rattle.kernel.proofs.Reaping.{over-stands}
use Rattle.kernel.proofs.Runs.{IsRun, home-running, runs-set, slot-other, slot-put, stands-set, state-run, with_process}
use Rattle.kernel.proofs.Runs.{within-space, live, moved, moved-kernel, moved-state, set-slot}
use Rattle.kernel.proofs.Memories.{reheld-kernel, reheld-state}
use Rattle.kernel.proofs.Steps.{held-run, placed-with}
use Rattle.kernel.proofs.Ending.{counting-kernel}
use Rattle.kernel.proofs.Turning.{Runner, me_of, runner-of}
use Rattle.kernel.proofs.Watching.{kernel-waking, watched-roused}
use Rattle.kernel.proofs.Working.{folder-there}
use Rattle.name_rules.proofs.Counts.{none-is}
use Rattle.proc.proofs.Seats.{IsSeat, seat-is}
use Rattle.proc.specs.Places as table
use Rattle.unixmodel.specs.OpenFiles.{OpenFile}
use Rattle.unixmodel.specs.ProcessCalls as rows
use Rattle.kernel.specs.Replacing.{HasReplaced, begun, replaced_by}
use Rattle.programs.specs.declared.executing.Started.{Started}
use Rattle.programs.specs.Executed.{Executes, IsExecuted, plan_at, started_by, view_by}
use Rattle.unixmodel.specs.Plan.{plan, push_pointers, push_strings, with_args, with_stack}
use Rattle.unixmodel.specs.ProcessCalls.{args_at}

-- ---- slots

-- a slot that is taken stays taken
free-put : (os : Processes) (i : ℕ) (p q : Process) → slot os i ≡ Some p → free_slot (put os i q) ≡ free_slot os
free-put os i p q at = rw
    (prefix_len-set (λ o. not (is_none o)) os i _ None (ap (λ o. not (is_none o)) (sym at)), length-set os i (Some q))
    refl

-- ---- the state with the child

module _ {k : Kernel} {i : ℕ} (x : Runner k i) where
  pub free-run : free_slot (state_of k).places ≡ free_slot k.table.places
  free-run =
      ap (λ (s : State). free_slot s.places) (state-run k i _ _ x.run)
      ∙ free_slot-joined _ _
      ∙ free-put _ i _ _ x.run.process

  pub next-run : (state_of k).next_pid ≡ k.table.next_pid
  next-run = ap (λ (s : State). s.next_pid) (state-run k i _ _ x.run)

module _ {k : Kernel} {i : ℕ} (x : Runner k i) (z : slice_index k.spaces.registers 0 ≡ 0) (a : k.spaces.pc % 4 ≡ 0)
    (seat : Seat) (seats : IsSeat k.table seat) where
  abbrev j : ℕ
  j = seat.place

  abbrev parent : Process
  parent = on_hart k.spaces x.process

  abbrev child : Process
  child = record (child_of parent) { pid = seat.pid }

  abbrev pub forked_to : Kernel
  forked_to = record k {
    tree = record k.tree { holds = with_hold k.tree.holds x.process.directory };
    table = seated k.table (child_of parent) seat;
    spaces = with_view k.spaces j x.held;
    files =
        all_shared k.files x.process.descriptors;
  }

  free-table : (j < length k.table.places) × (slot k.table.places j ≡ None)
  free-table = let f = position-Some is_none _ j None seats.free in (f.0, none-is _ f.1)

  free-space : j < length k.spaces.places
  free-space = let f = free-table.0 in omega (arith, x.sound.all, x.sound.spaces, f)

  apart : j ≢ i
  apart e = let at : slot k.table.places i ≡ None = ap (slot k.table.places) (sym e) ∙ free-table.1 in let f =
      x.run.process in absurd (cc)

  child-placed : IsPlaced child x.held
  child-placed = record {
    zero = get_or-set_other k.spaces.registers 10 0 0 0 (λ e. absurd (omega arith)) ∙ z;
    aligned = a;
    mode = record { descriptors = (live k i _ _ x.run x.sound).descriptors };
  }

  forked-stands : (n : ℕ) → IsPlace (slot forked_to.table.places n) (slot forked_to.spaces.places n)
  forked-stands = stands-set _ _ j _ _ free-table.0 free-space child-placed x.sound.stands

  shared-opens : opens_of forked_to.files ≡ opens_of k.files
  shared-opens = opens-all_shared k.files x.process.descriptors

  forked-opened : IsOpened forked_to.files k.spaces.pipes forked_to.table.places
  forked-opened = let was = x.sound.opened in record {
    table = kept-all_shared IsTable table-shared k.files x.process.descriptors was.table;
    counted = counted-forked k.files k.table.places i j x.process child was.counted x.run.process free-table.0
        free-table.1 refl;
    each = λ n f at. was.each n f (ap (λ (os : List (Option OpenFile)). slot os n) (sym shared-opens) ∙ at);
    all = was.all;
    piped = λ q. was.piped q ∙ ap (λ (os : List (Option OpenFile)). has_pipe os q) (sym shared-opens);
    waits = all-set (λ j. WaitsWell forked_to.files) k.table.places j (Some child) tt
        (λ n. waits-fewer k.files forked_to.files
        (λ m f at. sym (kept-all_shared (λ u. file_at u m ≡ file_at k.files m) (λ u n same. file-shared u n m ∙ same)
        k.files x.process.descriptors refl) ∙ at) (slot k.table.places n) (was.waits n));
  }

  forked-run : IsRun forked_to i x.process x.held
  forked-run = record {
    active = x.run.active;
    process = slot-other _ j i _ (λ e. apart (sym e)) ∙ x.run.process;
    space = slot-other _ j i _ (λ e. apart (sym e)) ∙ x.run.space;
    placed = x.run.placed;
    runs = x.run.runs;
  }

  forked-kernel : taken_frames forked_to.spaces ≤ k.spaces.frames → IsKernel forked_to
  forked-kernel fits = record {
    all = length-set k.table.places j (Some child) ∙ x.sound.all;
    spaces = length-set k.spaces.places j (Some x.held) ∙ x.sound.spaces;
    stands = forked-stands;
    runs = runs-set k.table.places j (Some child) k.spaces.active k.spaces.active free-table.0
        (sym (ap (is_at j) x.run.active ∙ other-at i j apart)) (λ n other. refl) x.sound.runs;
    used = λ up. kept-all_shared (λ u. IsInUse forked_to.tree u forked_to.table.places) (λ u n is. used-shared is n)
        k.files x.process.descriptors
        (used-child (x.sound.used up) i x.process.directory j child
        (ap home_in x.run.process ∙ home-running x.process x.run.runs) refl free-table.0 free-table.1);
    fits = fits;
    opened = forked-opened;
  }

  -- that is what fork makes
  forked-state : record (state_of k) {
    places = put (state_of k).places j (rows.child_of (me_of x) (state_of k).next_pid);
    next_pid = (state_of k).next_pid + 1;
  } ≡ state_of forked_to
  forked-state =
      let rest = base (rest_of k) in
      let old = with_process k.table i parent in
      let whole : State → State =
      λ s. record s { places = put s.places j (rows.child_of (me_of x) s.next_pid); next_pid = s.next_pid + 1 }
      in
      let swap : put (put k.table.places j child) i parent ≡ put (put k.table.places i parent) j child =
      set_comm k.table.places j i (Some child) (Some parent) apart in
      ap whole (state-run k i x.process x.held x.run)
      ∙ ap (λ (n : ℕ). record (with_table rest old k.spaces.places) {
        places = put (joined old.places k.spaces.places) j
            (with_space x.held (record (child_of parent) { pid = n }));
        next_pid = k.table.next_pid + 1;
      }) (sym seats.pid)
      ∙ ap (λ places. record (with_table rest old k.spaces.places)
      { places = places; next_pid = k.table.next_pid + 1 })
      (put-joined old.places k.spaces.places j (Some child) (Some x.held) free-space)
      ∙ sym (state-run forked_to i x.process x.held forked-run
      ∙ ap (λ (os : List (Option OpenFile)). with_table (base (record (rest_of k) { opens = os }))
      (with_process forked_to.table i parent) forked_to.spaces.places) shared-opens
      ∙ ap (λ (places : Processes). with_table rest
      (record k.table { places = places; next_pid = k.table.next_pid + 1 }) forked_to.spaces.places) swap)

-- ---- the pages are marked in both

-- the running process has its pages as a fork leaves them
abbrev sharing : {k : Kernel} {i : ℕ} (x : Runner k i) → Runner (reheld k i (forked x.held)) i
sharing {k} {i} x = record {
  process = x.process;
  held = forked x.held;
  run = record {
    active = x.run.active;
    process = x.run.process;
    space = slot-put _ i _ (within-space k i _ _ x.run x.sound);
    placed = placed-with k i _ _ x.run x.sound _;
    runs =
        x.run.runs;
  };
  sound = reheld-kernel x.run x.sound _ (
      let same : frames_in (Some (forked x.held)) ≡ frames_in (Some x.held) =
      ap (λ n. 4 + page_frames n) (length-map x.held.memory shared_page) in
      omega (
        arith,
        same,
        x.sound.fits,
        taken-placed k.spaces i (Some (forked x.held)) (within-space k i _ _ x.run x.sound),
        ap frames_in x.run.space,
      ));
}

module _ {k : Kernel} {i : ℕ} (x : Runner k i) (z : slice_index k.spaces.registers 0 ≡ 0) (a : k.spaces.pc % 4 ≡ 0)
    (seat : Seat) (seats : IsSeat k.table seat) where
  abbrev shared_to : Kernel
  shared_to = forked_to (sharing x) z a seat seats

  forked-is : shared_to ≡ forked_as k i seat (on_hart k.spaces x.process)
  forked-is = rw (held-run k i _ _ x.run x.sound) refl

  -- that is what fork makes
  pub fork-state : state_of (forked_as k i seat (on_hart k.spaces x.process))
      ≡ (let s = put_process (state_of k) i (rows.sharing (me_of x))
      in record s {
        places = put s.places seat.place (rows.child_of (rows.sharing (me_of x)) s.next_pid);
        next_pid = s.next_pid + 1;
      })
  fork-state =
      let whole : State → State =
      λ s. record s {
        places = put s.places seat.place (rows.child_of (rows.sharing (me_of x)) s.next_pid);
        next_pid = s.next_pid + 1;
      } in
      ap state_of (sym forked-is)
      ∙ sym (ap whole (sym (reheld-state x.run x.sound (forked x.held))) ∙ forked-state (sharing x) z a seat seats)

  fork-kernel : taken_frames (copied k.spaces i seat.place) ≤ k.spaces.frames
      → IsKernel (forked_as k i seat (on_hart k.spaces x.process))
  fork-kernel fits = rw (← forked-is)
      (forked-kernel (sharing x) z a seat seats (rw (held-run k i x.process x.held x.run x.sound) at fits))

  -- the frames don't suffice for it
  pub fork-full : k.spaces.frames < taken_frames (copied k.spaces i seat.place)
      → is_within (state_of (forked_as k i seat (on_hart k.spaces x.process))) ≡ false
  fork-full over = subst (λ (y : Kernel). is_within (state_of y) ≡ false) forked-is
      (over-stands shared_to (forked-stands (sharing x) z a seat seats) (rw (held-run k i _ _ x.run x.sound) at over))

none-space : (q : Option SpaceView) → IsPlace None q → is_some q ≡ false
none-space None is = refl
none-space (Some h) is = absurd is

-- the slot of a seat has no space
pub seat-free : (k : Kernel) → IsKernel k → (seat : Seat) → seat_of k.table ≡ Ok seat
    → has_space k.spaces seat.place ≡ false
seat-free k is seat seats =
    let s = seat-is k.table seat seats in
    let f = position-Some is_none _ _ None s.free in
    none-space _ (subst (λ (o : Option Process). IsPlace o (slot k.spaces.places seat.place)) (none-is _ f.1)
    (is.stands seat.place))

-- ---- the step

-- the parent is what the hart holds of it
pub fork-by : (k : Kernel) (i : ℕ) (seat : Seat) {p q : Process}
    → Some q ≡ option_map (on_hart k.spaces) (slot k.table.places i) → slot k.table.places i ≡ Some p
    → forked_as k i seat q ≡ forked_as k i seat (on_hart k.spaces p)
fork-by k i seat {p} {q} said at = let f = ap (option_map (on_hart k.spaces)) at in let same : q ≡ on_hart k.spaces p =
    cc in ap (forked_as k i seat) same

pub fork-there : {k : Kernel} {i : ℕ} (x : Runner k i) {o : Option Process}
    → o ≡ option_map (on_hart k.spaces) (slot k.table.places i) → is_some o ≡ true
fork-there {k} x told = ap is_some (told ∙ ap (option_map (on_hart k.spaces)) x.run.process)

-- a hold of its directory
pub fork-home : {k : Kernel} {i : ℕ} (x : Runner k i) {q : Process} → k.tree.failed ≡ false
    → Some q ≡ option_map (on_hart k.spaces) (slot k.table.places i) → slot k.tree.files q.directory ≢ None
fork-home {k} {i} x {q} up said =
    let at = ap (option_map (on_hart k.spaces)) x.run.process in
    let same : q ≡ on_hart k.spaces x.process = cc in
    folder-there (home-folder (x.sound.used up) i _
    (ap home_in x.run.process ∙ home-running x.process x.run.runs
    ∙ ap (λ (y : Process). Some y.directory) (sym same)))

-- the new process is awake
watched-forked : (k : Kernel) → Watches k → (j : ℕ) (child : Process) → is_zombie_mode child.mode ≡ false → (ds : Fds)
    → IsWatched (awaited_in (opens_of (all_shared k.files ds)) k.spaces.pipes k.console k.ticks)
    (put k.table.places j child) (slice_set k.table.awake j true)
watched-forked k watched j child lives ds =
    subst (λ os. IsWatched (awaited_in os k.spaces.pipes k.console k.ticks) (put k.table.places j child)
    (slice_set k.table.awake j true)) (sym (opens-all_shared k.files ds))
    (watched-roused watched j (Some child)
    (λ pid is. absurd (true≢false
    (sym (and_parts (table.is_child_of pid child) (is_zombie_mode child.mode) is).1 ∙ lives))))

pub fork-keeps : {k : Kernel} {i : ℕ} {seat : Seat} → Keeps k → k.spaces.active ≡ Some i → seat_of k.table ≡ Ok seat
    → slice_index k.spaces.registers 0 ≡ 0 → k.spaces.pc % 4 ≡ 0 → {q : Process}
    → Some q ≡ option_map (on_hart k.spaces) (slot k.table.places i)
    → taken_frames (copied k.spaces i seat.place) ≤ k.spaces.frames
    → Keeps (record (forked_as k i seat q) { table = woken (forked_as k i seat q).table seat.place })
fork-keeps {k} {i} {seat} keeps running next z a {q} said fits =
    let x = runner-of keeps.sound running in
    record {
      sound = kernel-waking (subst IsKernel (sym (fork-by k i seat said x.run.process))
          (fork-kernel x z a seat (seat-is k.table seat next) fits)) _;
      watched = watched-forked k keeps.watched seat.place (record (child_of q) { pid = seat.pid }) refl q.descriptors;
    }

-- ---- exec: another program replaces the one that runs

-- ---- where a program begins: at a multiple of 4

args-pc : (pages : Memory) (pc : ℕ) (args : List (List ℕ)) (q : Plan) → with_args pages pc args ≡ Some q → q.pc ≡ pc
unfolding with_args
args-pc pages pc args q is =
    let size = 4096 * (length pages + 2) in
    let stack : Stack = record { memory = with_stack pages; sp = size; pointers = [] } in
    let last = push_pointers (push_strings stack args) in
    ap (λ (r : Plan). r.pc) (sym (cond_some _ _ q is).1)

plan-pc : (file : List ℕ) (args : List (List ℕ)) (q : Plan) → plan file args ≡ Some q
    → q.pc ≡ round_down (number_at 8 24 file) 4
unfolding plan
plan-pc file args q is =
    option_and_then_some (λ (l : Loaded). with_args l.pages (round_down (number_at 8 24 file) 4) args) _ q is
    (λ l some has. args-pc _ _ args q has)

plan-aligned : (files : Files) (n : ℕ) (mem : Memory) (argv : ℕ) (q : Plan) → plan_at files n mem argv ≡ Some q
    → q.pc % 4 ≡ 0
plan-aligned files n mem argv q is =
    let rounded = λ (n : ℕ). (let low : round_down n 4 % 4 ≡ 0 = omega arith in low) in
    option_and_then_some (λ file. option_and_then (plan file) (args_at mem argv)) _ q is (λ file some has.
    option_and_then_some (plan file) _ q has
    (λ args read made. ap (λ m. m % 4) (plan-pc file args q made) ∙ rounded (number_at 8 24 file)))

-- ---- a program replaces the old one

module _ {k : Kernel} {i : ℕ} (x : Runner k i) (new : Plan) where
  replaced-is : replaced_by k i new ≡ moved k i x.process (view_by new) (exec_registers k.spaces.registers new) new.pc
  replaced-is = rw (set-slot _ i _ x.run.process) refl

  fits-new : IsPlaced x.process (view_by new)
  fits-new = placed-with k i _ _ x.run x.sound _

  pub replaced-kernel : taken_frames (with_view k.spaces i (view_by new)) ≤ k.spaces.frames
      → IsKernel (replaced_by k i new)
  replaced-kernel fits = rw replaced-is (moved-kernel k i _ _ x.run x.sound _ _ _ _ fits-new x.run.runs refl refl fits)

  pub replaced-state : state_of (replaced_by k i new) ≡ put_process (state_of k) i (replaced (me_of x) new)
  replaced-state = ap state_of replaced-is ∙ moved-state k i _ _ x.run x.sound _ _ _ new.pc fits-new x.run.runs

-- ---- what execute leaves of the tree and the spaces

module _ (k : Kernel) (i n argv : ℕ) (t : FileTree) (s : Spaces) (o : Option Started)
    (executed : Executes k.tree.files k.spaces s i n argv o) (started : Started) (is : o ≡ Some started) where
  does : IsExecuted (plan_at k.tree.files n (view_at k.spaces i).memory argv) k.spaces s i started
  does = subst (Executes k.tree.files k.spaces s i n argv) is executed

  pub begins-aligned : started.pc % 4 ≡ 0
  begins-aligned = ap (λ (b : Started). b.pc % 4) does.started ∙ plan-aligned _ n _ argv _ does.is

  module _ (leaves : t ≡ record k.tree { failures = t.failures }) where
    abbrev to : Kernel
    to = record k { tree = t; spaces = begun s started }

    made : to ≡ counting (replaced_by k i does.plan) t.failures
    made =
        ap (λ (b : Started). record k { tree = t; spaces = begun s b }) does.started
        ∙ ap (λ (z : Spaces). record k { tree = t; spaces = begun z (started_by does.plan) }) does.held
        ∙ ap (λ (u : FileTree). record (replaced_by k i does.plan) { tree = u }) leaves

    pub replaced-done : k.tree.failures ≤ t.failures → HasReplaced k to i n argv started
    replaced-done later = record
        { plan = does.plan; is = does.is; fits = does.fits; begins = does.started; same = made; later = later }

    pub replaced-keeps : Keeps k → k.spaces.active ≡ Some i → taken_frames s ≤ s.frames → Keeps to
    replaced-keeps keeps active fits = rw made (record {
      sound = counting-kernel _ _ (replaced-kernel (runner-of keeps.sound active) _ (rw does.held at fits));
      watched = keeps.watched;
    })
