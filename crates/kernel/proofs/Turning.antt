-- The running process has other descriptors, or works in another directory; files, open files and pipes may be others
-- too.
use Rattle.kernel.proofs.Common.{home_in, one_at, IsTable, ◌≡◌, ℕ, ◌≤◌, false, List, length, Option, Some, refl, ap}
use Rattle.kernel.proofs.Common.{subst, sym, ◌∙◌, length-set, Kernel, state_of, IsKernel, IsOpened, IsPlace, IsPlaced}
use Rattle.kernel.proofs.Common.{IsInUse, opens_of, Process, SpaceView, taken_frames, FileTree, Running, put, slot}
use Rattle.kernel.proofs.Common.{State, put_process, eq-eqb, ◌+◌, ◌<◌, None, arith, sum_by-set, descriptors_in}
use Rattle.kernel.proofs.Common.{named_by, names_in, descriptors_at, Keeps, names, count-shared, IsPiped, count_at}
use Rattle.kernel.proofs.Common.{shared, table-shared, IsWatched, awaited_in, true, is_within, loaded, le-leb}
use Rattle.kernel.proofs.Common.{names-put, free-place, duplicated, with_descriptor, all-set, WaitsWell, IsOpenFile}
use Rattle.kernel.proofs.Common.{free_slot}
use Rattle.kernel.proofs.Holding.{used-put, used-shared, Fds, Opens, Pipes, Views}
use Rattle.kernel.proofs.Runs.{IsRun, home-running, moved-state, process-run, run-of, runs-set, self, set-slot}
use Rattle.kernel.proofs.Runs.{slot-put, stands-set, with_process, within-run, within-space, live, not-killed}
use Rattle.kernel.proofs.Runs.{runs-mode}
use Rattle.kernel.proofs.Reaping.{match-active, match-place, within-state_with}
use Rattle.unixmodel.specs.Process as unix
use Rattle.kernel.proofs.Joined.{file-shared, place-counts, waits-fewer, waits-running}
use Rattle.kernel.proofs.Watching.{running-at}
use Rattle.kernel.proofs.Asleep.{watched-running}
use Rattle.kernel.proofs.Readies.{running-state}
use Rattle.kernel.specs.Idle.{running_process}
use Rattle.std.specs.Prelude.{option_and_then}
use Rattle.unixmodel.specs.State.{process_at}
use Rattle.unixmodel.specs.FileCalls as row
use Rattle.unixmodel.specs.OpenFiles as unix_files
use Rattle.files.proofs.Whole.{opens-shared}
use Rattle.kernel.specs.Opening.{MayShare}

-- the running process and its space, in a kernel that is sound
pub record Runner (k : Kernel) (i : ℕ) : Type 0 where
  pub process : Process
  pub held : SpaceView
  pub run : IsRun k i process held
  pub sound : IsKernel k

pub runner-of : {k : Kernel} {i : ℕ} → IsKernel k → k.spaces.active ≡ Some i → Runner k i
runner-of {k} {i} is active = let run =
    run-of k i is active in record { process = run.0; held = run.1.0; run = run.1.1; sound = is }

-- as the abstract Unix sees it
abbrev pub me_of : {k : Kernel} {i : ℕ} → Runner k i → unix.Process
me_of {k} x = self k x.process x.held

pub running-me : {k : Kernel} {i : ℕ} (x : Runner k i) → running_process (state_of k) ≡ Some (me_of x)
running-me {k} {i} x = ap (option_and_then (process_at (state_of k))) (running-state k x.sound ∙ x.run.active)
    ∙ process-run k i x.process x.held x.run

pub running-nobody : {k : Kernel} → IsKernel k → k.spaces.active ≡ None → running_process (state_of k) ≡ None
running-nobody {k} is idle = ap (option_and_then (process_at (state_of k))) (running-state k is ∙ idle)

-- the files stay in use where the running process is another one that works where it did
pub used-turned : {k : Kernel} {i : ℕ} (x : Runner k i) (q : Process) → q.mode ≡ Running
    → q.directory ≡ x.process.directory → k.tree.failed ≡ false → IsInUse k.tree k.files (put k.table.places i q)
used-turned {i = i} x q runs same up =
    used-put (x.sound.used up) i (Some q)
    (home-running q runs ∙ ap Some same ∙ sym (home-running x.process x.run.runs) ∙ sym (ap home_in x.run.process))

module _ {k : Kernel} {i : ℕ} (x : Runner k i) (ds : Fds) (directory : ℕ) where
  abbrev pub renamed : Process
  renamed = record x.process { descriptors = ds; directory = directory }

  -- files, open files and pipes may be others, too
  abbrev pub renamed_to : FileTree → Opens → Pipes → Kernel
  renamed_to tree files pipes =
      record k {
        tree = tree;
        table = with_process k.table i renamed;
        spaces = record k.spaces { pipes = pipes };
        files = files;
      }

module _ {k : Kernel} {i : ℕ} (x : Runner k i) (ds : Fds) (directory : ℕ)
    (same : length ds ≡ length x.process.descriptors) where
  abbrev q : Process
  q = renamed x ds directory

  named-placed : IsPlaced q x.held
  named-placed = let l = live k i _ _ x.run x.sound in let placed = x.run.placed in record {
    zero = placed.zero;
    aligned = placed.aligned;
    mode = runs-mode q _ _ x.run.runs (record { descriptors = same ∙ l.descriptors })
        (not-killed k i _ _ x.run x.sound);
  }

  pub renamed-stands : (j : ℕ) → IsPlace (slot (put k.table.places i q) j) (slot k.spaces.places j)
  renamed-stands = subst (λ hs. (j : ℕ) → IsPlace (slot (put k.table.places i q) j) (slot hs j))
      (set-slot _ i _ x.run.space)
      (stands-set _ _ i _ _ (within-run k i _ _ x.run) (within-space k i _ _ x.run x.sound) named-placed x.sound.stands)

  module _ (tree : FileTree) (files : Opens) (pipes : Pipes) where
    abbrev to : Kernel
    to = renamed_to x ds directory tree files pipes

    pub renamed-kernel : (tree.failed ≡ false → IsInUse tree files (put k.table.places i q))
        → IsOpened files pipes (put k.table.places i q) → taken_frames to.spaces ≤ k.spaces.frames → IsKernel to
    renamed-kernel used opened fits = record {
      all = length-set k.table.places i (Some q) ∙ x.sound.all;
      spaces = x.sound.spaces;
      stands = renamed-stands;
      runs = runs-set _ i _ _ _ (within-run k i _ _ x.run) (rw (x.run.runs, x.run.active) (sym (eq-eqb i i refl)))
          (λ j other. refl) x.sound.runs;
      used = used;
      fits = fits;
      opened = opened;
    }

    pub renamed-run : IsRun to i q x.held
    renamed-run = record {
      active = x.run.active;
      process = slot-put _ i (Some q) (within-run k i _ _ x.run);
      space = x.run.space;
      placed = named-placed;
      runs = x.run.runs;
    }

    pub renamed-state : state_of to
        ≡ record (put_process (state_of k) i (record (me_of x) { descriptors = ds; directory = directory }))
        { files = tree.files; block_limit = tree.block_limit; opens = opens_of files; pipes = pipes }
    renamed-state =
        ap (λ (hs : Views). state_of (record to { spaces = record k.spaces { places = hs; pipes = pipes } }))
        (sym (set-slot _ i _ x.run.space))
        ∙ ap (λ (s : State). record s
        { files = tree.files; block_limit = tree.block_limit; opens = opens_of files; pipes = pipes })
        (moved-state k i _ _ x.run x.sound q _ _ _ named-placed x.run.runs)

-- ---- one more descriptor of the running process names an open file

module _ {k : Kernel} {i : ℕ} (x : Runner k i) where
  pub descriptors-run : descriptors_at k i ≡ x.process.descriptors
  descriptors-run = ap descriptors_in x.run.process

  -- what a descriptor names is counted
  pub named-counts : (d n : ℕ) → slot x.process.descriptors d ≡ Some n → 0 < count_at k.files n
  named-counts d n at = place-counts _ _ x.sound.opened.counted i _ x.run.process d n at

  -- how often an open file is named once process q is in slot i
  pub named-put : (q : Process) (m : ℕ)
      → named_by (put k.table.places i q) m + names m x.process.descriptors
      ≡ named_by k.table.places m + names m q.descriptors
  named-put q m =
      let was : names_in m (slot k.table.places i) ≡ names m x.process.descriptors = ap (names_in m) x.run.process in
      ap (λ n. named_by (put k.table.places i q) m + n) (sym was)
      ∙ sum_by-set (names_in m) _ i (Some q) None (within-run k i _ _ x.run)

module _ {k : Kernel} {i : ℕ} (x : Runner k i) (fd place : ℕ) where
  abbrev pub named_ds : Fds
  named_ds = put x.process.descriptors fd place

  abbrev pub named-length : length named_ds ≡ length x.process.descriptors
  named-length = length-set x.process.descriptors fd (Some place)

  abbrev pub namer : Process
  namer = renamed x named_ds x.process.directory

  -- the open files count one name more
  pub named-opened : (files : Opens) (pipes : Pipes) → free_slot (descriptors_at k i) ≡ Some fd
      → ((m : ℕ) → count_at files m ≡ count_at k.files m + one_at m place) → IsTable files
      → ((m : ℕ) (f : unix_files.OpenFile) → slot (opens_of files) m ≡ Some f → IsOpenFile f) → length pipes ≡ 100
      → IsPiped pipes (opens_of files) → ((j : ℕ) → WaitsWell files (slot k.table.places j))
      → IsOpened files pipes (put k.table.places i namer)
  named-opened files pipes free more table each all piped waits = record {
    table = table;
    counted = λ m.
        let first = free-place _ fd (rw (← descriptors-run x) free) in
        omega (
          arith,
          more m,
          named-put x namer m,
          names-put m x.process.descriptors fd place first.0 first.1,
          x.sound.opened.counted m,
        );
    each = each;
    all = all;
    piped = piped;
    waits = all-set (λ j. WaitsWell files) _ i _ (waits-running files namer x.run.runs) waits;
  }

  dup-is : renamed_to x named_ds x.process.directory k.tree (shared k.files place) k.spaces.pipes
      ≡ duplicated k i fd place
  dup-is = rw x.run.process refl

  pub dup-state : state_of (duplicated k i fd place)
      ≡ put_process (state_of k) i (row.with_descriptor (me_of x) fd place)
  dup-state =
      ap state_of (sym dup-is) ∙ renamed-state x _ _ named-length k.tree _ _
      ∙ ap (λ (os : List (Option unix_files.OpenFile)). record
      (put_process (state_of k) i (row.with_descriptor (me_of x) fd place)) { opens = os })
      (opens-shared k.files place)

  dup-kernel : MayShare k i fd place → IsKernel (duplicated k i fd place)
  dup-kernel may =
      let was = x.sound.opened in
      let same = sym (opens-shared k.files place) in
      let opened = named-opened (shared k.files place) k.spaces.pipes may.free
      (count-shared k.files place (named-counts x may.named.0 place (rw (← descriptors-run x) may.named.1)))
      (table-shared k.files place was.table)
      (λ m f at. was.each m f (ap (λ (os : List (Option unix_files.OpenFile)). slot os m) same ∙ at)) was.all
      (subst (IsPiped k.spaces.pipes) same was.piped)
      (λ j. waits-fewer k.files (shared k.files place) (λ m f at. sym (file-shared k.files place m) ∙ at)
      (slot k.table.places j) (was.waits j)) in
      rw (← dup-is) (renamed-kernel x named_ds x.process.directory named-length k.tree (shared k.files place)
      k.spaces.pipes (λ up. used-shared (used-turned x namer x.run.runs refl up) place) opened x.sound.fits)

-- with other descriptors and another directory it is within the limits
pub renamed-within : {k : Kernel} {i : ℕ} (x : Runner k i) (ds : Fds) (directory : ℕ)
    → length ds ≡ length x.process.descriptors → k.tree.failed ≡ false
    → is_within (put_process (state_of k) i (record (me_of x) { descriptors = ds; directory = directory })) ≡ true
renamed-within {k} {i} x ds directory same up =
    let to = renamed_to x ds directory k.tree k.files k.spaces.pipes in
    ap is_within (sym (renamed-state x ds directory same k.tree k.files _))
    ∙ within-state_with to (loaded to) (x.sound.used up).within x.sound.opened.table
    (match-active to _ (λ j. match-place _ _ (renamed-stands x ds directory same j))) ∙ le-leb _ _ x.sound.fits

pub dup-keeps : {k : Kernel} {i fd n : ℕ} → Keeps k → MayShare k i fd n → Keeps (duplicated k i fd n)
dup-keeps {k} {i} {fd} {n} keeps may = record {
  sound = dup-kernel (runner-of keeps.sound may.running) fd n may;
  watched = subst (λ xs. IsWatched (awaited_in xs k.spaces.pipes k.console k.ticks) (duplicated k i fd n).table.places
      k.table.awake) (sym (opens-shared k.files n))
      (watched-running keeps.watched i (with_descriptor fd (Some n)) (running-at keeps.sound i may.running)
      (λ p pid is. is));
}
