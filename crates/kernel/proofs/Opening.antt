-- The running process has a new open file, or opens both ends of a new pipe.
use Rattle.kernel.proofs.Common.{count_by-le-length, is_same, home_in, homes_at, files_on, ◌≡◌, ℕ, ◌≤◌, false, List}
use Rattle.kernel.proofs.Common.{length, Option, Some, refl, ap, subst, sym, ◌∙◌, length-set, Kernel, state_of}
use Rattle.kernel.proofs.Common.{IsKernel, IsOpened, IsInUse, Counted, opens_of, Process, taken_frames, FileTree, put}
use Rattle.kernel.proofs.Common.{slot, put_process, eq-eqb, ◌<◌, None, arith, descriptors_in, descriptors_at, Keeps}
use Rattle.kernel.proofs.Common.{IsPiped, count_at, free-place, with_descriptor, all-set, option_map, get_or-set_other}
use Rattle.kernel.proofs.Common.{is_none, ◌≢◌, same_Some, IsOpenFile, FitsNode, node_in, node_of, node_on, one_in}
use Rattle.kernel.proofs.Common.{count_in, file_at, opened, file_of, target_of, holders, with_hold, woken_by, Bytes}
use Rattle.kernel.proofs.Common.{none-some, ◌||◌, is_pipe, Places, IsOpenOn, count-opened, free-opens, count_by}
use Rattle.kernel.proofs.Common.{has_pipe-put, IsWhole, free_slot, inl, inr, [], get_or-set_same, cases_eq, ne_eqb, End}
use Rattle.kernel.proofs.Common.{slice_set, slot-within, free-put, with_pipe, ReadEnd, WriteEnd, set-set}
use Rattle.kernel.proofs.Holding.{sum-put, FitsIn, fits-some, fits-there, used-more, used-opened, Fds, Opens, Pipes}
use Rattle.kernel.proofs.Runs.{IsRun, slot-put}
use Rattle.kernel.proofs.Joined.{place-counts, alike-same, waits-kept}
use Rattle.kernel.proofs.Watching.{running-at, kernel-waking}
use Rattle.kernel.proofs.Asleep.{watched-running, watched-bytes}
use Rattle.kernel.proofs.Turning.{Runner, descriptors-run, me_of, named-length, named-opened, named_ds, namer}
use Rattle.kernel.proofs.Turning.{renamed-kernel, renamed-run, renamed-state, renamed_to, runner-of, used-turned}
use Rattle.unixmodel.specs.FileCalls as row
use Rattle.unixmodel.specs.OpenFiles as unix_files
use Rattle.files.specs.Places.{has_pipe, free_count}
use Rattle.files.specs.declared.file.OpenFile.{OpenFile}
use Rattle.files.specs.declared.file.Target.{Target}
use Rattle.files.specs.declared.file.Target.TheVariants as target
use Rattle.files.specs.declared.file.End.TheVariants as end
use Rattle.unixmodel.specs.FileCalls.{pipe_end}
use Rattle.files.proofs.Whole.{free_slot-opens, opens-opened, table-opened}
use Rattle.kernel.specs.Opening.{MayOpen, OpensAs, opened_at, opened_on, AreFree, Ends, HasPiped, free_descriptors}
use Rattle.kernel.specs.Opening.{half_piped, pipe_file, piped}

-- ---- the running process has a new open file

-- ---- it is on a node

on-no-pipe : (n q : ℕ) (t : Target) → node_on t ≡ Some n → is_pipe q (target_of t) ≡ false
on-no-pipe n q (target.Pipe pipe e) on = absurd (none-some n on)
on-no-pipe n q _ on = refl

on-open : (n : ℕ) (f : unix_files.OpenFile) (t : Target) → node_on t ≡ Some n → IsOpenOn f (target_of t)
on-open n f (target.Pipe pipe e) on = absurd (none-some n on)
on-open n f _ on = tt

pub open-there : {k : Kernel} {i n : ℕ} {f : OpenFile} → MayOpen k i n f → slot k.tree.files n ≢ None
open-there {k} {i} {n} {f} may = fits-there n f _ _ may.on may.fits

-- no more hold a node than there are open files and processes
pub hold-few : {k : Kernel} → IsKernel k → k.tree.failed ≡ false → (n : ℕ) → holders k.tree.holds n < 65535
hold-few {k} is up n =
    let files : files_on k.files n ≤ length k.files = count_by-le-length (λ o. is_same n (node_in o)) k.files in
    let homes : homes_at k.table.places n ≤ length k.table.places = count_by-le-length (λ o. is_same n (home_in o)) _ in
    omega (arith, (is.used up).holds n, files, homes, is.opened.table.all, is.all)

-- ---- f takes a slot, and a descriptor names it

module _ {k : Kernel} {i : ℕ} (x : Runner k i) (f : OpenFile) (place fd : ℕ) where
  abbrev files : Opens
  files = opened k.files place f

  opens-is : opens_of files ≡ put (opens_of k.files) place (file_of f)
  opens-is = opens-opened k.files place f

  -- with other files of the disk, and other pipes
  opens-made : (tree : FileTree) (pipes : Pipes)
      → renamed_to x (named_ds x fd place) x.process.directory tree files pipes
      ≡ record (opened_at k i f place fd) { tree = tree; spaces = record k.spaces { pipes = pipes } }
  opens-made tree pipes = rw x.run.process refl

  pub open-state : (n : ℕ)
      → state_of (opened_on k i n f place fd)
      ≡ record (put_process (state_of k) i (row.with_descriptor (me_of x) fd place))
      { opens = put (opens_of k.files) place (file_of f) }
  open-state n =
      let held : FileTree = record k.tree { holds = with_hold k.tree.holds n } in
      ap state_of (sym (opens-made held _))
      ∙ renamed-state x _ _ (named-length x fd place) held files _
      ∙ ap (λ (os : List (Option unix_files.OpenFile)). record
      (put_process (state_of k) i (row.with_descriptor (me_of x) fd place)) { opens = os }) opens-is

  pub opens-run : (pipes : Pipes)
      → IsRun (record (opened_at k i f place fd) { spaces = record k.spaces { pipes = pipes } }) i (namer x fd place)
      x.held
  opens-run pipes = rw (← opens-made k.tree pipes)
      (renamed-run x _ x.process.directory (named-length x fd place) k.tree files pipes)

  module _ (first : free_slot (opens_of k.files) ≡ Some place) (free : free_slot (descriptors_at k i) ≡ Some fd) where
    place-free : (place < length k.files) × (slot k.files place ≡ None)
    place-free = free-place _ place (sym (free_slot-opens k.files) ∙ first)

    -- each open file except the new one was there
    each : IsOpenFile (file_of f) → (m : ℕ) (g : unix_files.OpenFile) → slot (opens_of files) m ≡ Some g → IsOpenFile g
    each means = subst (λ os. (m : ℕ) (g : unix_files.OpenFile) → slot os m ≡ Some g → IsOpenFile g) (sym opens-is)
        (all-set (λ m o. (g : unix_files.OpenFile) → o ≡ Some g → IsOpenFile g) _ place _
        (λ g at. subst IsOpenFile (same_Some _ g at) means) x.sound.opened.each)

    was-there : (m : ℕ) (g : OpenFile) → 0 < count_at k.files m → file_at files m ≡ Some g → file_at k.files m ≡ Some g
    was-there m g some at =
        let apart : m ≢ place = λ same. (let none : count_at k.files m ≡ 0 = ap (count_at k.files) same
        ∙ ap count_in place-free.1 in omega (arith, some, none)) in
        sym (ap (option_map (λ (c : Counted). c.file))
        (get_or-set_other k.files place m (Some (record { file = f; count = 1 })) None apart)) ∙ at

    has-opened : IsOpenFile (file_of f) → (pipes : Pipes) → length pipes ≡ 100 → IsPiped pipes (opens_of files)
        → IsOpened files pipes (put k.table.places i (namer x fd place))
    has-opened means pipes all piped = let was = x.sound.opened in
        named-opened x fd place files pipes free (count-opened _ place f place-free.0 place-free.1)
        (table-opened _ place f was.table) (each means) all piped
        (λ j. waits-kept _ files _
        (λ d m g named at. (g, (was-there m g (place-counts _ _ was.counted j _ refl d m named) at, alike-same g)))
        (was.waits j))

    -- it is on no node
    pub opens-kernel : IsOpenFile (file_of f) → node_on f.target ≡ None → FitsNode f f.target None → (pipes : Pipes)
        → length pipes ≡ 100 → IsPiped pipes (put (opens_of k.files) place (file_of f))
        → taken_frames (record k.spaces { pipes = pipes }) ≤ k.spaces.frames
        → IsKernel (record (opened_at k i f place fd) { spaces = record k.spaces { pipes = pipes } })
    opens-kernel means on fits pipes all piped low =
        rw (← opens-made k.tree pipes)
        (renamed-kernel x _ x.process.directory (named-length x fd place) _ files pipes
        (λ up. used-opened (used-turned x (namer x fd place) x.run.runs refl up) place f place-free.0 place-free.1
        on fits)
        (has-opened means pipes all (subst (IsPiped pipes) (sym opens-is) piped)) low)

    -- ---- it is on node n

    module _ (n : ℕ) (may : MayOpen k i n f) (short : n < length k.tree.holds) where
      abbrev tree : FileTree
      tree = record k.tree { holds = with_hold k.tree.holds n }

      abbrev one : Counted
      one = record { file = f; count = 1 }

      used : IsInUse tree files (put k.table.places i (namer x fd place))
      used =
          let before = used-turned x (namer x fd place) x.run.runs refl may.up in
          used-more before n short files (put k.table.places i (namer x fd place))
          (λ m.
          let new : one_in m (node_in (Some one)) ≡ one_in m (Some n) = ap (one_in m) may.on in
          omega (arith, new, sum-put (λ o. one_in m (node_in o)) _ place one place-free.0 place-free.1 refl))
          (all-set (λ j. FitsIn k.tree) _ place _
          (fits-some k.tree one (subst (λ o. FitsNode f f.target (node_of k.tree.files o)) (sym may.on) may.fits))
          before.fits)
          before.homes

      pub open-kernel : IsKernel (opened_on k i n f place fd)
      open-kernel =
          let at = free-place _ place first in
          let piped : IsPiped k.spaces.pipes (opens_of files) =
          subst (IsPiped k.spaces.pipes) (sym opens-is)
          (λ r. x.sound.opened.piped r
          ∙ sym (has_pipe-put _ place _ r at.0 at.1
          ∙ ap (λ b. b || has_pipe (opens_of k.files) r) (on-no-pipe n r _ may.on))) in
          rw (← opens-made tree k.spaces.pipes)
          (renamed-kernel x _ x.process.directory (named-length x fd place) tree files _ (λ up. used)
          (has-opened (on-open n _ _ may.on) _ x.sound.opened.all piped) x.sound.fits)

pub open-keeps : {k : Kernel} {i n fd : ℕ} {f : OpenFile} {t : Places} {files : Opens} → Keeps k → MayOpen k i n f
    → IsWhole k.tree → OpensAs k.table t k.files files i f fd
    → Keeps (record k {
      tree = record k.tree { holds = with_hold k.tree.holds n };
      table = woken_by Bytes t;
      files = files;
    })
open-keeps {k} {i} {n} {fd} {f} keeps may whole opens = rw (opens.names, opens.opens) (record {
  sound = kernel-waking (open-kernel (runner-of keeps.sound may.running) f _ fd opens.place opens.free n may
      (whole.numbers n (open-there may)).0) _;
  watched = watched-bytes (watched-running keeps.watched i (with_descriptor fd (Some opens.number))
      (running-at keeps.sound i may.running) (λ p pid is. is)) _ refl;
})

-- ---- the running process opens both ends of a new pipe

-- an end of a pipe is opened as the pipe is put in its slot
end-comes : (pipes : Pipes) (opens : List (Option unix_files.OpenFile)) (q k : ℕ) (e : End) (bytes : List ℕ)
    → IsPiped pipes opens → q < length pipes → k < length opens → slot opens k ≡ None
    → IsPiped (put pipes q bytes) (put opens k (pipe_end q e))
end-comes pipes opens q k ReadEnd bytes is inside low free r = elim (cases_eq r q) [
  | inl same ↦ rw (
    same,
    has_pipe-put opens k (pipe_end q ReadEnd) q low free,
    get_or-set_same pipes q (Some bytes) None inside,
    eq-eqb q q refl,
  ) refl
  | inr other ↦ rw (
    has_pipe-put opens k (pipe_end q ReadEnd) r low free,
    get_or-set_other pipes q r (Some bytes) None other,
    ne_eqb q r (λ same. other (sym same)),
  ) (is r)
]
end-comes pipes opens q k WriteEnd bytes is inside low free r = elim (cases_eq r q) [
  | inl same ↦ rw (
    same,
    has_pipe-put opens k (pipe_end q WriteEnd) q low free,
    get_or-set_same pipes q (Some bytes) None inside,
    eq-eqb q q refl,
  ) refl
  | inr other ↦ rw (
    has_pipe-put opens k (pipe_end q WriteEnd) r low free,
    get_or-set_other pipes q r (Some bytes) None other,
    ne_eqb q r (λ same. other (sym same)),
  ) (is r)
]

module _ {k : Kernel} {i : ℕ} (x : Runner k i) (e : Ends) (free : AreFree k i e)
    (fits : taken_frames (with_pipe k.spaces e.pipe (Some [])) ≤ k.spaces.frames) where
  abbrev pipes : Pipes
  pipes = put k.spaces.pipes e.pipe []

  room : e.pipe < length k.spaces.pipes
  room = (free-place _ _ free.pipe).0

  abbrev half : Runner (half_piped k i e) i
  half = record {
    process = record x.process { descriptors = put x.process.descriptors e.read_fd e.reader };
    held = x.held;
    run = opens-run x _ e.reader e.read_fd pipes;
    sound = (let at = free-place _ _ free.reader in
        opens-kernel x _ _ _ free.reader free.read_fd refl refl tt pipes
        (length-set k.spaces.pipes e.pipe (Some []) ∙ x.sound.opened.all)
        (end-comes _ _ _ _ ReadEnd [] x.sound.opened.piped room at.0 at.1) fits);
  }

  abbrev reader_files : Opens
  reader_files = opened k.files e.reader (pipe_file e.pipe end.Read)

  writer-first : free_slot (opens_of reader_files) ≡ Some e.writer
  writer-first = ap free_slot (opens-opened k.files e.reader _) ∙ free.writer

  piped-kernel : IsKernel (piped k i e)
  piped-kernel =
      let at = free-place _ _ writer-first in
      let comes = end-comes pipes _ _ _ WriteEnd [] half.sound.opened.piped
      (omega (arith, room, length-set k.spaces.pipes e.pipe (Some []))) at.0 at.1 in
      opens-kernel half _ _ _ writer-first
      (ap free_slot (descriptors-run half)
      ∙ ap (λ (ds : Fds). free_slot (put ds e.read_fd e.reader)) (sym (descriptors-run x)) ∙ free.write_fd) refl
      refl tt pipes half.sound.opened.all
      (subst (λ ps. IsPiped ps (put (opens_of reader_files) e.writer (pipe_end e.pipe WriteEnd)))
      (set-set k.spaces.pipes e.pipe (Some []) (Some [])) comes) fits

  piped-watched : Keeps k → Keeps (record (piped k i e) { table = woken_by Bytes (piped k i e).table })
  piped-watched keeps = record {
    sound = kernel-waking piped-kernel _;
    watched = watched-bytes (watched-running
        (watched-running keeps.watched i (with_descriptor e.read_fd (Some e.reader))
        (running-at x.sound i x.run.active) (λ p pid is. is)) i (with_descriptor e.write_fd (Some e.writer))
        (running-at half.sound i x.run.active) (λ p pid is. is)) _ refl;
  }

-- ---- one end is open

module _ {t t1 : Places} {opens opens1 : Opens} {i : ℕ} {f : OpenFile} {fd : ℕ} {p : Process}
    (at : slot t.places i ≡ Some p) (one : OpensAs t t1 opens opens1 i f fd) where
  names-one : descriptors_in (slot t1.places i) ≡ put p.descriptors fd one.number
  names-one =
      let name = with_descriptor fd (Some one.number) in
      ap (λ (u : Places). descriptors_in (slot u.places i))
      (one.names ∙ ap (λ (o : Option Process).
      let u : Places = record t { places = slice_set t.places i (option_map name o) } in u) at)
      ∙ ap descriptors_in (slot-put _ i _ (slot-within _ i p at))

  opens-one : opens_of opens1 ≡ put (opens_of opens) one.number (file_of f)
  opens-one = ap opens_of one.opens ∙ opens-opened opens _ f

  -- and a slot and a descriptor are left
  pub place-left : 2 ≤ free_count opens → 0 < free_count opens1
  place-left two =
      let there = free-place (opens_of opens) one.number one.place in
      let left = free-put (opens_of opens) one.number (file_of f) there.0 there.1 in
      let now : count_by is_none (opens_of opens1) ≡ count_by is_none (put (opens_of opens) one.number (file_of f)) =
      ap (count_by is_none) opens-one in
      omega (arith, left, now, two, free-opens opens, free-opens opens1)

  pub descriptor-left : 2 ≤ free_descriptors t i → 0 < free_descriptors t1 i
  descriptor-left two =
      let was : free_descriptors t i ≡ count_by is_none p.descriptors =
      ap (λ (o : Option Process). count_by is_none (descriptors_in o)) at in
      let there = free-place p.descriptors fd
      (ap (λ (o : Option Process). free_slot (descriptors_in o)) (sym at) ∙ one.free) in
      let left = free-put p.descriptors fd one.number there.0 there.1 in
      let now : free_descriptors t1 i ≡ count_by is_none (put p.descriptors fd one.number) =
      ap (count_by is_none) names-one in
      omega (arith, left, now, two, was)

-- both are
module _ {k : Kernel} {i q r w : ℕ} {t1 t2 : Places} {files1 files2 : Opens} (x : Runner k i)
    (room : free_slot k.spaces.pipes ≡ Some q) (one : OpensAs k.table t1 k.files files1 i (pipe_file q end.Read) r)
    (two : OpensAs t1 t2 files1 files2 i (pipe_file q end.Write) w) where
  abbrev ends : Ends
  ends = record { pipe = q; reader = one.number; writer = two.number; read_fd = r; write_fd = w }

  ends-free : AreFree k i ends
  ends-free = record {
    pipe = room;
    reader = one.place;
    writer = ap free_slot (sym (opens-one x.run.process one)) ∙ two.place;
    read_fd = one.free;
    write_fd = ap (λ (ds : Fds). free_slot (put ds r one.number)) (descriptors-run x)
        ∙ ap free_slot (sym (names-one x.run.process one)) ∙ two.free;
  }

  abbrev made : Kernel
  made = record k { table = woken_by Bytes t2; spaces = with_pipe k.spaces q (Some []); files = files2 }

  module _ (fits : taken_frames (with_pipe k.spaces q (Some [])) ≤ k.spaces.frames) where
    pub pipe-keeps : Keeps k → Keeps made
    pipe-keeps keeps = rw (two.names, one.names, two.opens, one.opens) (piped-watched x ends ends-free fits keeps)

    pub pipe-made : HasPiped k made i q r w
    pipe-made = record {
      ends = ends;
      free = ends-free;
      is = (refl, refl, refl);
      fits = fits;
      same = rw (two.names, one.names, two.opens, one.opens) refl;
    }
