-- A descriptor of the running process is closed; an open file goes on from another offset.
use Rattle.kernel.proofs.Common.{◌≡◌, ℕ, ◌∷◌, [], List, length, Option, Some, None, refl, ap, arith, subst, sym, ◌∙◌}
use Rattle.kernel.proofs.Common.{Result, none-some, DeviceFault, FileTree, Serves, Kernel, loaded, state_of, IsKernel}
use Rattle.kernel.proofs.Common.{Keeps, IsInUse, AreHeld, all_dropped, listed, one_in, Node, Counted, opens_of, Process}
use Rattle.kernel.proofs.Common.{put, slot, slot-within, put_process, reap, all-set, length-set, IsOpened, IsCounted}
use Rattle.kernel.proofs.Common.{last_node, after_close, standing, count-closed, names-clear, pipes-same, closed}
use Rattle.kernel.proofs.Common.{last_target, clear, woken_by, Bytes, with_descriptor, pipes-left, WaitsWell}
use Rattle.kernel.proofs.Common.{option_map, ◌≤◌, file-opens, same_Some, file_of, target_of, file_at, moved_to}
use Rattle.kernel.proofs.Common.{FitsNode, node_in, node_of, node_on, IsOpenFile, is_awaited, is_on_pipe, is_pipe}
use Rattle.kernel.proofs.Common.{count-moved, table-moved, moved, moved_in, advanced, longest, Directory, File}
use Rattle.kernel.proofs.Ending.{told-kernel, counted}
use Rattle.kernel.proofs.Steps.{serves-as}
use Rattle.kernel.proofs.Releasing.{LetsGo, fewer-held, fewer-nodes, fewer-used, fewer-leaves}
use Rattle.kernel.proofs.Holding.{FitsIn, fits-some, map-same, same-set, used-files, Fds, Opens, Pipes, Processes}
use Rattle.kernel.proofs.Leaving.{opened-closed, fewer-standing, counts-joined, files_on-closed, leaves-one}
use Rattle.kernel.proofs.Leaving.{reap-closed}
use Rattle.kernel.proofs.Named.{old-all_closed}
use Rattle.kernel.proofs.Joined.{waits-running, IsAlike, WasAlike, alike-same, waits-kept}
use Rattle.kernel.proofs.Reaping.{away-loaded, opened-loaded, used-active}
use Rattle.kernel.proofs.Turning.{Runner, me_of, renamed-kernel, renamed-state, renamed_to, runner-of, descriptors-run}
use Rattle.kernel.proofs.Turning.{named-counts, named-put, renamed, used-turned}
use Rattle.kernel.proofs.Watching.{running-at, kernel-waking, any-moved, watched-moved}
use Rattle.kernel.proofs.Asleep.{watched-running, watched-bytes}
use Rattle.files.specs.declared.file.OpenFile.{OpenFile}
use Rattle.files.specs.declared.file.Target.{Target}
use Rattle.files.specs.declared.file.Target.TheVariants as target
use Rattle.unixmodel.specs.OpenFiles as unix
use Rattle.kernel.specs.Opening.{HasClosed, MayClose, closed_at, MayMove}

-- ---- a descriptor of the running process is closed

-- the pipe of a last end goes, and the others remain
close-standing : (k : Kernel) → IsKernel k → (n : ℕ)
    → after_close k.spaces.pipes (opens_of (closed k.files n)) (last_target k.files n)
    ≡ standing k.spaces.pipes (opens_of (closed k.files n))
close-standing k is n = let left =
    leaves-one _ _ _ n (is.opened.piped, pipes-same k.spaces.pipes)
    in sym (pipes-left (opens_of (closed _ n)) _ _ left.0 left.1)

module _ {k : Kernel} {i : ℕ} (x : Runner k i) (fd n : ℕ) (may : MayClose k i fd n) where
  here : slot x.process.descriptors fd ≡ Some n
  here = rw (← descriptors-run x) may.named

  abbrev ds : Fds
  ds = clear x.process.descriptors fd

  same : length ds ≡ length x.process.descriptors
  same = length-set x.process.descriptors fd None

  abbrev closer : Process
  closer = renamed x ds x.process.directory

  abbrev left : Opens
  left = closed k.files n

  abbrev pipes : Pipes
  pipes = standing k.spaces.pipes (opens_of left)

  close-counted : IsCounted left (put k.table.places i closer)
  close-counted m =
      let fewer = count-closed _ n (named-counts x fd n here) m in
      let gone = names-clear m _ fd n (slot-within _ fd n here) here in
      omega (arith, fewer, named-put x closer m, gone, x.sound.opened.counted m)

  -- the node that goes with the open file
  abbrev gone : List ℕ
  gone = listed (last_node k.files n)

  abbrev tree : FileTree
  tree = all_dropped k.tree gone

  close-goes : (places : Processes) → LetsGo k.files places left places gone
  close-goes places = record {
    counts = λ m. omega (arith, files_on-closed k.files n m);
    files = old-all_closed k.files (Some n ∷ []);
    homes = λ j d at. at;
  }

  before : IsInUse k.tree k.files (put k.table.places i closer)
  before = used-turned x closer x.run.runs refl may.up

  pub gone-held : AreHeld k.tree gone
  gone-held = fewer-held before (close-goes _)

  abbrev closed_to : Kernel
  closed_to = renamed_to x ds x.process.directory tree left pipes

  close-is : closed_to ≡ closed_at k i fd n
  close-is = rw (x.run.process, close-standing k x.sound n) refl

  close-kernel : IsKernel closed_to
  close-kernel = renamed-kernel x ds x.process.directory same tree left pipes
      (λ up. fewer-used before (close-goes (put k.table.places i closer)))
      (opened-closed x.sound.opened (Some n ∷ []) (put k.table.places i closer) close-counted
      (all-set (λ j. WaitsWell k.files) k.table.places i (Some closer) (waits-running k.files closer x.run.runs)
      x.sound.opened.waits))
      (let fits = x.sound.fits
      in omega (arith, fits, fewer-standing k.files k.spaces.pipes (Some n ∷ []) x.sound.opened.piped))

  -- what nothing names any more goes
  pub close-reaps : reap (put_process (state_of k) i (record (me_of x) { descriptors = ds }))
      ≡ state_of (closed_at k i fd n)
  close-reaps =
      let middle = record closed_to { tree = k.tree } in
      let old = record (state_of middle) { opens = opens_of k.files; pipes = k.spaces.pipes } in
      let places = (loaded closed_to).places in
      let shown = record middle { files = k.files } in
      let all : IsInUse k.tree k.files places = used-active shown shown.spaces.active before in
      let gives = fewer-nodes all (close-goes places) (state_of middle) closed_to.spaces.places
      (away-loaded closed_to close-kernel) refl refl refl in
      ap reap (sym (renamed-state x ds x.process.directory same k.tree k.files k.spaces.pipes))
      ∙ reap-closed old k.files k.spaces.pipes (Some n ∷ []) tree.files x.sound.opened.table x.sound.opened.piped
      (counts-joined left places closed_to.spaces.places (opened-loaded closed_to close-kernel).counted) gives
      ∙ ap (λ b. record (state_of middle) { files = tree.files; block_limit = b })
      (sym (fewer-leaves all (close-goes places)).limit)
      ∙ ap state_of close-is

pub close-serves : (k : Kernel) (i fd n : ℕ) {t : FileTree} {r : Result (Unit {0}) DeviceFault}
    → Serves k.tree t r (λ done. t ≡ counted (all_dropped k.tree (listed (last_node k.files n))) t.failures)
    → Serves k.tree t r (λ done. HasClosed k
    (record (closed_at k i fd n) { tree = t; table = woken_by Bytes (closed_at k i fd n).table }) i fd n)
close-serves k i fd n = serves-as refl refl
    (λ done told. ap (λ (u : FileTree). record (closed_at k i fd n)
    { tree = u; table = woken_by Bytes (closed_at k i fd n).table }) told)

pub close-keeps : {k : Kernel} {i fd n : ℕ} → Keeps k → (may : MayClose k i fd n)
    → (t : FileTree) (r : Result (Unit {0}) DeviceFault)
    → Serves k.tree t r (λ done. t ≡ counted (all_dropped k.tree (listed (last_node k.files n))) t.failures)
    → Keeps (record (closed_at k i fd n) { tree = t; table = woken_by Bytes (closed_at k i fd n).table })
close-keeps {k} {i} {fd} {n} keeps may t r serves = record {
  sound = kernel-waking (told-kernel {k = closed_at k i fd n}
      (let x = runner-of keeps.sound may.running in rw (← close-is x fd n may) (close-kernel x fd n may)) t r
      serves.told serves.down) _;
  watched = watched-bytes (watched-running keeps.watched i (with_descriptor fd None)
      (running-at keeps.sound i may.running) (λ p pid is. is)) _ refl;
}

-- ---- what holds of open files and of who holds nodes, where an open file goes on from another offset

-- what stays of what it is on
moved-alike : (offset : ℕ) (t : Target)
    → (is_on_pipe (moved_to offset t) ≡ is_on_pipe t) × (is_awaited (moved_to offset t) ≡ is_awaited t)
    × (node_on (moved_to offset t) ≡ node_on t)
    × ((q : ℕ) → is_pipe q (target_of (moved_to offset t)) ≡ is_pipe q (target_of t))
moved-alike offset (target.File number old) = (refl, refl, refl, λ q. refl)
moved-alike offset _ = (refl, refl, refl, λ q. refl)

moved-open : (offset : ℕ) (f : OpenFile) → IsOpenFile (file_of f) → (t : Target) → f.target ≡ t
    → IsOpenFile (file_of (record f { target = moved_to offset t }))
moved-open offset f is (target.File number old) on = tt
moved-open offset f is _ on = subst (λ (t : Target). IsOpenFile (file_of (record f { target = t }))) on is

-- the open file of a slot, if it has one, is one that may be
abbrev Means : Option Counted → Type 0
Means o = (f : unix.OpenFile) → option_map file_of (option_map (λ (c : Counted). c.file) o) ≡ Some f → IsOpenFile f

-- the open files
module _ (files : Opens) (n offset : ℕ) where
  file-was : (m : ℕ) (f : OpenFile) → file_at (moved files n offset) m ≡ Some f → WasAlike files m f
  file-was = all-set (λ m o. (f : OpenFile) → option_map (λ (c : Counted). c.file) o ≡ Some f → WasAlike files m f)
      files n _ (go _ refl) (λ m f at. (f, (at, alike-same f))) where
        go : (o : Option Counted) → slot files n ≡ o → (f : OpenFile)
            → option_map (λ (c : Counted). c.file) (option_map (moved_in offset) o) ≡ Some f → WasAlike files n f
        go None there f at = absurd (none-some f at)
        go (Some c) there f at =
            let alike = moved-alike offset c.file.target in (
              c.file,
              (
                ap (option_map (λ (x : Counted). x.file)) there,
                subst (IsAlike c.file) (same_Some _ f at) (record { pipe = alike.0; awaited = alike.1 }),
              ),
            )

  pub opened-moved : (pipes : Pipes) (os : Processes) → IsOpened files pipes os
      → IsOpened (moved files n offset) pipes os
  opened-moved _ os is = record {
    table = table-moved files n offset is.table;
    counted = λ m. count-moved files n offset m ∙ is.counted m;
    each = λ m f at. all-set (λ j. Means) files n _ (go _ (was n)) was m f (sym (file-opens _ m) ∙ at);
    all = is.all;
    piped = λ q. is.piped q ∙ sym (any-moved (is_pipe q) (λ o t. (moved-alike o t).3 q) offset files n);
    waits = λ i. waits-kept files _ _ (λ d m f named at. file-was m f at) (is.waits i);
  } where
    was : (m : ℕ) → Means (slot files m)
    was m f at = is.each m f (file-opens files m ∙ at)

    go : (o : Option Counted) → Means o → Means (option_map (moved_in offset) o)
    go None was f at = absurd (none-some f at)
    go (Some c) was f at = subst IsOpenFile (same_Some _ f at) (moved-open offset _ (was _ refl) _ refl)

-- its node
fits-further : (f : OpenFile) (number old offset : ℕ) (o : Option Node) → offset ≤ longest
    → FitsNode f (target.File number old) o
    → FitsNode (record f { target = target.File number offset }) (target.File number offset) o
fits-further f number old offset (Some (File links bytes)) low is = low
fits-further f number old offset (Some (Directory links places)) low is = (low, is.1)
fits-further f number old offset _ low is = absurd is

pub used-moved : {t : FileTree} {opens : Opens} {os : Processes} → IsInUse t opens os
    → (n offset number old : ℕ) (f : OpenFile) → file_at opens n ≡ Some f → f.target ≡ target.File number old
    → offset ≤ longest → IsInUse t (moved opens n offset) os
used-moved {t} {opens} {os} is n offset number old f at on low =
    used-files is (moved opens n offset)
    (λ m. same-set (λ o. one_in m (node_in o)) opens n _
    (ap (one_in m) (map-same node_in (moved_in offset) (λ c. (moved-alike offset c.file.target).2) (slot opens n))))
    (all-set (λ m. FitsIn t) opens n _ (go _ refl at) is.fits) where
      go : (o : Option Counted) → slot opens n ≡ o → option_map (λ (x : Counted). x.file) o ≡ Some f
          → FitsIn t (option_map (moved_in offset) o)
      go None there was c now = absurd (none-some c now)
      go (Some d) there was c at =
          let file : d.file.target ≡ target.File number old = ap (λ (g : OpenFile). g.target) (same_Some _ f was)
          ∙ on in
          fits-some t (moved_in offset d)
          (subst (λ (x : Target). FitsNode (record d.file { target = moved_to offset x }) (moved_to offset x)
          (node_of t.files (node_on (moved_to offset x)))) (sym file)
          (fits-further d.file number old _ _ low
          (subst (λ (x : Target). FitsNode d.file x (node_of t.files (node_on x))) file (is.fits n d there)))) c at

-- ---- the step

target-at : (o : Option OpenFile) (t : Target) → option_map (λ (f : OpenFile). f.target) o ≡ Some t
    → (f : OpenFile) × ((o ≡ Some f) × (f.target ≡ t))
target-at None t at = absurd (none-some t at)
target-at (Some f) t at = (f, (refl, same_Some _ t at))

pub advance-keeps : {k : Kernel} → Keeps k → (n offset : ℕ) → MayMove k n offset → Keeps (advanced k n offset)
advance-keeps {k} keeps n offset may =
    let is = keeps.sound in
    let f = target-at _ _ may.on in
    record {
      sound = record {
        all = is.all;
        spaces = is.spaces;
        stands = is.stands;
        runs = is.runs;
        fits = is.fits;
        opened = opened-moved _ n offset _ _ is.opened;
        used =
            λ up. used-moved (is.used up) n offset may.number may.old f.0 f.1.0 f.1.1 may.within;
      };
      watched = watched-moved _ _ _ _ _ n offset keeps.watched;
    }
