-- Which process runs, the end of a process, and one that is marked.
use Rattle.kernel.proofs.Common.{◌≡◌, ◌≢◌, ℕ, zero, suc, ◌+◌, ◌<◌, ◌%◌, is_zombie_mode, not, true, false, nat_eq, List}
use Rattle.kernel.proofs.Common.{[], ◌∷◌, ◌++◌, length, map, Option, Some, None, ℤ, refl, ap, sym, ◌∙◌, arith}
use Rattle.kernel.proofs.Common.{option_map, no_pages, unwrap_or, with_space, slice_index, slice_set, ne_eqb, nat_tests}
use Rattle.kernel.proofs.Common.{get_or-set_other, length-map, length-set, option_eq, all_closed, standing, AreHeld}
use Rattle.kernel.proofs.Common.{all_dropped, files_on, gone_nodes, home_in, homes_at, all-set, Kernel, base, ended}
use Rattle.kernel.proofs.Common.{halted_by, idle, lives, loaded, on_hart, rest_of, state_of, IsKernel, IsMode, IsPlace}
use Rattle.kernel.proofs.Common.{IsPlaced, WaitsWell, is_at, one_in, Counts, one_at, sum_by-cons, sum_by-set, none-some}
use Rattle.kernel.proofs.Common.{opens_of, Process, changed_at, exited, orphaned, zombie_of, with_table, SpaceView}
use Rattle.kernel.proofs.Common.{Spaces, Mode, Ready, Running, Waiting, Zombie, put, slot, Memory, end_process, reap}
use Rattle.kernel.proofs.Common.{holds, descriptors_in, marked, with_mark, is_running_mode}
use Rattle.kernel.proofs.Releasing.{LetsGo, AreOldHomes, all-failed, fewer-held, fewer-leaves, fewer-nodes, fewer-used}
use Rattle.kernel.proofs.Releasing.{named_in}
use Rattle.kernel.proofs.Holding.{orphan-by, same-map, slot-map, map-same, used-put, Opens, Processes}
use Rattle.kernel.proofs.Leaving.{opened-closed, fewer-standing, counts-joined, files_on-all_closed, named_in-append}
use Rattle.kernel.proofs.Leaving.{reap-closed}
use Rattle.kernel.proofs.Named.{counted-ended, old-all_closed, orphan-same}
use Rattle.kernel.proofs.Joined.{active-by, active-same, opened-put, with_zombie-with_table}
use Rattle.kernel.proofs.Reaping.{are-away, opened-loaded, used-loaded}
use Rattle.kernel.proofs.Runs.{IsRun, home-living, loaded-run, runs-set, set-slot, slot-put, slot-within, with_process}
use Rattle.kernel.proofs.Runs.{within-run, IsThere}
use Rattle.proc.specs.Places as table
use Rattle.unixmodel.specs.Outcome as ends

-- ---- slots

-- the mode's conditions do not depend on the parent, the registers or the pc
pub mode-kept : (p : Process) (parent : ℕ) (registers : List ℕ) (pc : ℕ) (m : Memory) (now mode : Mode)
    → IsMode p m mode → IsMode (record p { parent = parent; registers = registers; pc = pc; mode = now }) m mode
mode-kept p parent registers pc m now Running is = (record { descriptors = is.0.descriptors }, is.1)
mode-kept p parent registers pc m now Ready is = record { descriptors = is.descriptors }
mode-kept p parent registers pc m now (Waiting w) is = (record { descriptors = is.0.descriptors }, is.1)
mode-kept p parent registers pc m now (Zombie status) is =
    record { descriptors = is.descriptors; directory = is.directory }

-- the running process fits its slot with the hart's registers too
hart-placed : (s : Spaces) → slice_index s.registers 0 ≡ 0 → s.pc % 4 ≡ 0 → (o : Option Process) (q : Option SpaceView)
    → IsPlace o q → IsPlace (option_map (on_hart s) o) q
hart-placed s zero' aligned (Some p) (Some h) is =
    record { zero = zero'; aligned = aligned; mode = mode-kept p p.parent _ s.pc _ p.mode _ is.mode }
hart-placed s zero' aligned _ _ is = is

pub loaded-placed : (k : Kernel) → IsKernel k → slice_index k.spaces.registers 0 ≡ 0 → k.spaces.pc % 4 ≡ 0 → (j : ℕ)
    → IsPlace (slot (loaded k).places j) (slot k.spaces.places j)
loaded-placed k is z a =
    active-by (λ j o. IsPlace o (slot k.spaces.places j)) k (λ j o. hart-placed k.spaces z a o _) _ is.stands

pub running-active : (k : Kernel) (o : Option ℕ) (j : ℕ)
    → holds table.is_running (slot (changed_at k.table (on_hart k.spaces) o).places j)
    ≡ holds table.is_running (slot k.table.places j)
running-active k = active-same (holds table.is_running) k (λ p. refl)

pub length-active : (k : Kernel) (o : Option ℕ)
    → length (changed_at k.table (on_hart k.spaces) o).places ≡ length k.table.places
length-active k None = refl
length-active k (Some i) = length-set k.table.places i (option_map (on_hart k.spaces) (slot k.table.places i))

-- the process that runs has what the hart holds
pub slot-active : (k : Kernel) (at : ℕ)
    → k.spaces.active ≡ Some at → option_map (on_hart k.spaces) (slot k.table.places at) ≡ slot (loaded k).places at
slot-active k at active =
    sym (ap (λ (o : Option ℕ). slot (changed_at k.table (on_hart k.spaces) o).places at) active ∙ go _ at) where
      go : (os : Processes) (i : ℕ)
          → slot (slice_set os i (option_map (on_hart k.spaces) (slot os i))) i
          ≡ option_map (on_hart k.spaces) (slot os i)
      go [] i = refl
      go (o ∷ os) zero = refl
      go (o ∷ os) (suc i) = go os i

pub is-active : (o : Option ℕ) (at : ℕ) → option_eq nat_eq o (Some at) ≡ true → o ≡ Some at
is-active None at h = absurd (let bad : false ≡ true = h in cc)
is-active (Some i) at h = let same : i ≡ at = grind (arith, nat_tests, h) in ap (λ j. Some j) same

-- a process that doesn't run is that of the table
pub slot-idle : (k : Kernel) (at : ℕ) (o : Option ℕ) → option_eq nat_eq o (Some at) ≡ false
    → slot (changed_at k.table (on_hart k.spaces) o).places at ≡ slot k.table.places at
slot-idle k at None other = refl
slot-idle k at (Some i) other =
    get_or-set_other k.table.places i
    at (option_map (on_hart k.spaces) (slot k.table.places i)) None (grind (arith, nat_tests, other))

pub other-at : (i j : ℕ) → j ≢ i → nat_eq i j ≡ false
other-at i j other = ne_eqb i j (λ e. other (sym e))

-- ---- the end of a process

orphan-placed : (pid : ℕ) (o : Option Process) (q : Option SpaceView) → IsPlace o q
    → IsPlace (option_map (orphaned pid) o) q
orphan-placed pid (Some p) (Some h) is =
    orphan-by (λ x. IsPlaced x h) pid p
    (λ parent. record { zero = is.zero; aligned = is.aligned; mode = mode-kept p parent _ p.pc _ p.mode _ is.mode })
orphan-placed pid _ _ is = is

orphan-waits : (opens : Opens) (pid : ℕ) (o : Option Process) → WaitsWell opens o
    → WaitsWell opens (option_map (orphaned pid) o)
orphan-waits opens pid None is = tt
orphan-waits opens pid (Some p) is = orphan-by (λ x. WaitsWell opens (Some x)) pid p (λ parent. is)

-- the loaded table has process q, which lives, in slot i, and no other process runs; it differs from the old one by the
-- hart's registers and pc alone
pub record IsLast (k : Kernel) (i : ℕ) (q : Process) (h : SpaceView) : Type 0 where
  pub was : Process
  pub process : slot k.table.places i ≡ Some was
  pub same : q ≡ record was { registers = q.registers; pc = q.pc }
  pub put : loaded k ≡ with_process k.table i q
  pub there : slot (loaded k).places i ≡ Some q
  pub space : slot k.spaces.places i ≡ Some h
  pub alone : (j : ℕ) → j ≢ i → is_at j k.spaces.active ≡ false
  pub alive : lives q ≡ true

-- process i runs
pub last-run : (k : Kernel) (i : ℕ) (p : Process) (h : SpaceView) → IsRun k i p h → IsLast k i (on_hart k.spaces p) h
last-run k i p h r = record {
  was = p;
  process = r.process;
  same = refl;
  put = loaded-run k i p h r;
  there = ap (λ t. slot t.places i) (loaded-run k i p h r) ∙ slot-put _ i _ (within-run k i p h r);
  space = r.space;
  alone = λ j other. ap (is_at j) r.active ∙ other-at i j other;
  alive = ap (λ (m : Mode). not (is_zombie_mode m)) r.runs;
}

-- none runs
pub last-idle : (k : Kernel) (i : ℕ) (p : Process) (h : SpaceView) → k.spaces.active ≡ None → IsThere k i p h
    → lives p ≡ true → IsLast k i p h
last-idle k i p h idle t alive = record {
  was = p;
  process = t.process;
  same = refl;
  put = rw idle (ap (λ places. record k.table { places = places }) (sym (set-slot _ i _ t.process)));
  there = rw idle t.process;
  space = t.space;
  alone = λ j other. ap (is_at j) idle;
  alive = alive;
}

-- process q of slot i has ended
abbrev pub ended_of : Kernel → ℕ → ℤ → Process → Kernel
ended_of k i status q = record k {
  tree = all_dropped k.tree (gone_nodes k.files q.descriptors ++ q.directory ∷ []);
  table = exited (loaded k) i status;
  spaces = record (idle k.spaces) { pipes = standing k.spaces.pipes (opens_of (all_closed k.files q.descriptors)) };
  files = all_closed k.files q.descriptors;
  halted = halted_by (Some q) status k.halted;
}

pub ended-made : (k : Kernel) (i : ℕ) (q : Process) (h : SpaceView) (l : IsLast k i q h) (status : ℤ)
    → ended_of k i status q ≡ ended k i status
ended-made k i q h l status = ap (ended_of k i status) l.same ∙ rw l.process refl

module _ (k : Kernel) (is : IsKernel k) (z : slice_index k.spaces.registers 0 ≡ 0) (a : k.spaces.pc % 4 ≡ 0) (i : ℕ)
    (q : Process) (h : SpaceView) (l : IsLast k i q h) (status : ℤ) where
  abbrev orphans : Processes
  orphans = map (option_map (orphaned q.pid)) (loaded k).places

  abbrev gone : Process
  gone = zombie_of q status

  abbrev pub left : Opens
  left = all_closed k.files q.descriptors

  -- the nodes that it lets go
  abbrev pub nodes : List ℕ
  nodes = gone_nodes k.files q.descriptors ++ q.directory ∷ []

  abbrev pub ended_to : Kernel
  ended_to = record (ended_of k i status q) { table = record (loaded k) { places = put orphans i gone } }

  pub ended-is : ended k i status ≡ ended_to
  ended-is =
      sym (ended-made k i q h l status)
      ∙ ap (λ (o : Option Process). record ended_to { table = table.ended (loaded k) i status o }) l.there

  short : i < length orphans
  short = rw (length-map (loaded k).places (option_map (orphaned q.pid))) (slot-within _ i q l.there)

  placed-q : IsPlace (Some q) (Some h)
  placed-q = rw (l.there, l.space) at (loaded-placed k is z a i)

  orphan-home : (o : Option Process) → home_in (option_map (orphaned q.pid) o) ≡ home_in o
  orphan-home = orphan-same _ q.pid (λ p parent. refl)

  nodes-counted : (m : ℕ) → files_on left m + homes_at (put orphans i gone) m + named_in nodes m
      ≡ files_on k.files m + homes_at (loaded k).places m
  nodes-counted m =
      let sums = sum_by-set (λ o. one_in m (home_in o)) _ i (Some gone) None short in
      let was : one_in m (home_in (slot orphans i)) ≡ one_in m (Some q.directory) =
      ap (one_in m) (ap home_in (slot-map (orphaned q.pid) _ i) ∙ orphan-home _ ∙ ap home_in l.there
      ∙ home-living q l.alive) in
      let last : named_in (q.directory ∷ []) m ≡ one_in m (Some q.directory) = sum_by-cons (one_at m) _ []
      ∙ omega arith in
      omega (
        arith,
        files_on-all_closed k.files q.descriptors m,
        named_in-append (gone_nodes k.files q.descriptors) (q.directory ∷ []) m,
        sums,
        was,
        last,
        same-map (λ o. one_in m (home_in o)) (orphaned q.pid) (λ o. ap (one_in m) (orphan-home o)) (loaded k).places,
      )

  old-homes : AreOldHomes (loaded k).places (put orphans i gone)
  old-homes = all-set (λ j o. (d : ℕ) → home_in o ≡ Some d → home_in (slot (loaded k).places j) ≡ Some d) _ i _
      (λ d at. absurd (none-some d at))
      (λ j. rw (slot-map (orphaned q.pid) (loaded k).places j)
      (λ d at. sym (orphan-home (slot (loaded k).places j)) ∙ at))

  lets-go : LetsGo k.files (loaded k).places left (put orphans i gone) nodes
  lets-go = record { counts = nodes-counted; files = old-all_closed k.files q.descriptors; homes = old-homes }

  -- those that let go held the nodes
  pub ended-held : k.tree.failed ≡ false → AreHeld k.tree nodes
  ended-held up = fewer-held (used-loaded k is up) lets-go

  pub ended-kernel : IsKernel ended_to
  ended-kernel = record {
    all = length-set orphans i (Some gone) ∙ length-map (loaded k).places (option_map (orphaned q.pid))
        ∙ length-active k k.spaces.active ∙ is.all;
    spaces = is.spaces;
    stands = all-set (λ j x. IsPlace x (slot k.spaces.places j)) orphans i (Some gone)
        (rw l.space (record {
          zero = placed-q.zero;
          aligned = placed-q.aligned;
          mode = record { descriptors = refl; directory = refl };
        }))
        (λ j. rw (slot-map (orphaned q.pid) (loaded k).places j)
        (orphan-placed q.pid (slot (loaded k).places j) (slot k.spaces.places j) (loaded-placed k is z a j)));
    runs = runs-set orphans i (Some gone) k.spaces.active None short refl (λ j other. sym (l.alone j other))
        (λ j. rw (slot-map (orphaned q.pid) (loaded k).places j)
        (orphan-same (holds table.is_running) q.pid (λ p parent. refl) (slot (loaded k).places j)
        ∙ running-active k k.spaces.active j ∙ is.runs j));
    used = λ up. fewer-used (used-loaded k is (sym (all-failed k.tree nodes) ∙ up)) lets-go;
    fits = omega (arith, is.fits, fewer-standing k.files k.spaces.pipes q.descriptors is.opened.piped);
    opened = let was = opened-loaded k is
        in opened-closed was q.descriptors (put orphans i gone)
        (counted-ended k.files (loaded k).places i q status was.counted l.there)
        (all-set (λ j. WaitsWell k.files) orphans i (Some gone) tt
        (λ j. rw (slot-map (orphaned q.pid) (loaded k).places j)
        (orphan-waits k.files q.pid (slot (loaded k).places j) (was.waits j))));
  }

  pub ended-state : k.tree.failed ≡ false → end_process (state_of k) i (with_space h q) status ≡ state_of ended_to
  unfolding end_process
  ended-state up =
      let rest = base (rest_of k) in
      let middle = record ended_to { tree = k.tree } in
      let old = record (state_of middle) { opens = opens_of k.files; pipes = k.spaces.pipes } in
      let counts : Counts left old.places =
      counts-joined left ended_to.table.places k.spaces.places ended-kernel.opened.counted in
      let used = used-loaded k is up in
      let gives = fewer-nodes used lets-go (state_of middle) k.spaces.places
      (are-away (put orphans i gone) k.spaces.places ended-kernel.stands) refl refl refl in
      ap (λ (o : Option SpaceView). reap
      (ends.with_zombie (with_table rest (loaded k) k.spaces.places) i (with_space (unwrap_or o no_pages) q)
      status)) (sym l.space)
      ∙ ap reap (with_zombie-with_table rest (loaded k) k.spaces.places i q status)
      ∙ reap-closed old k.files k.spaces.pipes q.descriptors ended_to.tree.files is.opened.table is.opened.piped counts
      gives
      ∙ ap (λ b. record (state_of middle) { files = ended_to.tree.files; block_limit = b })
      (sym (fewer-leaves used lets-go).limit)

-- ---- a process that doesn't run is marked

mark-mode : (p : Process) (m : Memory) (mode : Mode) → is_running_mode mode ≡ false → IsMode p m mode
    → IsMode (with_mark p) m mode
mark-mode p m Running rests is = absurd (cc)
mark-mode p m Ready rests is = record { descriptors = is.descriptors }
mark-mode p m (Waiting w) rests is = (record { descriptors = is.0.descriptors }, is.1)
mark-mode p m (Zombie status) rests is = record { descriptors = is.descriptors; directory = is.directory }

mark-place : (o : Option Process) (q : Option SpaceView) → holds table.is_running o ≡ false → IsPlace o q
    → IsPlace (option_map with_mark o) q
mark-place (Some p) (Some h) rests is =
    record { zero = is.zero; aligned = is.aligned; mode = mark-mode p _ _ rests is.mode }
mark-place _ _ rests is = is

mark-waits : (opens : Opens) (o : Option Process) → WaitsWell opens o → WaitsWell opens (option_map with_mark o)
mark-waits opens None is = tt
mark-waits opens (Some p) is = is

rests-at : (o : Option ℕ) (j : ℕ) → o ≢ Some j → is_at j o ≡ false
rests-at None j other = refl
rests-at (Some i) j other = other-at i j (λ same. other (ap Some (sym same)))

-- k is what the fields show, now is the kernel's value
pub marks-keeps : {k now : Kernel} (j : ℕ) → k ≡ now → IsKernel k → now.spaces.active ≢ Some j → IsKernel (marked k j)
marks-keeps {k} {now} j same is other =
    let o = slot k.table.places j in
    let rests : is_at j k.spaces.active ≡ false = rw same (rests-at _ j other) in
    record {
      all = length-set k.table.places j (option_map with_mark o) ∙ is.all;
      spaces = is.spaces;
      stands = all-set (λ j x. IsPlace x (slot k.spaces.places j)) _ j _
          (mark-place o _ (is.runs j ∙ rests) (is.stands j)) is.stands;
      runs = all-set (λ n x. holds table.is_running x ≡ is_at n k.spaces.active) _ j _
          (map-same (holds table.is_running) with_mark (λ p. refl) o ∙ is.runs j) is.runs;
      used = λ up. used-put (is.used up) j (option_map with_mark o) (map-same home_in with_mark (λ p. refl) o);
      fits = is.fits;
      opened = opened-put _ _ _ j _ (map-same descriptors_in with_mark (λ p. refl) o)
          (mark-waits _ o (is.opened.waits j)) is.opened;
    }
