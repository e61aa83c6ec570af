-- The running process works in another directory, or takes a zombie child.
use Rattle.kernel.proofs.Common.{◌≡◌, ◌≢◌, ℕ, zero, suc, ◌+◌, ◌<◌, ◌++◌, ◌∷◌, [], length, Option, Some, None, refl, ap}
use Rattle.kernel.proofs.Common.{arith, subst, sym, ◌∙◌, Result, slice_set, sum_by-cons, sum_by-set, none-some}
use Rattle.kernel.proofs.Common.{DeviceFault, SpaceView, FileTree, Serves, Kernel, loaded, state_of, on_hart, IsKernel}
use Rattle.kernel.proofs.Common.{Keeps, IsInUse, IsFolder, AreHeld, dropped, all_dropped, listed, descriptors_in}
use Rattle.kernel.proofs.Common.{home_in, homes_at, one_in, one_at, with_hold, Node, opens_of, without_opens-same}
use Rattle.kernel.proofs.Common.{Process, put, slot, slot-within, State, put_process, without_pipes-same, sum_by-append}
use Rattle.kernel.proofs.Common.{MayWorkIn, WorksIn, home_at, working_in, with_directory, joined, IsWhole, reap}
use Rattle.kernel.proofs.Common.{without_nodes, without_pipes, all-set, set-set, length-set, clear, if◌then◌else◌}
use Rattle.kernel.proofs.Common.{true≢false, option_map, names-none, is_zombie_child_of, with_table, is_running_mode}
use Rattle.kernel.proofs.Common.{is_zombie_mode, reaped_from, zombie_place, taken-placed, no_descriptors, true}
use Rattle.kernel.proofs.Common.{and_parts, rest_of, IsPlace, IsWatched, names_in, has_space, Running, collected}
use Rattle.kernel.proofs.Common.{IsEnded, reaped_at, without, set_comm, status_of, eq-eqb, false, base, IsMode, is_at}
use Rattle.kernel.proofs.Common.{names, Places, Memory, Mode, Zombie, holds}
use Rattle.kernel.proofs.Ending.{told-kernel, counted}
use Rattle.kernel.proofs.Steps.{serves-as}
use Rattle.kernel.proofs.Releasing.{LetsGo, AreOldHomes, fewer-held, fewer-nodes, fewer-used, named_in}
use Rattle.kernel.proofs.Holding.{IsHome, AreAway, used-more, used-put, Opens, Processes, Views}
use Rattle.kernel.proofs.Leaving.{counts-joined}
use Rattle.kernel.proofs.Joined.{put-joined, opened-put, waits-running, opened-names, place_where-Some}
use Rattle.kernel.proofs.Reaping.{away-loaded, opened-loaded}
use Rattle.kernel.proofs.Runs.{home-running, loaded-run, IsRun, place-space, runs-set, slot-other, stands-set}
use Rattle.kernel.proofs.Runs.{state-run, with_process}
use Rattle.kernel.proofs.Turning.{Runner, me_of, renamed-kernel, renamed-run, renamed-state, renamed_to, runner-of}
use Rattle.kernel.proofs.Watching.{running-at}
use Rattle.kernel.proofs.Asleep.{watched-running, watched-put}
use Rattle.proc.specs.declared.table.Reaped.{Reaped}
use Rattle.proc.specs.Places as table

-- ---- who holds what

-- one more slot at the end
homes-more : (os : Processes) (o : Option Process) (n : ℕ)
    → homes_at (os ++ o ∷ []) n ≡ homes_at os n + one_in n (home_in o)
homes-more os o n = omega
    (arith, sum_by-append (λ x. one_in n (home_in x)) os (o ∷ []), sum_by-cons (λ x. one_in n (home_in x)) o [])

homes-append : (t : FileTree) (os : Processes) (o : Option Process) → IsHome t (home_in o)
    → ((j : ℕ) → IsHome t (home_in (slot os j))) → (j : ℕ) → IsHome t (home_in (slot (os ++ o ∷ []) j))
homes-append t [] o here is zero = here
homes-append t [] o here is (suc j) = tt
homes-append t (x ∷ os) o here is zero = is 0
homes-append t (x ∷ os) o here is (suc j) = homes-append t os o here (λ m. is (suc m)) j

homes-front : (os : Processes) (o : Option Process) → AreOldHomes (os ++ o ∷ []) os
homes-front [] o j d at = absurd (none-some d at)
homes-front (x ∷ os) o zero d at = at
homes-front (x ∷ os) o (suc j) d at = homes-front os o j d at

-- process p, in place i, works in directory new now, and is q
module _ {t : FileTree} {opens : Opens} {os : Processes} (is : IsInUse t opens os) (i : ℕ) (p q : Process) (old new : ℕ)
    (at : slot os i ≡ Some p) (home : home_in (Some p) ≡ Some old) (goes : home_in (Some q) ≡ Some new)
    (short : new < length t.holds) (folder : IsFolder (slot t.files new)) where
  abbrev held : FileTree
  held = record t { holds = with_hold t.holds new }

  abbrev moves : Processes
  moves = slice_set os i (Some q)

  -- the directory that it leaves is held as yet, as by one process more
  between : IsInUse held opens (moves ++ Some p ∷ [])
  between =
      used-more is new short opens (moves ++ Some p ∷ [])
      (λ n.
      let sums = sum_by-set (λ o. one_in n (home_in o)) os i (Some q) None (slot-within os i p at) in
      let was : one_in n (home_in (slot os i)) ≡ one_in n (home_in (Some p)) = ap (λ o. one_in n (home_in o)) at in
      let now : one_in n (home_in (Some q)) ≡ one_in n (Some new) = ap (one_in n) goes in
      omega (arith, sums, was, now, homes-more moves (Some p) n))
      is.fits
      (homes-append t moves _ (subst (IsHome t) (ap home_in at) (is.homes i))
      (all-set (λ j x. IsHome t (home_in x)) os i _ (subst (IsHome t) (sym goes) folder) is.homes))

  -- what it leaves may go then
  leaves-home : LetsGo opens (moves ++ Some p ∷ []) opens moves (old ∷ [])
  leaves-home = record {
    counts = λ m.
        let last : one_in m (home_in (Some p)) ≡ one_in m (Some old) = ap (one_in m) home in
        let named : named_in (old ∷ []) m ≡ one_in m (Some old) = omega (arith, sum_by-cons (one_at m) old []) in
        omega (arith, last, named, homes-more moves (Some p) m);
    files = λ k c there. (c, (there, refl));
    homes = homes-front moves (Some p);
  }

  leaves-held : AreHeld held (old ∷ [])
  leaves-held = fewer-held between leaves-home

  leaves-used : IsInUse (dropped held old) opens moves
  leaves-used = fewer-used between leaves-home

  -- the abstract Unix gives up the same node
  leaves-nodes : (s : State) (hs : Views) → AreAway moves → s.files ≡ t.files → s.opens ≡ opens_of opens
      → s.places ≡ joined moves hs → without_nodes s ≡ record s { files = (dropped held old).files }
  leaves-nodes = fewer-nodes between leaves-home

-- ---- it works in directory n

pub folder-there : {o : Option Node} → IsFolder o → o ≢ None
folder-there is none = subst IsFolder none is

module _ {k : Kernel} {i : ℕ} (x : Runner k i) (n : ℕ) (may : MayWorkIn k i n) (whole : IsWhole k.tree) where
  abbrev q : Process
  q = record x.process { directory = n }

  pub work-fits : (n < length k.tree.holds) × (n < 8192)
  work-fits = whole.numbers n (folder-there may.folder)

  home-was : home_in (Some x.process) ≡ Some x.process.directory
  home-was = home-running x.process x.run.runs

  now : home_in (Some q) ≡ Some n
  now = home-running q x.run.runs

  abbrev holding : FileTree
  holding = record k.tree { holds = with_hold k.tree.holds n }

  pub work-held : AreHeld holding (listed (home_at k i))
  work-held = rw x.run.process
      (leaves-held (x.sound.used may.up) i _ q _ n x.run.process home-was now work-fits.0 may.folder)

  abbrev to : Kernel
  to = renamed_to x x.process.descriptors n (dropped holding x.process.directory) k.files k.spaces.pipes

  work-is : to ≡ working_in k i n
  work-is = rw x.run.process refl

  to-kernel : IsKernel to
  to-kernel = renamed-kernel x _ n refl _ _ _
      (λ up. leaves-used (x.sound.used may.up) i _ q _ n x.run.process home-was now work-fits.0 may.folder)
      (opened-put _ _ _ i _ (sym (ap descriptors_in x.run.process)) (waits-running k.files q x.run.runs) x.sound.opened)
      x.sound.fits

  -- the directory that it leaves goes, if nothing holds it any more
  pub work-reaps : reap (put_process (state_of k) i (record (me_of x) { directory = n })) ≡ state_of (working_in k i n)
  unfolding reap
  work-reaps =
      let s = state_of (record to { tree = k.tree }) in
      let opened = opened-loaded to to-kernel in
      let q' = on_hart to.spaces q in
      let shown : (loaded to).places ≡ put k.table.places i q' =
      ap (λ t. t.places) (loaded-run to i q _ (renamed-run x _ n refl (dropped _ _) k.files k.spaces.pipes))
      ∙ set-set k.table.places i (Some q) (Some q') in
      let nodes = leaves-nodes (x.sound.used may.up) i _ q' _ n x.run.process home-was (home-running q' x.run.runs)
      work-fits.0 may.folder s _ (subst AreAway shown (away-loaded to to-kernel)) refl refl
      (ap (λ os. joined os to.spaces.places) shown) in
      ap reap (sym (renamed-state x _ n refl k.tree k.files _))
      ∙ ap (λ (y : State). without_nodes (without_pipes y))
      (without_opens-same s _ opened.table (counts-joined _ _ _ opened.counted))
      ∙ ap without_nodes (without_pipes-same s opened.piped) ∙ nodes ∙ ap state_of work-is

pub work-keeps : {k : Kernel} {i n : ℕ} → Keeps k → MayWorkIn k i n → IsWhole k.tree
    → (t : FileTree) (r : Result (Unit {0}) DeviceFault)
    → Serves (record k.tree { holds = with_hold k.tree.holds n }) t r
    (λ done. t ≡ counted (all_dropped (record k.tree { holds = with_hold k.tree.holds n }) (listed (home_at k i)))
    t.failures)
    → Keeps (record (working_in k i n) { tree = t })
work-keeps {k} {i} {n} keeps may whole t r serves = record {
  sound = told-kernel {k = working_in k i n}
      (let x = runner-of keeps.sound may.running in rw (← work-is x n may whole) (to-kernel x n may whole)) t r
      serves.told serves.down;
  watched = watched-running keeps.watched i (with_directory n) (running-at keeps.sound i may.running) (λ p pid is. is);
}

pub work-serves : (k : Kernel) (i n : ℕ) {t : FileTree} {r : Result (Unit {0}) DeviceFault}
    → Serves (record k.tree { holds = with_hold k.tree.holds n }) t r
    (λ done. t ≡ counted (all_dropped (record k.tree { holds = with_hold k.tree.holds n }) (listed (home_at k i)))
    t.failures) → Serves k.tree t r (λ done. WorksIn k (record (working_in k i n) { tree = t }) i n)
work-serves k i n = serves-as refl refl
    (λ done told. ap (λ (u : FileTree). record (working_in k i n) { tree = u }) told)

-- ---- a zombie child is collected

-- ---- a slot is cleared

ended-mode : (p : Process) (memory : Memory) (mode : Mode) → is_zombie_mode mode ≡ true → IsMode p memory mode
    → IsEnded p
ended-mode p memory (Zombie status) zombie is = is
ended-mode p memory _ zombie is = absurd (cc)

ended-place : (p : Process) (q : Option SpaceView) → is_zombie_mode p.mode ≡ true → IsPlace (Some p) q
    → p.descriptors ≡ no_descriptors
ended-place p None zombie is = absurd is
ended-place p (Some h) zombie is = (ended-mode p _ _ zombie is.mode).descriptors

zombie-rests : (mode : Mode) → is_zombie_mode mode ≡ true → is_running_mode mode ≡ false
zombie-rests Running zombie = absurd (cc)
zombie-rests _ zombie = refl

-- the process in slot j has ended
pub record IsZombie (k : Kernel) (j : ℕ) (child : Process) : Type 0 where
  pub at : slot k.table.places j ≡ Some child
  pub ended : is_zombie_mode child.mode ≡ true

module _ {k : Kernel} (is : IsKernel k) (j : ℕ) (child : Process) (z : IsZombie k j child) where
  rests : is_at j k.spaces.active ≡ false
  rests = sym (is.runs j) ∙ ap (holds table.is_running) z.at ∙ zombie-rests _ z.ended

  pub zombie-idle : k.spaces.active ≢ Some j
  zombie-idle at = absurd (true≢false (sym (eq-eqb j j refl) ∙ ap (is_at j) (sym at) ∙ rests))

  pub zombie-stands : has_space k.spaces j ≡ true
  zombie-stands = place-space _ _ child z.at (is.stands j)

  in-table : j < length k.table.places
  in-table = slot-within _ j child z.at

  in-spaces : j < length k.spaces.places
  in-spaces = let low = in-table in omega (arith, is.all, is.spaces, low)

  pub collected-kernel : IsKernel (collected k (Some j))
  collected-kernel = record {
    all = length-set k.table.places j None ∙ is.all;
    spaces = length-set k.spaces.places j None ∙ is.spaces;
    stands = stands-set _ _ j None None in-table in-spaces tt is.stands;
    runs = runs-set _ j None _ _ in-table (sym rests) (λ n other. refl) is.runs;
    used = λ up. used-put (is.used up) j None
        (sym (ap home_in z.at ∙ ap (λ b. if b then None else Some child.directory) z.ended));
    fits = omega (arith, taken-placed k.spaces j None in-spaces, is.fits);
    opened = opened-names _ _ _ j None
        (λ n. sym (ap (names_in n) z.at
        ∙ ap (names n) (ended-place child _ z.ended
        (subst (λ (o : Option Process). IsPlace o (slot k.spaces.places j)) z.at (is.stands j))) ∙ names-none n)) tt
        is.opened;
  }

pub collected-run : {k : Kernel} {i : ℕ} (x : Runner k i) (j : ℕ) → j ≢ i
    → IsRun (collected k (Some j)) i x.process x.held
collected-run {k} {i} x j apart =
    let back : i ≢ j = λ e. apart (sym e) in
    record {
      active = x.run.active;
      process = slot-other _ j i None back ∙ x.run.process;
      space = slot-other _ j i None back ∙ x.run.space;
      placed = x.run.placed;
      runs = x.run.runs;
    }

pub collected-state : {k : Kernel} {i : ℕ} (x : Runner k i) (j : ℕ) (child : Process) → IsZombie k j child → j ≢ i
    → state_of (collected k (Some j)) ≡ record (state_of k) { places = clear (state_of k).places j }
collected-state {k} {i} x j child z apart =
    let q = on_hart k.spaces x.process in
    let rest = base (rest_of k) in
    let old = with_process k.table i q in
    let in-spaces : j < length k.spaces.places =
    omega (arith, slot-within _ j child z.at, x.sound.all, x.sound.spaces) in
    let swap : put (clear k.table.places j) i q ≡ clear (put k.table.places i q) j =
    set_comm k.table.places j i None (Some q) apart in
    state-run _ i _ _ (collected-run x j apart)
    ∙ ap (λ (places : Processes). with_table rest (record k.table { places = places })
    (slice_set k.spaces.places j None)) swap
    ∙ sym (ap (λ places. record (with_table rest old k.spaces.places) { places = places })
    (put-joined _ _ j None None in-spaces))
    ∙ sym (ap (λ (s : State). record s { places = clear s.places j }) (state-run k i _ _ x.run))

-- ---- the step

-- a slot that becomes free, where there is one
pub watched-without : {a : State} (t : Places) → IsWatched a t.places t.awake → (o : Option ℕ)
    → IsWatched a (without t o).places (without t o).awake
watched-without t watched None = watched
watched-without t watched (Some j) = watched-put watched j None (λ pid is. absurd (true≢false (sym is))) (λ out. tt)

pub unreaped-go : (t : Places) (pid : ℕ) (o : Option ℕ) → zombie_place t pid ≡ o → reaped_at t o ≡ None
    → zombie_place t pid ≡ None
unreaped-go t pid None found is = found
unreaped-go t pid (Some j) found is =
    let f = place_where-Some (is_zombie_child_of pid) _ j found in
    let e : Some (reaped_from j f.0) ≡ None = sym (ap (option_map (reaped_from j)) f.1.0) ∙ is in
    absurd (cc)

-- what the table gave back
pub record HasReaped (k : Kernel) (parent : ℕ) (r : Reaped) : Type 0 where
  pub child : Process
  pub found : zombie_place k.table parent ≡ Some r.place
  pub zombie : IsZombie k r.place child
  pub pid : r.pid ≡ child.pid
  pub status : r.status ≡ status_of child.mode

has-go : (k : Kernel) (parent : ℕ) (r : Reaped) (o : Option ℕ) → zombie_place k.table parent ≡ o
    → reaped_at k.table o ≡ Some r → HasReaped k parent r
has-go k parent r None found is = absurd (cc)
has-go k parent r (Some j) found is =
    let f = place_where-Some (is_zombie_child_of parent) _ j found in
    let e : Some (reaped_from j f.0) ≡ Some r = sym (ap (option_map (reaped_from j)) f.1.0) ∙ is in
    let g : reaped_from j f.0 ≡ r = cc in
    let place : j ≡ r.place = ap (λ (y : Reaped). y.place) g in
    record {
      child = f.0;
      found = found ∙ ap Some place;
      zombie = record {
        at = ap (slot k.table.places) (sym place) ∙ f.1.0;
        ended = (and_parts _ (is_zombie_mode f.0.mode) f.1.1).1;
      };
      pid = sym (ap (λ (y : Reaped). y.pid) g);
      status = sym (ap (λ (y : Reaped). y.status) g);
    }

pub has-reaped : {k : Kernel} {parent : ℕ} {r : Reaped} → Some r ≡ reaped_at k.table (zombie_place k.table parent)
    → HasReaped k parent r
has-reaped {k} {parent} {r} said = has-go k _ r _ refl (sym said)
