-- The kernel and the state that begin with the plan of /init.
use Rattle.machine.proofs.Common.{all_in, alone, ap, arith, bare_of, begun, count_at, count_in, Counted, false, file_of}
use Rattle.machine.proofs.Common.{Files, files_on, FileTree, first_of, first_process, first_state, FitsNode, free_slots}
use Rattle.machine.proofs.Common.{holders, home_in, homes_at, if_fits, IfSome, is_some, IsCounted, IsFolder, IsInUse}
use Rattle.machine.proofs.Common.{IsKernel, IsOpened, IsOpenFile, IsPlaced, joined, joined-free_slots, KeepsTree}
use Rattle.machine.proofs.Common.{Kernel, length, length-replicate, List, names-none, names_in, nat_tests, node_in}
use Rattle.machine.proofs.Common.{node_of, node_on, None, none-some, one_in, open_limit, opens_of, Option, option_map}
use Rattle.machine.proofs.Common.{page_frames, Places, Plan, Process, refl, replicate, slot, slot-opens, Some}
use Rattle.machine.proofs.Common.{sound_view, Spaces, State, state_of, subst, suc, sum_by-cons, sum_by-replicate, sym}
use Rattle.machine.proofs.Common.{View, WaitsWell, with_hold, zero, zeros, ℕ, ◌%◌, ◌+◌, ◌<◌, ◌==◌, ◌∙◌, ◌∷◌, ◌≡◌, ◌≢◌}
use Rattle.machine.proofs.Common.{◌≤◌}
use Rattle.unixmodel.specs.Start.{init_plan, start}
use Rattle.machine.specs.declared.image_boot.Init.{Init}
use Rattle.machine.specs.Booted.{first_places, init_kernel, IsBegun, IsInPlace, IsUnheld, LacksInit, PutsInit, view_by}
use Rattle.machine.proofs.FlatLemmas.{fresh-fits, fresh-over, none-free, one-home, one-sound, first-alone, same-past}
use Rattle.tree.specs.Whole.{IsWhole}
use Rattle.unixmodel.specs.OpenFiles as unix_files
use Rattle.unixmodel.specs.Outcome.{no_descriptors}
use Rattle.unixmodel.specs.Process as unix

-- ---- the state

-- the state that process 1 begins with
abbrev pub begun_with : Files → ℕ → ℕ → Plan → State
begun_with files limit frames new =
    first_state files limit frames (free_slots open_limit) (first_process new no_descriptors)

pub state-init : (tree : FileTree) (frames : ℕ) (new : Plan)
    → state_of (init_kernel tree frames new) ≡ begun_with tree.files tree.block_limit frames new
unfolding joined free_slots
state-init tree frames new =
    ap (λ (places : List (Option unix.Process)). record (begun_with tree.files tree.block_limit frames new)
    { places = Some (first_process new no_descriptors) ∷ places })
    (joined-free_slots 63 (replicate 63 None))

starts-with : (files : Files) (limit frames : ℕ) (new : Plan) → init_plan files ≡ Some new
    → start files limit frames ≡ if_fits (begun_with files limit frames new)
unfolding start
starts-with files limit frames new is = rw is refl

pub start-init : (tree : FileTree) (frames : ℕ) (new : Plan) → init_plan tree.files ≡ Some new
    → 4 + page_frames (length new.memory) ≤ frames
    → start tree.files tree.block_limit frames ≡ Some (state_of (init_kernel tree frames new))
start-init tree frames new is fits =
    starts-with tree.files tree.block_limit frames new is
    ∙ fresh-fits tree.files tree.block_limit frames (free_slots open_limit) new no_descriptors fits
    ∙ ap Some (sym (state-init tree frames new))

start-planless : (files : Files) (limit frames : ℕ) → init_plan files ≡ None → start files limit frames ≡ None
unfolding start
start-planless files limit frames none = rw none refl

-- there is no plan, or the frames don't suffice
pub start-none : (files : Files) (limit frames : ℕ)
    → ((p : Plan) → init_plan files ≡ Some p → frames < 4 + page_frames (length p.memory))
    → start files limit frames ≡ None
start-none files limit frames over = go (init_plan files) refl where
  go : (o : Option Plan) → init_plan files ≡ o → start files limit frames ≡ None
  go None is = start-planless files limit frames is
  go (Some new) is = starts-with files limit frames new is
      ∙ fresh-over files limit frames (free_slots open_limit) new no_descriptors (over new is)

-- ---- the kernel

init-placed : (new : Plan) → new.pc % 4 ≡ 0 → IsPlaced (first_of new) (view_by new)
unfolding no_descriptors free_slots zeros
init-placed new aligned = record { zero = refl; aligned = aligned; mode = record { descriptors = refl } }

-- ---- no file is open

abbrev no_files : List (Option Counted)
no_files = replicate 100 None

init-counted : (new : Plan) → IsCounted no_files (first_places new).places
unfolding free_slots
init-counted new n =
    let none : count_at no_files n ≡ 0 = ap count_in (same-past (Option Counted) None 100 n) in
    omega (
      arith,
      none,
      sum_by-cons (names_in n) (Some (first_of new)) (replicate 63 None),
      sum_by-replicate (names_in n) 63 None,
      names-none n,
    )

init-each : (n : ℕ) (f : unix_files.OpenFile) → slot (opens_of no_files) n ≡ Some f → IsOpenFile f
init-each n f at =
    absurd (none-some f (sym
    (slot-opens no_files n ∙ ap (option_map (λ (c : Counted). file_of c.file))
    (same-past (Option Counted) None 100 n)) ∙ at))

init-opened : (new : Plan) → IsOpened no_files (replicate 100 None) (first_places new).places
init-opened new = record {
  table = record {
    all = length-replicate {A = Option Counted} 100 None;
    named = λ i c at. absurd (none-some c (sym (same-past (Option Counted) None 100 i) ∙ at));
  };
  counted = init-counted new;
  each = init-each;
  all = length-replicate {A = Option (List ℕ)} 100 None;
  piped = λ q. ap is_some (same-past (Option (List ℕ)) None 100 q);
  waits = first-alone (WaitsWell no_files) (first_of new) tt tt;
}

-- ---- process 1 holds the root

init-files : (n : ℕ) → files_on no_files n ≡ 0
init-files n = none-free Counted (λ o. one_in n (node_in o)) refl 100

root-only : (new : Plan) (n : ℕ) → one_in n (Some 1) ≡ files_on no_files n + homes_at (first_places new).places n
root-only new n = omega (arith, init-files n, one-home (first_of new) refl n)

root-held : (count : ℕ) → 1 < count → (n : ℕ) → holders (with_hold (replicate count 0) 1) n ≡ one_in n (Some 1)
root-held zero more n = absurd (omega (arith, more))
root-held (suc zero) more n = absurd (omega (arith, more))
root-held (suc (suc m)) more zero = refl
root-held (suc (suc m)) more (suc zero) = refl
root-held (suc (suc m)) more (suc (suc n)) =
    let other : (1 == suc (suc n)) ≡ false = grind (arith, nat_tests) in
    rw other (same-past ℕ 0 m n)

-- a tree that was read in between
module _ {old tree : FileTree} (unheld : IsUnheld old) (same : tree ≡ record old { failures = tree.failures })
    (whole : IsWhole tree) where
  files_same : tree.files ≡ old.files
  files_same = ap (λ (t : FileTree). t.files) same

  rules-same : KeepsTree tree.files
  rules-same = subst KeepsTree (sym files_same) unheld.rules

  holds-same : tree.holds ≡ replicate unheld.count 0
  holds-same = ap (λ (t : FileTree). t.holds) same ∙ unheld.holds

  pub root-there : slot tree.files 1 ≢ None
  root-there none = none-some _ (sym none ∙ rules-same.root.here)

  root-within : 1 < unheld.count
  root-within = let low = (whole.numbers 1 root-there).0
      in omega (arith, low, ap length holds-same, length-replicate {A = ℕ} unheld.count 0)

  pub root-few : holders tree.holds 1 < 65535
  root-few = let none : holders tree.holds 1 ≡ 0 = ap (λ h. holders h 1) holds-same
      ∙ same-past ℕ 0 unheld.count 1 in omega (arith, none)

  init-fits : (k : ℕ) (c : Counted) → slot no_files k ≡ Some c
      → FitsNode c.file c.file.target (node_of tree.files (node_on c.file.target))
  init-fits k c at = absurd (none-some c (sym (same-past (Option Counted) None 100 k) ∙ at))

  init-used : (new : Plan) → IsInUse (record tree { holds = with_hold tree.holds 1 }) no_files (first_places new).places
  init-used new = record {
    rules = rules-same;
    zero = whole.zero;
    within = whole.within;
    holds = λ n. ap (λ h. holders (with_hold h 1) n) holds-same ∙ root-held unheld.count root-within n
        ∙ root-only new n;
    held = λ n node at bare. absurd
        (let some = unheld.linked n node (ap (λ (files : Files). slot files n) (sym files_same) ∙ at)
        in omega (arith, some, bare));
    fits = init-fits;
    homes = first-alone (λ o. IfSome (home_in o) (λ d. IsFolder (slot tree.files d))) (first_of new)
        (rw rules-same.root.here tt) tt;
  }

  pub init-sound : (frames : ℕ) (new : Plan) → 4 + page_frames (length new.memory) ≤ frames → new.pc % 4 ≡ 0
      → IsKernel (init_kernel tree frames new)
  unfolding free_slots
  init-sound frames new fits aligned =
      one-sound (record tree { holds = with_hold tree.holds 1 }) (first_of new) (view_by new) frames no_files
      (init-placed new aligned) refl fits (init-opened new) (init-used new)

-- ---- the kernel as it is made

-- the frames don't suffice, or there is no plan
pub not-begun : (tree : FileTree) (frames : ℕ) (s put : Spaces) → s.frames ≡ frames → (told : Option Init)
    → told ≡ None → PutsInit tree.files s.frames put told → start tree.files tree.block_limit frames ≡ None
not-begun tree frames s put count told none puts =
    let lacks : LacksInit tree.files s.frames = subst (PutsInit tree.files s.frames put) none puts in
    start-none tree.files tree.block_limit frames (λ p is. let more = lacks p is in omega (arith, more, count))

module _ {old mid : FileTree} (unheld : IsUnheld old) (same : mid ≡ record old { failures = mid.failures })
    (whole : IsWhole mid) {frames : ℕ} (s put : Spaces) (count : s.frames ≡ frames) {init : Init}
    {told_init : Option Init} (is_init : told_init ≡ Some init)
    (puts : PutsInit old.files s.frames put told_init) {held : FileTree}
    (holds_root : held ≡ record mid { holds = with_hold mid.holds 1 }) {table : Places}
    (first : table ≡ first_places (bare_of init)) {opens : List (Option Counted)} (none : opens ≡ free_slots 100)
  where
    placed : IsInPlace old.files s.frames put init
    placed = subst (PutsInit old.files s.frames put) is_init puts

    spaces-are : put ≡ alone frames (view_by placed.plan)
    spaces-are = placed.spaces ∙ ap (λ (n : ℕ). alone n (view_by placed.plan)) count

    table-is : table ≡ first_places placed.plan
    table-is = first ∙ ap (λ (p : Process).
        let t : Places = record { places = Some p ∷ free_slots 63; last = 63; next_pid = 2; awake = all_in 64 } in t)
        placed.bare

    kernel-is : begun held table put opens ≡ init_kernel mid frames placed.plan
    kernel-is = λ i. begun (holds_root i) (table-is i) (spaces-are i) (none i)

    pub kernel-sound : IsKernel (begun held table put opens)
    kernel-sound = subst IsKernel (sym kernel-is)
        (init-sound unheld same whole frames placed.plan (let fits = placed.fits in omega (arith, fits, count))
        placed.aligned)

    pub begun-init : {kernel : Kernel} → kernel ≡ begun held table put opens → {m : View}
        → m ≡ sound_view (state_of kernel) kernel.tree.failures kernel.tree.identity → old.failures ≤ mid.failures
        → IsBegun old frames m
    begun-init {kernel} made machine later =
        let fits = placed.fits in
        let planned : init_plan mid.files ≡ Some placed.plan = ap (λ (t : FileTree). init_plan t.files) same
        ∙ placed.is in
        let is : kernel ≡ init_kernel mid frames placed.plan = made ∙ kernel-is in
        rw (machine, is) (record {
          starts = sym (ap (λ (t : FileTree). start t.files t.block_limit frames) same)
              ∙ start-init mid frames placed.plan planned (omega (arith, fits, count));
          up = record { sound = refl; goes = refl };
          same_device = ap (λ (t : FileTree). t.identity) same;
          later = later;
        })
