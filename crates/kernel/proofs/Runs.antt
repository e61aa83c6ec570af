-- The running process, and what becomes of the state where it alone changes.
use Rattle.kernel.proofs.Common.{Bool, subst, ◌≡◌, ◌≢◌, ℕ, ◌<◌, ◌≤◌, inl, inr, true, List, length, Option, Some, None}
use Rattle.kernel.proofs.Common.{refl, ap, sym, ◌∙◌, if◌then◌else◌, is_some, no_pages, unwrap_or, space_in, with_space}
use Rattle.kernel.proofs.Common.{option_map, slice_set, get_or-set_other, get_or-set_same, length-set, set-get_or}
use Rattle.kernel.proofs.Common.{descriptors_in, not-true, none-some, same_Some, Kernel, base, lives, loaded, on_hart}
use Rattle.kernel.proofs.Common.{rest_of, eq-eqb, state_of, IsKernel, IsPlace, IsPlaced, is_at, home_in, Process}
use Rattle.kernel.proofs.Common.{Places, with_table, SpaceView, has_space, taken_frames, Mode, Running, put, slot}
use Rattle.kernel.proofs.Common.{is_running_mode, is_zombie_mode, State, holds, process_at, put_process, answered}
use Rattle.kernel.proofs.Common.{IsLive, IsMode, Memory, with_answer, change_process, false, cases_eq, set-set}
use Rattle.kernel.proofs.Holding.{used-put, Processes, Views}
use Rattle.kernel.proofs.Joined.{opened-put, waits-running, put-joined, put_kept-joined, slot-joined}
use Rattle.proc.specs.Places as table
use Rattle.unixmodel.specs.Process as unix
pub use Rattle.name_rules.proofs.Finding.{slot-within}

-- ---- slots

pub slot-put : {X : Type 0} (xs : List (Option X)) (i : ℕ) (o : Option X) → i < length xs
    → slot (slice_set xs i o) i ≡ o
slot-put xs i o h = get_or-set_same xs i o None h

pub slot-other : {X : Type 0} (xs : List (Option X)) (i j : ℕ) (o : Option X) → j ≢ i
    → slot (slice_set xs i o) j ≡ slot xs j
slot-other xs i j o h = get_or-set_other xs i j o None h

-- a slot is set to what it holds already
pub set-slot : {X : Type 0} (xs : List (Option X)) (i : ℕ) (o : Option X) → slot xs i ≡ o → slice_set xs i o ≡ xs
set-slot xs i o is = rw (← is) (set-get_or xs i None)

abbrev pub with_process : Places → ℕ → Process → Places
with_process t i p = record t { places = put t.places i p }

-- process p and its space are put in slot i
module _ (s : State) (t : Places) (hs : Views) (i : ℕ) (p : Process) where
  pub process-with : slot t.places i ≡ Some p → process_at (with_table s t hs) i ≡ Some (with_space (space_in hs i) p)
  process-with is = slot-joined t.places hs i ∙ ap (option_map (with_space (space_in hs i))) is

  -- a process is put in slot i, and its space stays
  pub put-same : {h : SpaceView} → slot hs i ≡ Some h
      → with_table s (with_process t i p) hs ≡ put_process (with_table s t hs) i (with_space h p)
  put-same space =
      ap (λ places. record (with_table s t hs) { places = places }) (sym (put_kept-joined t.places hs i p))
      ∙ ap (λ (o : Option SpaceView). put_process (with_table s t hs) i (with_space (unwrap_or o no_pages) p)) space

-- ---- the running process

pub record IsRun (k : Kernel) (i : ℕ) (p : Process) (h : SpaceView) : Type 0 where
  pub active : k.spaces.active ≡ Some i
  pub process : slot k.table.places i ≡ Some p
  pub space : slot k.spaces.places i ≡ Some h
  pub placed : IsPlaced p h
  pub runs : p.mode ≡ Running

running-mode : (m : Mode) → is_running_mode m ≡ true → m ≡ Running
running-mode Running h = refl
running-mode _ h = absurd (cc)

running-process : (o : Option Process) → holds table.is_running o ≡ true
    → (p : Process) × ((o ≡ Some p) × (p.mode ≡ Running))
running-process None runs = absurd (cc)
running-process (Some p) runs = (p, (refl, running-mode _ runs))

-- a slot with a process has a space, which fits it
pub space-of : (o : Option Process) (q : Option SpaceView) (p : Process) → o ≡ Some p → IsPlace o q
    → (h : SpaceView) × ((q ≡ Some h) × IsPlaced p h)
space-of None q p at is = absurd (none-some p at)
space-of (Some x) None p at is = absurd is
space-of (Some x) (Some h) p at is = (h, (refl, subst (λ (y : Process). IsPlaced y h) (same_Some x p at) is))

pub place-space : (o : Option Process) (q : Option SpaceView) (p : Process) → o ≡ Some p → IsPlace o q
    → is_some q ≡ true
place-space o q p at is = ap is_some (space-of o q p at is).1.0

-- the active slot has the running process
pub run-of : (k : Kernel) (i : ℕ) → IsKernel k → k.spaces.active ≡ Some i
    → (p : Process) × ((h : SpaceView) × IsRun k i p h)
run-of k i is active =
    let here : is_at i k.spaces.active ≡ true = rw active (eq-eqb i i refl) in
    let p = running-process _ (is.runs i ∙ here) in
    let h = space-of _ _ p.0 p.1.0 (is.stands i) in
    (p.0, (h.0, record { active = active; process = p.1.0; space = h.1.0; placed = h.1.1; runs = p.1.1 }))

-- in terms of the fields: k is what they show, now is the kernel's value
pub active-space : {k now : Kernel} {i : ℕ} → k ≡ now → IsKernel k → now.spaces.active ≡ Some i
    → has_space k.spaces i ≡ true
active-space {k} {now} {i} same is active = ap is_some (run-of k i is (rw (← same) at active)).1.1.space

-- none runs: the state has the table as it is
pub state-idle : (k : Kernel) → k.spaces.active ≡ None
    → state_of k ≡ with_table (base (rest_of k)) k.table k.spaces.places
state-idle k idle = rw idle refl

-- slot i has process p with space h
pub record IsThere (k : Kernel) (i : ℕ) (p : Process) (h : SpaceView) : Type 0 where
  pub process : slot k.table.places i ≡ Some p
  pub space : slot k.spaces.places i ≡ Some h
  pub placed : IsPlaced p h

pub there-of : (k : Kernel) (i : ℕ) (p : Process) → IsKernel k → slot k.table.places i ≡ Some p
    → (h : SpaceView) × IsThere k i p h
there-of k i p is at =
    let h = space-of _ _ p at (is.stands i) in
    (h.0, record { process = at; space = h.1.0; placed = h.1.1 })

pub process-idle : (k : Kernel) (i : ℕ) {p : Process} {h : SpaceView} → k.spaces.active ≡ None → IsThere k i p h
    → process_at (state_of k) i ≡ Some (with_space h p)
process-idle k i {p} {h} none t =
    ap (λ (s : State). process_at s i) (state-idle k none)
    ∙ process-with (base (rest_of k)) k.table _ i p t.process
    ∙ ap (λ (o : Option SpaceView). Some (with_space (unwrap_or o no_pages) p)) t.space

-- as the abstract Unix sees it
abbrev pub self : Kernel → Process → SpaceView → unix.Process
self k p h = with_space h (on_hart k.spaces p)

module _ (k : Kernel) (i : ℕ) (p : Process) (h : SpaceView) (r : IsRun k i p h) where
  pub loaded-run : loaded k ≡ with_process k.table i (on_hart k.spaces p)
  loaded-run = rw (r.active, r.process) refl

  pub within-run : i < length k.table.places
  within-run = slot-within _ i p r.process

  pub state-run : state_of k
      ≡ with_table (base (rest_of k)) (with_process k.table i (on_hart k.spaces p)) k.spaces.places
  state-run = rw loaded-run refl

  pub process-run : process_at (state_of k) i ≡ Some (self k p h)
  process-run =
      let table = with_process k.table i (on_hart k.spaces p) in
      ap (λ (s : State). process_at s i) state-run
      ∙ process-with (base (rest_of k)) table _ i _ (slot-put _ i _ within-run)
      ∙ ap (λ (o : Option SpaceView). Some (with_space (unwrap_or o no_pages) (on_hart k.spaces p))) r.space

-- it works in its directory
pub home-running : (p : Process) → p.mode ≡ Running → home_in (Some p) ≡ Some p.directory
home-running p runs = ap (λ (m : Mode). if is_zombie_mode m then None else Some p.directory) runs

-- and so does one that lives
pub home-living : (p : Process) → lives p ≡ true → home_in (Some p) ≡ Some p.directory
home-living p alive = ap (λ (b : Bool). if b then None else Some p.directory) (not-true _ alive)

-- ---- the running process alone changes

-- it is p now, except for its registers and its pc, and its space shows h
abbrev pub moved : Kernel → ℕ → Process → SpaceView → List ℕ → ℕ → Kernel
moved k i p h registers pc = record k {
  table = with_process k.table i p;
  spaces = record k.spaces { places = slice_set k.spaces.places i (Some h); registers = registers; pc = pc };
}

-- a slot gets another process and another space
pub stands-set : (os : Processes) (hs : Views) (i : ℕ) (o : Option Process) (q : Option SpaceView) → i < length os
    → i < length hs → IsPlace o q
    → ((j : ℕ) → IsPlace (slot os j) (slot hs j)) → (j : ℕ)
    → IsPlace (slot (slice_set os i o) j) (slot (slice_set hs i q) j)
stands-set os hs i o q short low is stands j = elim (cases_eq j i) [
  | inl same ↦ rw (same, slot-put os i o short, slot-put hs i q low) is
  | inr other ↦ rw (slot-other os i j o other, slot-other hs i j q other) (stands j)
]

-- another slot runs
pub runs-set : (os : Processes) (i : ℕ) (o : Option Process) (before after : Option ℕ) → i < length os
    → holds table.is_running o ≡ is_at i after
    → ((j : ℕ) → j ≢ i → is_at j after ≡ is_at j before)
    → ((j : ℕ) → holds table.is_running (slot os j) ≡ is_at j before) → (j : ℕ)
    → holds table.is_running (slot (slice_set os i o) j) ≡ is_at j after
runs-set os i o before after short here others runs j = elim (cases_eq j i) [
  | inl same ↦ rw (same, slot-put os i o short) here
  | inr other ↦ rw (slot-other os i j o other, others j other) (runs j)
]

module _ (k : Kernel) (i : ℕ) (p : Process) (h : SpaceView) (r : IsRun k i p h) (is : IsKernel k) where
  pub within-space : i < length k.spaces.places
  within-space = slot-within _ i h r.space

  module _ (p' : Process) (h' : SpaceView) (registers : List ℕ) (pc : ℕ) (placed : IsPlaced p' h')
      (runs : p'.mode ≡ Running) where
    pub moved-run : IsRun (moved k i p' h' registers pc) i p' h'
    moved-run = record {
      active = r.active;
      process = slot-put _ i (Some p') (within-run k i p h r);
      space = slot-put _ i (Some h') within-space;
      placed = placed;
      runs = runs;
    }

    pub moved-kernel : p'.descriptors ≡ p.descriptors → p'.directory ≡ p.directory
        → taken_frames (moved k i p' h' registers pc).spaces ≤ k.spaces.frames → IsKernel (moved k i p' h' registers pc)
    moved-kernel same home fits = record {
      all = length-set k.table.places i (Some p') ∙ is.all;
      spaces = length-set k.spaces.places i (Some h') ∙ is.spaces;
      stands = stands-set _ _ i _ _ (within-run k i p h r) within-space placed is.stands;
      runs = runs-set _ i _ _ _ (within-run k i p h r) (rw (runs, r.active) (sym (eq-eqb i i refl))) (λ j other. refl)
          is.runs;
      used = λ up. used-put (is.used up) i (Some p')
          (home-running p' runs ∙ ap Some home ∙ sym (home-running p r.runs) ∙ sym (ap home_in r.process));
      fits = fits;
      opened = opened-put _ _ _ i _ (same ∙ sym (ap descriptors_in r.process)) (waits-running k.files p' runs)
          is.opened;
    }

    -- this is the process that the abstract Unix puts in slot i
    pub moved-state : state_of (moved k i p' h' registers pc)
        ≡ put_process (state_of k) i (with_space h' (record p' { registers = registers; pc = pc }))
    moved-state =
        let q = record p' { registers = registers; pc = pc } in
        let twice : put (put k.table.places i p') i q ≡ put (put k.table.places i (on_hart k.spaces p)) i q =
        set-set k.table.places i (Some p') (Some q)
        ∙ sym (set-set k.table.places i (Some (on_hart k.spaces p)) (Some q)) in
        let hs = slice_set k.spaces.places i (Some h') in
        state-run _ i p' h' moved-run
        ∙ ap (λ (places : Processes). with_table (base (rest_of k)) (record k.table { places = places }) hs) twice
        ∙ sym (ap (λ places. record (base (rest_of k))
        { places = places; last = k.table.last; next_pid = k.table.next_pid })
        (put-joined _ _ i (Some q) (Some h') within-space))
        ∙ sym (ap (λ (s : State). put_process s i (with_space h' q)) (state-run k i p h r))

-- ---- the hart alone changes

abbrev pub on_regs : Kernel → List ℕ → ℕ → Kernel
on_regs k registers pc = record k { spaces = record k.spaces { registers = registers; pc = pc } }

-- a running process may be in that mode
pub runs-mode : (p : Process) (memory : Memory) (mode : Mode) → mode ≡ Running → IsLive p → p.killed ≡ false
    → IsMode p memory mode
runs-mode p memory mode e l n = rw e (l, n)

-- a process that was put in a slot is changed
pub change-put : (i : ℕ) (s : State) (p : unix.Process) (change : unix.Process → unix.Process) → i < length s.places
    → change_process (put_process s i p) i change ≡ put_process s i (change p)
change-put i s p change short =
    ap (λ (o : Option unix.Process). record s { places = slice_set (put s.places i p) i (option_map change o) })
    (slot-put _ i (Some p) short)
    ∙ ap (λ (places : List (Option unix.Process)). record s { places = places })
    (set-set s.places i (Some p) (Some (change p)))

pub regs-kernel : (k : Kernel) → IsKernel k → (registers : List ℕ) (pc : ℕ) → IsKernel (on_regs k registers pc)
regs-kernel k is registers pc =
    record {
      all = is.all;
      spaces = is.spaces;
      stands = is.stands;
      runs = is.runs;
      fits = is.fits;
      opened = is.opened;
      used = is.used;
    }

run-mode : (p : Process) (memory : Memory) (mode : Mode) → mode ≡ Running → IsMode p memory mode
    → IsLive p × (p.killed ≡ false)
run-mode p memory mode e is = rw e at is

module _ (k : Kernel) (i : ℕ) (p : Process) (h : SpaceView) (r : IsRun k i p h) (is : IsKernel k) where
  pub regs-run : (registers : List ℕ) (pc : ℕ) → IsRun (on_regs k registers pc) i p h
  regs-run registers pc = record
      { active = r.active; process = r.process; space = r.space; placed = r.placed; runs = r.runs }

  pub regs-state : (registers : List ℕ) (pc : ℕ)
      → state_of (on_regs k registers pc)
      ≡ put_process (state_of k) i (with_space h (record p { registers = registers; pc = pc }))
  regs-state registers pc =
      let table = set-slot _ i _ r.process in
      let places = set-slot _ i _ r.space in
      let same : moved k i p h registers pc ≡ on_regs k registers pc = rw (table, places) refl in
      ap state_of (sym same) ∙ moved-state k i p h r is p h registers pc r.placed r.runs

  -- the running process is changed
  pub change-run : (change : unix.Process → unix.Process)
      → change_process (state_of k) i change ≡ put_process (state_of k) i (change (self k p h))
  change-run change = ap (λ (o : Option unix.Process). record (state_of k)
      { places = slice_set (state_of k).places i (option_map change o) }) (process-run k i p h r)

  pub answer-run : (value : ℕ) → change_process (state_of k) i (with_answer value) ≡ state_of (answered k value)
  answer-run value = change-run (with_answer value) ∙ sym (regs-state _ _)

  -- it is not killed
  pub not-killed : p.killed ≡ false
  not-killed = (run-mode p _ _ r.runs r.placed.mode).1

  pub live : IsLive p
  live = (run-mode p _ _ r.runs r.placed.mode).0
