-- A process is picked to run.
use Rattle.kernel.proofs.Common.{◌≡◌, ℕ, ◌<◌, ◌%◌, not, true, false, length, Some, None, refl, ap, sym, ◌∙◌, with_space}
use Rattle.kernel.proofs.Common.{slice_index, length-set, home_in, all-set, Kernel, base, ended, lives, rest_of}
use Rattle.kernel.proofs.Common.{state_of, IsKernel, IsPlace, IsPlaced, is_at, Process, with_table, SpaceView, Mode}
use Rattle.kernel.proofs.Common.{Ready, Running, slot, end_process, descriptors_in, Bool, negsuc, subst, if◌then◌else◌}
use Rattle.kernel.proofs.Common.{picked, started, started_as, CanRun, IsLive, changed, with_mode, quiet, State}
use Rattle.kernel.proofs.Common.{put_process, set-set, eq-eqb}
use Rattle.kernel.proofs.Holding.{used-put, Processes}
use Rattle.kernel.proofs.Joined.{opened-put}
use Rattle.kernel.proofs.Runs.{IsRun, home-living, runs-set, slot-put, slot-within, with_process, IsThere, there-of}
use Rattle.kernel.proofs.Runs.{state-idle, state-run, put-same}
use Rattle.kernel.proofs.Changes.{ended-is, ended-state, last-idle, other-at}
use Rattle.unixmodel.specs.Next as next

-- ---- a process is picked

-- none runs: the state has the table as it is
pub picked-state : (k : Kernel) (i : ℕ) → k.spaces.active ≡ None
    → state_of (picked k i) ≡ record (state_of k) { last = i }
picked-state k i idle = rw idle refl

-- process p lives in slot i, and none runs
module _ (k : Kernel) (i : ℕ) (p : Process) (h : SpaceView) (is : IsKernel k) (idle : k.spaces.active ≡ None)
    (t : IsThere k i p h) (alive : lives p ≡ true) where
  in-table : i < length k.table.places
  in-table = slot-within _ i p t.process

  -- ---- it runs

  abbrev q : Process
  q = record p { mode = Running }

  abbrev pub started_to : Kernel
  started_to = record k {
    table = with_process k.table i q;
    spaces = record k.spaces { active = Some i; registers = p.registers; pc = p.pc };
  }

  pub started-is : started k i ≡ started_to
  started-is = ap (started_as k i) t.process ∙ rw t.process refl

  module _ (l : IsLive p) (n : p.killed ≡ false) where
    q-placed : IsPlaced q h
    q-placed = record {
      zero = t.placed.zero;
      aligned = t.placed.aligned;
      mode = (record { descriptors = l.descriptors }, n);
    }

    pub started-run : IsRun started_to i q h
    started-run = record {
      active = refl;
      process = slot-put _ i (Some q) in-table;
      space = t.space;
      placed = q-placed;
      runs = refl;
    }

    pub started-kernel : IsKernel started_to
    started-kernel = record {
      all = length-set k.table.places i (Some q) ∙ is.all;
      spaces = is.spaces;
      stands = all-set (λ j x. IsPlace x (slot k.spaces.places j)) _ i _ (rw t.space q-placed) is.stands;
      runs = runs-set _ i _ _ (Some i) in-table (sym (eq-eqb i i refl))
          (λ j other. other-at i j other ∙ sym (ap (is_at j) idle)) is.runs;
      used = λ up. used-put (is.used up) i (Some q) (sym (home-living p alive) ∙ sym (ap home_in t.process));
      fits = is.fits;
      opened = opened-put _ _ _ i _ (sym (ap descriptors_in t.process)) tt is.opened;
    }

    pub started-state : state_of started_to ≡ put_process (state_of k) i (with_space h q)
    started-state =
        state-run _ i q h started-run
        ∙ ap (λ (places : Processes). with_table (base (rest_of k)) (record k.table { places = places })
        k.spaces.places) (set-set k.table.places i (Some q) (Some q))
        ∙ put-same (base (rest_of k)) k.table _ i q t.space
        ∙ sym (ap (λ (s : State). put_process s i (with_space h q)) (state-idle k idle))

    -- a picked process in user state runs
    pub picks-ready : p.mode ≡ Ready → next.picked (state_of k) i (with_space h p) ≡ quiet (state_of (started k i))
    picks-ready ready =
        let self = with_space h p in
        ap (λ (b : Bool). if b then quiet (end_process (state_of k) i self (negsuc 0))
        else next.picked_in (state_of k) i self self.mode) n
        ∙ ap (λ (m : Mode). next.picked_in (state_of k) i self m) ready
        ∙ ap quiet (sym (ap state_of started-is ∙ started-state))

  -- a picked process that is killed ends
  pub picks-killed : k.tree.failed ≡ false → slice_index k.spaces.registers 0 ≡ 0 → k.spaces.pc % 4 ≡ 0
      → p.killed ≡ true → next.picked (state_of k) i (with_space h p) ≡ quiet (state_of (ended k i (negsuc 0)))
  picks-killed up z a killed =
      let self = with_space h p in
      let last = last-idle k i p h idle t alive in
      ap (λ (b : Bool). if b then quiet (end_process (state_of k) i self (negsuc 0))
      else next.picked_in (state_of k) i self self.mode) killed
      ∙ ap quiet (ended-state k is z a i p h last (negsuc 0) up
      ∙ sym (ap state_of (ended-is k is z a i p h last (negsuc 0))))

-- what the hart takes over, in terms of the fields: k is what they show, now is the kernel's value
pub record Takes (k now : Kernel) (i : ℕ) (x : Process) : Type 0 where
  pub starts : record k {
    table = changed k.table i (with_mode Running);
    spaces = record k.spaces { active = Some i; registers = x.registers; pc = x.pc };
  } ≡ started now i
  pub keeps : IsKernel (record k {
    table = changed k.table i (with_mode Running);
    spaces = record k.spaces { active = Some i; registers = x.registers; pc = x.pc };
  })

pub takes : {k now : Kernel} {i : ℕ} {x : Process} → k ≡ now → IsKernel k → now.spaces.active ≡ None
    → CanRun (slot now.table.places i) → slot k.table.places i ≡ Some x → Takes k now i x
takes {k} {now} {i} {x} same is none may at =
    let idle = rw (← same) at none in
    let can : CanRun (Some x) = subst CanRun (ap (λ (y : Kernel). slot y.table.places i) (sym same) ∙ at) may in
    let t = there-of k i x is at in
    let alive = ap not can.1 in
    let starts = ap (started_as k i) (sym at) in
    record {
      starts = starts ∙ ap (λ (y : Kernel). started y i) same;
      keeps = subst IsKernel (sym (starts ∙ started-is k i x t.0 is idle t.1 alive))
          (started-kernel k i x t.0 is idle t.1 alive can.0 can.2);
    }
